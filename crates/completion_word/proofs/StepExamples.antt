-- What steps on a link are made of, what they tell a seat, and what the laws of the word rule say, by small numbers.
use Rattle.std.proofs.Common.{◌≡◌, refl, sym, ap, ◌∙◌, subst, List, ℕ, ◌+◌, ◌-◌, ◌<◌, ◌≤◌, [], ◌∷◌, length, None, Some, true, false, arith}
use Rattle.std.specs.Prelude.{slice_index}
use mathlib.Core.Option as maybe
use Rattle.atomic_table.specs.Table.{State, Me, Step, step, opening, Splits, Joins}
use Rattle.completion_word.specs.declared.answers.Learnt.TheVariants as learnt
use Rattle.completion_word.specs.declared.answers.Withdrawal.TheVariants as withdrawal
use Rattle.completion_word.specs.declared.answers.Look.TheVariants as look
use Rattle.completion_word.specs.declared.answers.Taking.TheVariants as taking
use Rattle.completion_word.specs.declared.seats.OwnerSeat.{OwnerSeat}
use Rattle.completion_word.specs.declared.seats.PeerSeat.{PeerSeat}
use Rattle.completion_word.specs.declared.standing.Standing.TheVariants.{Unused, Offered, Withdrawn, Taken, Passed}
use Rattle.completion_word.specs.declared.views.DecisionKind.TheVariants as outcome
use Rattle.completion_word.specs.declared.views.Decision.{Decision}
use Rattle.completion_word.specs.declared.views.OwnerNote.{OwnerNote}
use Rattle.completion_word.specs.declared.views.View.{View}
use Rattle.completion_word.specs.declared.words.Words.{Words}
use Rattle.completion_word.specs.Link.{offer, sighting, offer_at, decision_at, outcome_at, standing_by, standing_of, stamp_in, open_by, decided_by, Answered, Told}
use Rattle.completion_word.specs.Link.{new_owner, new_peer, owner_view, peer_view, both_views, no_view, owner_or, peer_or, owner_in, peer_in}
use Rattle.completion_word.specs.Seats.{owner_of, peer_of, IsOwnerOf, IsPeerOf, places_of}
use Rattle.completion_word.specs.Rule.{WordRule}
use Rattle.completion_word.specs.Steps.{withdrawal_if, number_said, with_learnt, Shows, ShowsOffer, IsOfferBelow, IsWithdrawalBelow, stamp_shown, stamp_seen, after_decision, taking_if}
use Rattle.completion_word.specs.Steps.{found_by, found_below, seen_at, peer_note, owner_notes, peer_notes, notes_of, with_notes, peer_with, owner_with, owner_note_or, peer_note_or}
use Rattle.completion_word.specs.Steps.{after_post, after_learn, after_pass, Posts, Withdraws, Learns, Looks, Takes, Passes, HearsOwner, HearsPeer, Checks, AgreesAsTold}
use Rattle.completion_word.specs.Laws.{NeverBoth, PassedIsWithdrawn, UsedAgain, ShownByItsWord}
use Rattle.completion_word.specs.Kept.{Holds, Telling, KeptByLoad, KeptByStore, KeptByExchange, Begins, SplitKeeps, PostKeeps, WithdrawKeeps, LearnKeeps, LookKeeps, TakeKeeps}
use Rattle.completion_word.specs.Kept.{PassKeeps, JoinKeeps, NoteKeeps, NoteJoinKeeps, ToldPeerKeeps, ToldOwnerKeeps, CheckKeeps}
use Rattle.completion_word.specs.InForce.{key_of, IsWordRule, IsInForce, TellsJust}
use Rattle.completion_word.proofs.Sides.{opens, splits}
use Rattle.completion_word.proofs.Examples.{two_posted, one_withdrawn, found_offer, one_looked, one_taken, one_late, taken_7, two_words, the_rule_holds, stray_word, the_rule_does_not_hold}

-- ---- words: 59 is 8 times 7 and 3

pub what_words_say : (stamp_in 59 ∷ stamp_in 0 ∷ [] ≡ 7 ∷ 0 ∷ []) × (standing_by 4 3 ∷ standing_by 5 3 ∷ [] ≡ Passed 3 ∷ Unused ∷ [])
    × (open_by 5 None ∷ open_by 5 (Some 9) ∷ [] ≡ Offered 5 ∷ Withdrawn 9 ∷ []) × (decided_by (outcome.Taken 7) ∷ decided_by (outcome.Passed 8) ∷ [] ≡ Taken 7 ∷ Passed 8 ∷ [])
what_words_say = (refl, refl, refl, refl)

pub outcomes_at_their_numbers : outcome_at (outcome.Taken 7 ∷ outcome.Passed 8 ∷ []) 1 ≡ outcome.Passed 8
outcomes_at_their_numbers = refl

-- ---- views

pub a_taking_answers : Answered 5 None taken_7
a_taking_answers = (7, omega arith, refl)

pub no_taking_answers_a_withdrawal : Answered 5 (Some 6) taken_7 → ⊥
no_taking_answers_a_withdrawal (t, lt, e) = let s = ap (λ (d : Decision). d.outcome) e in cc

pub nothing_false_was_told : Told one_withdrawn one_taken
nothing_false_was_told = record { of_peer = record { first = (one_taken.decisions, refl); look_true = λ s e. cc }; of_owner = omega arith }

pub told_of_offers_that_are_not : Told one_withdrawn (record one_taken { told_offers = 3 }) → ⊥
told_of_offers_that_are_not t = let le = t.of_owner in omega (arith, le)

pub views_in_what_is_known : (owner_in (both_views two_posted one_taken) ≡ two_posted) × (peer_in (both_views two_posted one_taken) ≡ one_taken) × (owner_in no_view ≡ new_owner)
    × (owner_or (Some two_posted) ≡ two_posted) × (peer_or None ≡ new_peer)
views_in_what_is_known = (refl, refl, refl, refl, refl)

pub the_view_of_a_seat : (s : OwnerSeat) (p : PeerSeat) → s.seat.me.0 ≡ owner_view two_posted → p.seat.me.0 ≡ peer_view one_taken → (owner_of s ≡ two_posted) × (peer_of p ≡ one_taken)
the_view_of_a_seat s p e f = (ap owner_in e, ap peer_in f)

-- both seats of some words are of the same table
pub seats_of_the_same_words : (s : OwnerSeat) (p : PeerSeat) (w : Words) → IsOwnerOf s w → IsPeerOf p w → s.seat.table_id ≡ p.seat.table_id
seats_of_the_same_words s p w e f = e ∙ sym f

pub as_many_places : (w : Words) → places_of w ≡ w.places
as_many_places w = refl

-- ---- what an exchange and a load tell

-- it found the number that it looked for, or 67, which is a taking of the stamp 8, or 50, which is a withdrawal of the stamp 6
pub what_exchanges_tell : (withdrawal_if true 65 ∷ withdrawal_if false 67 ∷ [] ≡ withdrawal.Withdrawn ∷ withdrawal.Taken 8 ∷ [])
    × (taking_if true 41 ∷ taking_if false 50 ∷ [] ≡ taking.Won ∷ taking.Withdrawn 6 ∷ []) × (number_said (maybe.some 4) ∷ number_said maybe.none ∷ [] ≡ 4 ∷ 0 ∷ [])
what_exchanges_tell = (refl, refl, refl)

pub what_is_learned_then : with_learnt (learnt.Passed 8) (outcome.Taken 7 ∷ []) ∷ with_learnt learnt.Undecided (outcome.Taken 7 ∷ []) ∷ []
    ≡ (outcome.Taken 7 ∷ outcome.Passed 8 ∷ []) ∷ (outcome.Taken 7 ∷ []) ∷ []
what_is_learned_then = refl

pub it_shows_the_offer : Shows 5 None (Offered 5)
it_shows_the_offer = (refl, refl)

pub it_shows_no_other : Shows 5 None (Offered 6) → ⊥
it_shows_no_other h = let e = h.1 in omega (arith, e)

pub looks_below_a_stamp : IsOfferBelow (look.Offered 5) 6 × IsWithdrawalBelow (look.Withdrawn 5) 6
looks_below_a_stamp = (omega arith, omega arith)

pub a_withdrawal_is_no_offer : IsOfferBelow (look.Withdrawn 5) 6 → ⊥
a_withdrawal_is_no_offer h = h

pub a_stamp_is_not_below_itself : IsWithdrawalBelow (look.Withdrawn 6) 6 → ⊥
a_stamp_is_not_below_itself h = omega (arith, h)

pub stamps_of_looks : stamp_shown (look.Offered 5) ∷ stamp_shown (look.Withdrawn 6) ∷ stamp_shown look.Nothing ∷ stamp_seen (Some (look.Offered 5)) ∷ stamp_seen None ∷ []
    ≡ 5 ∷ 6 ∷ 0 ∷ 5 ∷ 0 ∷ []
stamps_of_looks = refl

pub one_decision_more : after_decision (outcome.Taken 7) one_looked ≡ one_taken
one_decision_more = refl

-- ---- notes

-- up to the last of them that was found taken
pub leading_offers : found_by 0 (Some 7) ∷ found_by 0 None ∷ found_by 1 None ∷ found_below (found_offer 5 7 ∷ offer 8 ∷ []) ∷ found_below (offer 5 ∷ found_offer 8 9 ∷ offer 10 ∷ []) ∷ []
    ≡ 1 ∷ 0 ∷ 2 ∷ 1 ∷ 2 ∷ []
leading_offers = refl

pub looks_by_their_numbers : seen_at 1 (Some (look.Offered 8)) ∷ seen_at 1 None ∷ [] ≡ Some (sighting 1 (look.Offered 8)) ∷ None ∷ []
looks_by_their_numbers = refl

abbrev pub note : ℕ → ℕ → OwnerNote
note offered known = record { offered = offered; known = known }

pub notes_of_seats : (owner_notes (Some two_posted) ∷ owner_notes None ∷ [] ≡ Some (note 2 0) ∷ None ∷ [])
    × (peer_notes (Some one_taken) ∷ peer_notes None ∷ [] ≡ Some (record { decisions = taken_7 ∷ []; look = None; told_offers = 0 }) ∷ None ∷ [])
    × (notes_of (owner_view two_posted) ≡ record no_view { owner_note = Some (note 2 0) })
notes_of_seats = (refl, refl, refl)

pub a_seat_with_a_note : (with_notes (owner_view two_posted) (notes_of (peer_view one_taken)) ≡ owner_with two_posted (peer_note one_taken))
    × (with_notes (peer_view one_taken) (notes_of (owner_view two_posted)) ≡ peer_with one_taken (note 2 0))
a_seat_with_a_note = (refl, refl)

pub no_note_says_nothing : (owner_note_or None ∷ owner_note_or (Some (note 2 1)) ∷ [] ≡ note 0 0 ∷ note 2 1 ∷ [])
    × (peer_note_or None ≡ record { decisions = []; look = None; told_offers = 0 }) × (peer_note_or (Some (peer_note one_taken)) ≡ peer_note one_taken)
no_note_says_nothing = (refl, refl, refl)

-- ---- what steps tell a seat

abbrev pub seat : View → Me ℕ View
seat v = (v, [])

-- a load or a store, and an exchange
abbrev pub stores : ℕ → Step ℕ
stores n = step 0 0 n 0 maybe.none

abbrev pub exchanges : ℕ → ℕ → maybe.Option ℕ → Step ℕ
exchanges old new said = step 0 0 old new said

offers_in : {m n : Me ℕ View} → m ≡ n → length (owner_in m.0).offers ≡ length (owner_in n.0).offers
offers_in e = ap (λ (m : Me ℕ View). length (owner_in m.0).offers) e

last_in : {m n : Me ℕ View} → m ≡ n → (owner_in m.0).last ≡ (owner_in n.0).last
last_in e = ap (λ (m : Me ℕ View). (owner_in m.0).last) e

decisions_in : {m n : Me ℕ View} → m ≡ n → length (peer_in m.0).decisions ≡ length (peer_in n.0).decisions
decisions_in e = ap (λ (m : Me ℕ View). length (peer_in m.0).decisions) e

-- 41 is an offer of the stamp 5
pub it_posts : Posts (stores 41) (seat (owner_view new_owner)) 41 (seat (owner_view (after_post 5 new_owner)))
it_posts = refl

pub a_post_is_kept : Posts (stores 41) (seat (owner_view new_owner)) 41 (seat (owner_view new_owner)) → ⊥
a_post_is_kept h = let e : 0 ≡ 1 = offers_in h in omega (arith, e)

-- of the second of two offers, 65 is the offer of the stamp 8, 74 its withdrawal with 9, and 75 a taking with 9
pub it_withdraws : Withdraws (exchanges 65 74 (maybe.some 1)) (seat (owner_view two_posted)) 65 (seat (owner_view one_withdrawn))
it_withdraws = (refl, λ lt. absurd (omega (arith, lt)))

pub what_is_taken_is_not_withdrawn : Withdraws (exchanges 65 74 (maybe.some 1)) (seat (owner_view two_posted)) 75 (seat (owner_view one_withdrawn)) → ⊥
what_is_taken_is_not_withdrawn h = let e : 9 ≡ 8 = last_in h.0 in omega (arith, e)

pub it_learns : Learns (stores 0) (seat (owner_view two_posted)) 59 (seat (owner_view (after_learn (learnt.Taken 7) (Taken 7) two_posted)))
it_learns = (refl, (refl, omega arith), λ t e. cc, λ lt. absurd (omega (arith, lt)))

pub no_unused_word_is_loaded : (m : Me ℕ View) → Learns (stores 0) (seat (owner_view two_posted)) 0 m → ⊥
no_unused_word_is_loaded m h = h.1

pub it_looks : Looks (stores 0) (seat (peer_view new_peer)) 41 (seat (peer_view one_looked))
it_looks = (refl, λ lt. absurd (omega (arith, lt)))

pub an_offer_told_of_is_shown : (m : Me ℕ View) → Looks (stores 0) (seat (peer_view (record new_peer { told_offers = 1 }))) 0 m → ⊥
an_offer_told_of_is_shown m h = h.1 (omega arith) refl

pub it_takes : Takes (exchanges 41 59 maybe.none) (seat (peer_view one_looked)) 41 (seat (peer_view one_taken))
it_takes = (refl, omega arith)

pub what_is_withdrawn_is_not_taken : Takes (exchanges 41 59 maybe.none) (seat (peer_view one_looked)) 50 (seat (peer_view one_taken)) → ⊥
what_is_withdrawn_is_not_taken h = let e : 1 ≡ 0 = decisions_in h.0 in omega (arith, e)

-- 68 is a passing of the stamp 8
pub it_passes : Passes (stores 68) (seat (peer_view one_late)) 68 (seat (peer_view (after_pass 8 one_late)))
it_passes = (refl, omega arith)

pub a_passing_is_kept : Passes (stores 68) (seat (peer_view one_late)) 68 (seat (peer_view one_late)) → ⊥
a_passing_is_kept h = let e : 0 ≡ 1 = decisions_in h.0 in omega (arith, e)

pub the_peer_hears : HearsOwner (stores 0) (seat (peer_with one_taken (note 2 1))) 0 (seat (peer_view (record one_taken { told_offers = 2 })))
the_peer_hears = (refl, omega arith)

pub no_more_is_known_than_decided : (m : Me ℕ View) → HearsOwner (stores 0) (seat (peer_with one_taken (note 2 2))) 0 m → ⊥
no_more_is_known_than_decided m h = let le : 2 ≤ 1 = h.1 in omega (arith, le)

pub the_owner_hears : HearsPeer (stores 0) (seat (owner_with two_posted (peer_note one_taken))) 0 (seat (owner_view (record two_posted { told = taken_7 ∷ [] })))
the_owner_hears = (refl, omega arith)

pub no_more_is_told_than_offered : (m : Me ℕ View) → HearsPeer (stores 0) (seat (owner_with two_posted (record (peer_note one_taken) { told_offers = 3 }))) 0 m → ⊥
no_more_is_told_than_offered m h = let le : 3 ≤ 2 = h.1 in omega (arith, le)

a_new_one_agrees : AgreesAsTold new_owner
a_new_one_agrees = record {
  decided_offered = omega arith;
  answered = λ k lt. absurd (omega (arith, lt));
  learned_true = λ k lt told. absurd (omega (arith, lt));
  found_true = λ k lt told. absurd (omega (arith, lt));
  offers_stamped = λ k lt. absurd (omega (arith, lt));
  withdrawals_stamped = λ k lt. absurd (omega (arith, lt));
  counts_small = (omega arith, omega arith);
  look_true = λ s e. cc;
}

pub it_checks : Checks (stores 0) (seat (owner_view new_owner)) 0 (seat (owner_view new_owner))
it_checks = (refl, a_new_one_agrees)

pub a_decision_of_no_offer : (m : Me ℕ View) → Checks (stores 0) (seat (owner_view (record new_owner { told = taken_7 ∷ [] }))) 0 m → ⊥
a_decision_of_no_offer m h = let le : 1 ≤ 0 = h.1.decided_offered in omega (arith, le)

-- ---- what the rule means, as the laws say it of one offer

pub a_taken_offer_stands : NeverBoth → (s : State ℕ View) (h : WordRule 2 s) → 0 < length h.peer.decisions → (decision_at h.peer.decisions 0).outcome ≡ outcome.Taken 7
    → (offer_at h.owner.offers 0).withdrawn ≡ None
a_taken_offer_stands law s h = law 2 s h 0 7

pub a_passed_offer_is_withdrawn : PassedIsWithdrawn → (s : State ℕ View) (h : WordRule 2 s) → 1 < length h.peer.decisions → (decision_at h.peer.decisions 1).outcome ≡ outcome.Passed 11
    → (offer_at h.owner.offers 1).withdrawn ≡ Some (decision_at h.peer.decisions 1).answers
a_passed_offer_is_withdrawn law s h = law 2 s h 1 11

-- of one word, each offer before the last is learned and decided
pub one_word_is_used_again : UsedAgain → (s : State ℕ View) (h : WordRule 1 s) → length h.owner.offers < length h.owner.learned + 1 → 1 ≤ length h.owner.offers
    → (length h.owner.offers - 1 < length h.owner.learned) × (length h.owner.offers - 1 < length h.peer.decisions)
one_word_is_used_again law s h = law 1 s h

-- of two words, the second shows the fourth offer
pub its_word_shows_the_fourth : ShownByItsWord → (s : State ℕ View) (h : WordRule 2 s) → length h.owner.learned ≤ 3 → 3 < length h.owner.offers
    → ShowsOffer (offer_at h.owner.offers 3) (standing_of (slice_index s.words 1))
its_word_shows_the_fourth law s h = law 2 s h 3

-- ---- what the laws of steps say of two words

pub it_holds : Holds 2 two_words
it_holds = the_rule_holds

pub it_does_not_hold : Holds 1 stray_word → ⊥
it_does_not_hold = the_rule_does_not_hold

pub it_begins : Begins → Holds 2 (opening (0 ∷ 0 ∷ []) [] (both_views new_owner new_peer))
it_begins law = law 2 (omega arith)

pub a_split : SplitKeeps → Splits (Holds 2) 0 (both_views new_owner new_peer) (owner_view new_owner) (peer_view new_peer)
a_split law = law 2 0 new_owner new_peer

pub a_join : JoinKeeps → Joins (Holds 2) 0 (owner_view two_posted) 1 (peer_view one_taken) (both_views two_posted one_taken) no_view
a_join law = law 2 0 1 two_posted one_taken

-- the third offer stands in the first word again
pub a_post : PostKeeps → KeptByStore 2 0 0 (owner_view (record two_posted { learned = outcome.Taken 7 ∷ [] })) 0 97 Posts
a_post law = law 2 0 0 (record two_posted { learned = outcome.Taken 7 ∷ [] }) 12 (omega arith) (omega arith) (omega arith)

pub a_withdrawal : WithdrawKeeps → KeptByExchange 2 0 0 (owner_view two_posted) 1 65 74 (maybe.some 1) Withdraws
a_withdrawal law = law 2 0 0 two_posted 1 9 (omega arith) (omega arith) (refl, refl) (omega arith) (omega arith)

pub a_load : LearnKeeps → KeptByLoad 2 0 0 (owner_view two_posted) 0 Learns
a_load law = law 2 0 0 two_posted (omega arith)

pub a_look : LookKeeps → KeptByLoad 2 0 1 (peer_view one_taken) 1 Looks
a_look law = law 2 0 1 one_taken

pub a_taking : TakeKeeps → KeptByExchange 2 0 1 (peer_view one_looked) 0 41 59 maybe.none Takes
a_taking law = law 2 0 1 one_looked 5 7 refl (omega arith)

pub a_passing : PassKeeps → KeptByStore 2 0 1 (peer_view one_late) 0 68 Passes
a_passing law = law 2 0 1 one_late 6 8 refl (omega arith)

pub a_note : NoteKeeps → Splits (Holds 2) 1 (peer_view one_taken) (peer_view one_taken) (record no_view { peer_note = Some (peer_note one_taken) })
a_note law = law 2 1 (peer_view one_taken)

pub a_note_joined : NoteJoinKeeps → Joins (Holds 2) 0 (owner_view two_posted) 2 (record no_view { peer_note = Some (peer_note one_taken) }) (owner_with two_posted (peer_note one_taken)) no_view
a_note_joined law = law 2 0 2 (owner_view two_posted) (record no_view { peer_note = Some (peer_note one_taken) })

pub a_peer_told : ToldPeerKeeps → KeptByLoad 2 0 1 (peer_with one_taken (note 2 1)) 0 HearsOwner
a_peer_told law = law 2 0 1 one_taken (note 2 1)

pub an_owner_told : ToldOwnerKeeps → KeptByLoad 2 0 0 (owner_with two_posted (peer_note one_taken)) 0 HearsPeer
an_owner_told law = law 2 0 0 two_posted (peer_note one_taken)

pub a_check : CheckKeeps → KeptByLoad 2 0 0 (owner_view two_posted) 0 Checks
a_check law = law 2 0 0 two_posted

-- what a step tells is a relation between the seat before it and after it, as that it stays as it was
abbrev pub stays : Telling
stays st m n after = after ≡ m

-- ---- the rule in force

-- over words of which there are two, or one
pub it_is_in_force : (w : Words) → places_of w ≡ 2 → key_of w.table.shared ≡ 2 → IsInForce (λ k. WordRule k) w
it_is_in_force w two key s = let same = two ∙ sym key in (λ r. subst (λ (k : ℕ). WordRule k s) (sym same) r, λ r. subst (λ (k : ℕ). WordRule k s) same r)

-- the words of two new seats, before any is used
unused_words : WordRule 1 (record stray_word { words = 0 ∷ [] })
unused_words = splits 1 0 (both_views new_owner new_peer) new_owner new_peer refl (opening (0 ∷ []) [] (both_views new_owner new_peer)) (opens 1 (0 ∷ []) (omega arith) refl) refl

-- a rule that forgets what the words say, and speaks of the views of the seats alone
abbrev pub forgetful : ℕ → State ℕ View → Type 0
forgetful places s = (words : List ℕ) × WordRule places (record { words = words; homes = s.homes; views = s.views })

pub the_word_rule_is_itself : IsWordRule 2 (WordRule 2)
the_word_rule_is_itself s = (λ r. r, λ r. r)

pub a_part_is_forgotten : IsWordRule 1 (forgetful 1) → ⊥
a_part_is_forgotten law = the_rule_does_not_hold ((law stray_word).0 (0 ∷ [], unused_words))

pub a_forgetful_one_is_not : (w : Words) → places_of w ≡ 1 → key_of w.table.shared ≡ 1 → IsInForce forgetful w → ⊥
a_forgetful_one_is_not w one key law =
    the_rule_does_not_hold (subst (λ (k : ℕ). WordRule k stray_word) one ((law stray_word).0 (subst (λ (k : ℕ). forgetful k stray_word) (sym key) (0 ∷ [], unused_words))))

pub it_tells_just_that : TellsJust Posts Posts
it_tells_just_that st m n after = (λ h. h, λ h. h)

-- to tell nothing is not to tell that a post is kept
pub it_tells_too_little : TellsJust (λ st m n after. Unit {0}) Posts → ⊥
it_tells_too_little law = a_post_is_kept ((law (stores 41) (seat (owner_view new_owner)) 41 (seat (owner_view new_owner))).0 tt)

-- What the definitions of a link say of one with two words, by numbers.
use Rattle.std.proofs.Common.{◌≡◌, refl, sym, ap, subst, ℕ, zero, suc, ◌+◌, ◌<◌, ◌≤◌, [], ◌∷◌, length, None, Some, arith}
use Rattle.std.specs.Prelude.{slice_index, ◌%◌}
use Rattle.std.specs.Option.{ForSome}
use mathlib.Core.Option.{some}
use lib.ListN.{get_elem?}
use Rattle.atomic_table.specs.Table.{State}
use Rattle.completion_word.specs.declared.answers.Learnt.TheVariants as learnt
use Rattle.completion_word.specs.declared.answers.Withdrawal.TheVariants as withdrawal
use Rattle.completion_word.specs.declared.answers.Look.TheVariants as look
use Rattle.completion_word.specs.declared.answers.Taking.TheVariants as taking
use Rattle.completion_word.specs.declared.standing.Standing.TheVariants.{Unused, Offered, Withdrawn, Taken, Passed}
use Rattle.completion_word.specs.declared.views.DecisionKind.TheVariants as outcome
use Rattle.completion_word.specs.declared.views.Offer.{Offer}
use Rattle.completion_word.specs.declared.views.Decision.{Decision}
use Rattle.completion_word.specs.declared.views.Owner.{Owner}
use Rattle.completion_word.specs.declared.views.Peer.{Peer}
use Rattle.completion_word.specs.declared.views.View.{View}
use Rattle.completion_word.specs.Link.{offer, decision, sighting, offer_at, decision_at, new_owner, new_peer, standing_of, code, open_standing, decided_standing, AreWords, Answers}
use Rattle.completion_word.specs.Link.{IsTrueLook, Agreed, StartsWith, IsPast, IsTold, owner_view, peer_view}
use Rattle.completion_word.specs.inner.Stamps.{AreStamps}
use Rattle.completion_word.specs.Rule.{Knows, WordRule}
use Rattle.completion_word.specs.Steps.{after_post, IsOpen, after_withdraw, IsWithdrawalAsTold, learnt_of, after_learn, ShowsOffer, SeesFirst, IsLearntAsFound, IsLearntAsTold}
use Rattle.completion_word.specs.Steps.{look_of, after_look, IsLookAsTold, SawOfferBelow, SawWithdrawalBelow, after_take, after_pass, known_of, owner_note, peer_note}
use Rattle.completion_word.specs.Steps.{after_hearing, longer, after_told, owner_after_meeting, peer_after_meeting, AgreesAsTold, AreCounts}

-- ---- words: 8 times the stamp, and 1 to 4

pub the_numbers : code Unused ∷ code (Offered 3) ∷ code (Withdrawn 3) ∷ code (Taken 3) ∷ code (Passed 3) ∷ [] ≡ 0 ∷ 25 ∷ 26 ∷ 27 ∷ 28 ∷ []
the_numbers = refl

pub numbers_tell : standing_of 0 ∷ standing_of 25 ∷ standing_of 26 ∷ standing_of 27 ∷ standing_of 28 ∷ standing_of 29 ∷ [] ≡ Unused ∷ Offered 3 ∷ Withdrawn 3 ∷ Taken 3 ∷ Passed 3 ∷ Unused ∷ []
numbers_tell = refl

-- ---- the owner posts and withdraws

-- it posted two offers, with the stamps 5 and 8
abbrev pub two_posted : Owner
two_posted = after_post 8 (after_post 5 new_owner)

pub its_offers : two_posted.offers ≡ offer 5 ∷ offer 8 ∷ []
its_offers = refl

pub its_last_stamp : two_posted.last ≡ 8
its_last_stamp = refl

-- an offer that is withdrawn, and one that a withdrawal found taken
abbrev pub withdrawn_offer : ℕ → ℕ → Offer
withdrawn_offer stamp w = record { stamp = stamp; withdrawn = Some w; found_taken = None }

abbrev pub found_offer : ℕ → ℕ → Offer
found_offer stamp t = record { stamp = stamp; withdrawn = None; found_taken = Some t }

pub a_new_offer_is_open : IsOpen (offer 5)
a_new_offer_is_open = (refl, refl)

pub a_withdrawn_one_is_not : IsOpen (withdrawn_offer 8 9) → ⊥
a_withdrawn_one_is_not h = let e = h.0 in cc

pub one_found_taken_is_not : IsOpen (found_offer 5 7) → ⊥
one_found_taken_is_not h = let e = h.1 in cc

-- the second is withdrawn with the stamp 9
abbrev pub one_withdrawn : Owner
one_withdrawn = after_withdraw withdrawal.Withdrawn 1 9 two_posted

pub its_offers_then : one_withdrawn.offers ≡ offer 5 ∷ withdrawn_offer 8 9 ∷ []
its_offers_then = refl

pub the_withdrawal_is_its_last : one_withdrawn.last ≡ 9
the_withdrawal_is_its_last = refl

-- the withdrawal of the first came too late: it was taken with the stamp 7, and the owner's last stamp stays
pub one_found_taken : after_withdraw (withdrawal.Taken 7) 0 9 two_posted ≡ record two_posted { offers = found_offer 5 7 ∷ offer 8 ∷ [] }
one_found_taken = refl

-- ---- the owner learns

pub decisions_are_learned : learnt_of Unused ∷ learnt_of (Offered 5) ∷ learnt_of (Withdrawn 5) ∷ learnt_of (Taken 5) ∷ learnt_of (Passed 5) ∷ []
    ≡ learnt.Undecided ∷ learnt.Undecided ∷ learnt.Undecided ∷ learnt.Taken 5 ∷ learnt.Passed 5 ∷ []
decisions_are_learned = refl

pub one_is_learned : after_learn (learnt.Taken 7) (Taken 7) two_posted ≡ record two_posted { learned = outcome.Taken 7 ∷ []; loads = 1; saw = Taken 7 }
one_is_learned = refl

-- a load that tells of no decision is counted too
pub none_is_learned : after_learn learnt.Undecided (Offered 5) two_posted ≡ record two_posted { loads = 1; saw = Offered 5 }
none_is_learned = refl

-- a load sees the first offer of two: with its stamp, or as it is decided later; not the second one, an unused word or an earlier stamp
pub it_sees_the_first_offer : SeesFirst two_posted (Offered 5) × SeesFirst two_posted (Taken 6)
it_sees_the_first_offer = ((refl, refl), (refl, omega arith))

pub no_other_is_seen : SeesFirst two_posted (Offered 8) → ⊥
no_other_is_seen h = let same : 8 ≡ 5 = h.1 in absurd (omega (arith, same))

pub an_unused_word_is_not_seen : SeesFirst two_posted Unused → ⊥
an_unused_word_is_not_seen h = h

pub no_taking_of_an_earlier_stamp_is_seen : SeesFirst two_posted (Taken 5) → ⊥
no_taking_of_an_earlier_stamp_is_seen h = let later : 5 < 5 = h.1 in absurd (omega (arith, later))

-- one that its owner has withdrawn is seen withdrawn, or passed after that, and never taken
pub a_withdrawn_one_is_seen_so : ShowsOffer (withdrawn_offer 8 9) (Withdrawn 9) × ShowsOffer (withdrawn_offer 8 9) (Passed 10)
a_withdrawn_one_is_seen_so = (refl, (9, refl, omega arith))

pub a_withdrawn_one_is_not_seen_taken : ShowsOffer (withdrawn_offer 8 9) (Taken 10) → ⊥
a_withdrawn_one_is_not_seen_taken h = let e = h.0 in cc

-- ---- the peer looks and decides

pub offers_are_shown : look_of Unused ∷ look_of (Offered 5) ∷ look_of (Withdrawn 5) ∷ look_of (Taken 5) ∷ look_of (Passed 5) ∷ []
    ≡ look.Nothing ∷ look.Offered 5 ∷ look.Withdrawn 5 ∷ look.Nothing ∷ look.Nothing ∷ []
offers_are_shown = refl

-- it looked at an offer of stamp 5, and took it with 7: the decision answers that stamp
abbrev pub one_looked : Peer
one_looked = after_look (look.Offered 5) (Offered 5) new_peer

abbrev pub one_taken : Peer
one_taken = after_take taking.Won 7 one_looked

pub its_view_then : one_taken ≡ record { decisions = decision (outcome.Taken 7) 5 ∷ []; looks = 1; saw = Offered 5; look = None; told_offers = 0 }
its_view_then = refl

-- the taking came too late and found the withdrawal of stamp 6, which it passes with 8
abbrev pub one_late : Peer
one_late = after_take (taking.Withdrawn 6) 7 one_looked

pub nothing_is_decided : one_late ≡ record one_looked { look = Some (look.Withdrawn 6) }
nothing_is_decided = refl

pub it_is_passed : (after_pass 8 one_late).decisions ≡ decision (outcome.Passed 8) 6 ∷ []
it_is_passed = refl

-- a decision's stamp is above what was shown
pub taken_with_the_next_stamp : SawOfferBelow one_looked.look 6
taken_with_the_next_stamp = omega arith

pub not_with_the_same : SawOfferBelow one_looked.look 5 → ⊥
not_with_the_same h = omega arith

pub nothing_is_taken_unseen : SawOfferBelow new_peer.look 6 → ⊥
nothing_is_taken_unseen h = h

pub a_withdrawn_one_is_not_taken : SawOfferBelow one_late.look 9 → ⊥
a_withdrawn_one_is_not_taken h = h

pub passed_with_the_next_stamp : SawWithdrawalBelow one_late.look 7
passed_with_the_next_stamp = omega arith

pub not_passed_with_the_same : SawWithdrawalBelow one_late.look 6 → ⊥
not_passed_with_the_same h = omega arith

pub an_offered_one_is_not_passed : SawWithdrawalBelow one_looked.look 9 → ⊥
an_offered_one_is_not_passed h = h

-- ---- what is told

-- the owner found its second offer taken, so two are known to be decided
pub two_are_known : owner_note (after_withdraw (withdrawal.Taken 9) 1 10 two_posted) ≡ record { offered = 2; known = 2 }
two_are_known = refl

-- it has learned one
pub one_is_known : known_of (after_learn (learnt.Taken 7) (Taken 7) two_posted) ≡ 1
one_is_known = refl

pub none_is_known : known_of two_posted ≡ 0
none_is_known = refl

-- the look of the peer is at the offer after those that are decided
pub the_note_of_a_peer : peer_note (after_look (look.Offered 8) (Offered 8) one_taken) ≡ record {
  decisions = decision (outcome.Taken 7) 5 ∷ [];
  look = Some (sighting 1 (look.Offered 8));
  told_offers = 0;
}
the_note_of_a_peer = refl

-- an older note takes nothing back
pub it_hears_of_more : (after_hearing (record { offered = 2; known = 0 }) (record one_taken { told_offers = 1 })).told_offers ≡ 2
it_hears_of_more = refl

pub it_forgets_nothing : (after_hearing (record { offered = 1; known = 0 }) (record one_taken { told_offers = 2 })).told_offers ≡ 2
it_forgets_nothing = refl

abbrev pub taken_7 : Decision
taken_7 = decision (outcome.Taken 7) 5

abbrev pub passed_11 : Decision
passed_11 = decision (outcome.Passed 11) 9

pub the_longer_list : longer (taken_7 ∷ passed_11 ∷ []) (taken_7 ∷ []) ≡ taken_7 ∷ passed_11 ∷ []
the_longer_list = refl

pub the_second_of_two_as_long : longer (taken_7 ∷ []) (passed_11 ∷ []) ≡ passed_11 ∷ []
the_second_of_two_as_long = refl

pub it_is_told : after_told (record { decisions = taken_7 ∷ []; look = None; told_offers = 1 }) (record two_posted { told_look = Some (sighting 0 (look.Offered 5)) })
    ≡ record two_posted { told = taken_7 ∷ []; told_look = None }
it_is_told = refl

pub the_owner_after_a_meeting : owner_after_meeting one_looked two_posted ≡ record two_posted { told = []; told_look = Some (sighting 0 (look.Offered 5)) }
the_owner_after_a_meeting = refl

pub the_peer_after_a_meeting : peer_after_meeting two_posted one_taken ≡ record one_taken { told_offers = 2 }
the_peer_after_a_meeting = refl

pub the_counts : AreCounts (record { offered = 2; decided = 1; learned = 0 }) two_posted one_taken
the_counts = (refl, refl, refl)

pub not_these_counts : AreCounts (record { offered = 2; decided = 1; learned = 1 }) two_posted one_taken → ⊥
not_these_counts h = let e = h.2 in omega (arith, e)

-- ---- what was told binds what is found: the owner was told that its first offer is taken

abbrev pub told_one : Owner
told_one = record one_withdrawn { told = taken_7 ∷ [] }

same_taken : {s t : ℕ} → outcome.Taken s ≡ outcome.Taken t → s ≡ t
same_taken e = cc

pub a_withdrawal_finds_it : IsWithdrawalAsTold told_one 0 (withdrawal.Taken 7)
a_withdrawal_finds_it lt = (7, refl, refl)

pub no_withdrawal_withdraws_it : IsWithdrawalAsTold told_one 0 withdrawal.Withdrawn → ⊥
no_withdrawal_withdraws_it h = let e = (h (omega arith)).2 in cc

-- of the second it was told nothing
pub of_another_nothing_is_said : IsWithdrawalAsTold told_one 1 withdrawal.Withdrawn
of_another_nothing_is_said lt = absurd (omega arith)

pub a_load_tells_of_it : IsLearntAsTold told_one (learnt.Taken 7)
a_load_tells_of_it lt = refl

pub a_load_does_not_miss_it : IsLearntAsTold told_one learnt.Undecided → ⊥
a_load_does_not_miss_it h = let e = h (omega arith) in cc

abbrev pub found_one : Owner
found_one = after_withdraw (withdrawal.Taken 7) 0 9 two_posted

same_some : {s t : ℕ} → Some s ≡ Some t → s ≡ t
same_some e = cc

pub a_load_tells_what_was_found : IsLearntAsFound found_one (learnt.Taken 7)
a_load_tells_what_was_found t e = ap learnt.Taken (same_some e)

pub a_load_does_not_miss_what_was_found : IsLearntAsFound found_one learnt.Undecided → ⊥
a_load_does_not_miss_what_was_found h = let e = h 7 refl in cc

pub a_look_shows_an_offer_told_of : IsLookAsTold (record new_peer { told_offers = 1 }) look.Nothing → ⊥
a_look_shows_an_offer_told_of h = h (omega arith) refl

pub a_look_may_show_nothing : IsLookAsTold new_peer look.Nothing
a_look_may_show_nothing lt = omega arith

-- ---- the word rule: of two words, the first offer is taken with 7 and the second withdrawn with 9

abbrev pub peer : Peer
peer = one_taken

pub a_taking_answers_its_offer : Answers (offer 5) taken_7
a_taking_answers_its_offer = (7, omega arith, refl)

pub a_passing_answers_its_withdrawal : Answers (withdrawn_offer 8 9) passed_11
a_passing_answers_its_withdrawal = (11, omega arith, refl)

answers_of : {d e : Decision} → d ≡ e → d.answers ≡ e.answers
answers_of e = ap (λ (d : Decision). d.answers) e

outcome_of : {d e : Decision} → d ≡ e → d.outcome ≡ e.outcome
outcome_of e = ap (λ (d : Decision). d.outcome) e

-- a decision with the stamp that it answers
pub no_taking_with_the_same_stamp : Answers (offer 5) (decision (outcome.Taken 5) 5) → ⊥
no_taking_with_the_same_stamp (t, lt, e) = let s : 5 ≡ t = same_taken (outcome_of e) in omega arith

pub a_withdrawn_offer_is_never_taken : Answers (withdrawn_offer 8 9) (decision (outcome.Taken 11) 8) → ⊥
a_withdrawn_offer_is_never_taken (t, lt, e) = let s = outcome_of e in cc

pub an_offer_that_stands_is_never_passed : Answers (offer 5) (decision (outcome.Passed 7) 5) → ⊥
an_offer_that_stands_is_never_passed (t, lt, e) = let s = outcome_of e in cc

pub a_true_look : IsTrueLook one_withdrawn.offers 1 (look.Withdrawn 9)
a_true_look = (omega arith, refl)

pub a_look_with_another_stamp : IsTrueLook one_withdrawn.offers 1 (look.Offered 9) → ⊥
a_look_with_another_stamp h = let e = h.1 in omega (arith, e)

pub a_look_past_the_offers : IsTrueLook one_withdrawn.offers 2 (look.Offered 0) → ⊥
a_look_past_the_offers h = let lt = h.0 in omega (arith, lt)

pub words_tell : AreWords 2 (59 ∷ 74 ∷ []) one_withdrawn.offers peer.decisions
words_tell = record { one_each = refl; undecided = undecided; decided = decided; unused = λ k le lt. absurd (omega arith) } where
  undecided : (k : ℕ) → k < 2 → 1 ≤ k → slice_index (59 ∷ 74 ∷ []) (k % 2) ≡ code (open_standing (offer_at one_withdrawn.offers k))
  undecided zero lt le = absurd (omega arith)
  undecided (suc zero) lt le = refl
  undecided (suc (suc k)) lt le = absurd (omega arith)

  decided : (k : ℕ) → k < 1 → 2 ≤ k + 2 → slice_index (59 ∷ 74 ∷ []) (k % 2) ≡ code (decided_standing (decision_at peer.decisions k))
  decided zero lt le = refl
  decided (suc k) lt le = absurd (omega arith)

-- the word of a withdrawn offer does not stay offered
pub a_word_that_tells_otherwise : AreWords 2 (59 ∷ 65 ∷ []) one_withdrawn.offers peer.decisions → ⊥
a_word_that_tells_otherwise w = let e : 65 ≡ 74 = w.undecided 1 (omega arith) (omega arith) in omega (arith, e)

pub a_word_too_many : AreWords 2 (59 ∷ 74 ∷ 0 ∷ []) one_withdrawn.offers peer.decisions → ⊥
a_word_too_many w = let e = w.one_each in omega (arith, e)

pub they_agree : Agreed 2 one_withdrawn peer
they_agree = record {
  learned_decided = omega arith;
  decided_offered = omega arith;
  offered_within = omega arith;
  answered = answered;
  learned_true = λ k lt. absurd (omega arith);
  found_true = found;
  offers_stamped = stamped;
  withdrawals_stamped = withdrawals;
  counts_small = (omega arith, omega arith);
  look_true = λ seen e. cc;
} where
  answered : (k : ℕ) → k < 1 → Answers (offer_at one_withdrawn.offers k) (decision_at peer.decisions k)
  answered zero lt = a_taking_answers_its_offer
  answered (suc k) lt = absurd (omega arith)

  found : (k : ℕ) → k < 2 → ForSome (offer_at one_withdrawn.offers k).found_taken (λ t. (k < 1) × ((decision_at peer.decisions k).outcome ≡ outcome.Taken t))
  found zero lt t e = cc
  found (suc zero) lt t e = cc
  found (suc (suc k)) lt t e = absurd (omega arith)

  stamped : (k : ℕ) → k < 2 → (offer_at one_withdrawn.offers k).stamp ≤ 9
  stamped zero lt = omega arith
  stamped (suc zero) lt = omega arith
  stamped (suc (suc k)) lt = absurd (omega arith)

  withdrawals : (k : ℕ) → k < 2 → ForSome (offer_at one_withdrawn.offers k).withdrawn (λ w. ((offer_at one_withdrawn.offers k).stamp < w) × (w ≤ 9))
  withdrawals zero lt w e = cc
  withdrawals (suc zero) lt w e = let s : 9 ≡ w = same_some e in (omega arith, omega arith)
  withdrawals (suc (suc k)) lt w e = absurd (omega arith)

-- three offers of which none is learned do not fit two words
pub three_are_too_many : Agreed 2 (after_post 12 one_withdrawn) peer → ⊥
three_are_too_many h = let le : 3 ≤ 2 = h.offered_within in omega arith

-- an offer whose stamp is not the owner's is none
pub a_last_stamp_too_small : Agreed 2 (record one_withdrawn { last = 8 }) peer → ⊥
a_last_stamp_too_small h = let le = (h.withdrawals_stamped 1 (omega arith) 9 refl).1 in omega (arith, le)

abbrev pub two_words : State ℕ View
two_words = record { words = 59 ∷ 74 ∷ []; homes = []; views = owner_view one_withdrawn ∷ peer_view peer ∷ [] }

pub the_rule_holds : WordRule 2 two_words
the_rule_holds = record {
  owner = one_withdrawn;
  peer = peer;
  owner_seat = 0;
  peer_seat = 1;
  some_place = omega arith;
  words = words_tell;
  agreed = they_agree;
  told = record { of_peer = record { first = (peer.decisions, refl); look_true = λ s e. cc }; of_owner = omega arith };
  seats = seats;
} where
  same_view : {v w : View} → some v ≡ some w → v ≡ w
  same_view e = cc

  owner_knows : Knows one_withdrawn peer 0 1 0 (owner_view one_withdrawn)
  owner_knows = record { of_owner = λ o e. (refl, sym (same_owner e)); of_peer = λ p e. cc; of_owner_note = λ n e. cc; of_peer_note = λ n e. cc } where
    same_owner : {o p : Owner} → Some o ≡ Some p → o ≡ p
    same_owner e = cc

  peer_knows : Knows one_withdrawn peer 0 1 1 (peer_view peer)
  peer_knows = record { of_owner = λ o e. cc; of_peer = λ p e. (refl, sym (same_peer e)); of_owner_note = λ n e. cc; of_peer_note = λ n e. cc } where
    same_peer : {o p : Peer} → Some o ≡ Some p → o ≡ p
    same_peer e = cc

  seats : (seat : ℕ) (v : View) → get_elem? two_words.views seat ≡ some v → Knows one_withdrawn peer 0 1 seat v
  seats zero v e = subst (λ (v : View). Knows one_withdrawn peer 0 1 0 v) (same_view e) owner_knows
  seats (suc zero) v e = subst (λ (v : View). Knows one_withdrawn peer 0 1 1 v) (same_view e) peer_knows
  seats (suc (suc seat)) v e = cc

-- a word that says an offer which its owner did not post
abbrev pub stray_word : State ℕ View
stray_word = record { words = 9 ∷ []; homes = []; views = owner_view new_owner ∷ peer_view new_peer ∷ [] }

pub the_rule_does_not_hold : WordRule 1 stray_word → ⊥
the_rule_does_not_hold r = no r.owner ((r.seats 0 (owner_view new_owner) refl).of_owner new_owner refl).1 r.words where
  no : (o : Owner) → new_owner ≡ o → AreWords 1 (9 ∷ []) o.offers r.peer.decisions → ⊥
  no o e w = let u = (subst (λ (o : Owner). AreWords 1 (9 ∷ []) o.offers r.peer.decisions) (sym e) w).unused 0 (omega arith) (omega arith) in omega (arith, u)

-- ---- what was told is a prefix

pub a_prefix : StartsWith (taken_7 ∷ passed_11 ∷ []) (taken_7 ∷ [])
a_prefix = (passed_11 ∷ [], refl)

pub no_prefix : StartsWith (taken_7 ∷ []) (taken_7 ∷ passed_11 ∷ []) → ⊥
no_prefix (rest, e) = let n = ap length e in omega (arith, n)

pub told_of_too_many_offers : IsTold [] None 3 one_withdrawn.offers peer.decisions → ⊥
told_of_too_many_offers t = let le = t.of_owner in omega (arith, le)

pub told_of_a_false_look : IsPast [] (Some (sighting 0 (look.Withdrawn 9))) one_withdrawn.offers peer.decisions → ⊥
told_of_a_false_look t = let e = (t.look_true (sighting 0 (look.Withdrawn 9)) refl).1 in cc

pub agrees_with_less_than_it_was_told : AgreesAsTold (record new_owner { told = taken_7 ∷ [] }) → ⊥
agrees_with_less_than_it_was_told a = let le = a.decided_offered in omega (arith, le)

-- ---- the stamps that a seat keeps

pub its_stamps : AreStamps (5 ∷ []) (offer 5 ∷ [])
its_stamps zero lt le = (refl, omega arith)
its_stamps (suc k) lt le = absurd (omega arith)

pub not_its_stamps : AreStamps (4 ∷ []) (offer 5 ∷ []) → ⊥
not_its_stamps h = let e = (h 0 (omega arith) (omega arith)).0 in omega (arith, e)

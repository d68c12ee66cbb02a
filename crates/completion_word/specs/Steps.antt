-- The eleven kinds of step of a link: split, post, withdraw, learn, look, take, pass, join, note, told and check. First what each does to
-- the view of the seat that makes it, and at the end, under "the steps", what a step on a word tells that seat.
use Rattle.std.specs.Prelude.{◌≡◌, ◌≢◌, ℕ, zero, suc, ◌+◌, ◌^◌, ◌<◌, ◌≤◌, ◌==◌, nat_le, if◌then◌else◌, max}
use Rattle.std.specs.Prelude.{Bool, true, false, List, [], ◌∷◌, ◌++◌, length, slice_set, Option, Some, None}
use Rattle.std.specs.Option.{ForSome}
use mathlib.Core.Option as maybe
use Rattle.atomic_table.specs.Table.{Me, Step}
use Rattle.completion_word.specs.declared.answers.Closed.{Closed}
use Rattle.completion_word.specs.declared.answers.Learnt.{Learnt}
use Rattle.completion_word.specs.declared.answers.Learnt.TheVariants as learnt
use Rattle.completion_word.specs.declared.answers.Look.{Look}
use Rattle.completion_word.specs.declared.answers.Look.TheVariants as look
use Rattle.completion_word.specs.declared.answers.Taking.{Taking}
use Rattle.completion_word.specs.declared.answers.Taking.TheVariants as taking
use Rattle.completion_word.specs.declared.answers.Withdrawal.{Withdrawal}
use Rattle.completion_word.specs.declared.answers.Withdrawal.TheVariants as withdrawal
use Rattle.completion_word.specs.declared.standing.Standing.{Standing}
use Rattle.completion_word.specs.declared.standing.Standing.TheVariants.{Unused, Offered, Withdrawn, Taken, Passed}
use Rattle.completion_word.specs.declared.views.Offer.{Offer}
use Rattle.completion_word.specs.declared.views.DecisionKind.{DecisionKind}
use Rattle.completion_word.specs.declared.views.DecisionKind.TheVariants as outcome
use Rattle.completion_word.specs.declared.views.Decision.{Decision}
use Rattle.completion_word.specs.declared.views.Sighting.{Sighting}
use Rattle.completion_word.specs.declared.views.Owner.{Owner}
use Rattle.completion_word.specs.declared.views.Peer.{Peer}
use Rattle.completion_word.specs.declared.views.OwnerNote.{OwnerNote}
use Rattle.completion_word.specs.declared.views.PeerNote.{PeerNote}
use Rattle.completion_word.specs.declared.views.View.{View}
use Rattle.completion_word.specs.Link.{offer, decision, sighting, offer_at, decision_at, standing_of, stamp_in}
use Rattle.completion_word.specs.Link.{decided_standing, Answers, IsTrueLook, owner_view, peer_view, owner_in, peer_in, outcome_at}

-- ---- post: the owner stores Offered in the word of its next offer

-- the owner has one offer more
abbrev pub after_post : ℕ → Owner → Owner
after_post stamp o = record o { offers = o.offers ++ offer stamp ∷ []; last = stamp }

-- ---- withdraw: the owner exchanges Offered for Withdrawn in the word of an offer

-- neither withdrawn nor found taken
abbrev pub IsOpen : Offer → Type 0
IsOpen x = (x.withdrawn ≡ None) × (x.found_taken ≡ None)

-- the offer is withdrawn, or the withdrawal came too late and found it taken
abbrev pub after_withdraw : Withdrawal → ℕ → ℕ → Owner → Owner
after_withdraw withdrawal.Withdrawn k stamp o = record o {
  offers =
      slice_set o.offers k (record (offer_at o.offers k) { withdrawn = Some stamp });
  last = stamp;
}
after_withdraw (withdrawal.Taken t) k stamp o = record o {
  offers =
      slice_set o.offers k (record (offer_at o.offers k) { found_taken = Some t });
}

-- what an exchange tells that found this number, as the offer was posted or not: where it did not, it saw the peer's stamp
abbrev pub withdrawal_if : Bool → ℕ → Withdrawal
withdrawal_if true n = withdrawal.Withdrawn
withdrawal_if false n = withdrawal.Taken (stamp_in n)

-- a withdrawal of an offer whose decision the owner was told of finds that decision
abbrev pub IsWithdrawalAsTold : Owner → ℕ → Withdrawal → Type 0
IsWithdrawalAsTold o k w = k < length o.told → (t : ℕ) × ((decision_at o.told k).outcome ≡ outcome.Taken t) × (w ≡ withdrawal.Taken t)

-- the number of the offer, which the step announces
abbrev pub number_said : maybe.Option ℕ → ℕ
number_said (maybe.some k) = k
number_said maybe.none = 0

-- ---- learn: the owner loads the word of its first offer that is not learned

-- what a load tells that saw this: a decision, or none
abbrev pub learnt_of : Standing → Learnt
learnt_of Unused = learnt.Undecided
learnt_of (Offered t) = learnt.Undecided
learnt_of (Withdrawn t) = learnt.Undecided
learnt_of (Taken t) = learnt.Taken t
learnt_of (Passed t) = learnt.Passed t

-- what is learned then
abbrev pub with_learnt : Learnt → List DecisionKind → List DecisionKind
with_learnt (learnt.Taken t) learned = learned ++ outcome.Taken t ∷ []
with_learnt (learnt.Passed t) learned = learned ++ outcome.Passed t ∷ []
with_learnt learnt.Undecided learned = learned

-- one load more, what it saw, and one offer more that is learned, where it told of a decision
abbrev pub after_learn : Learnt → Standing → Owner → Owner
after_learn told seen o = record o { learned = with_learnt told o.learned; loads = o.loads + 1; saw = seen }

-- what a load may see in the word of an offer that is not learned: the offer with its stamp or its withdrawal with its stamp, as its owner
-- left it, or a decision with a later stamp than the one of these that it answers
abbrev pub Shows : ℕ → Option ℕ → Standing → Type 0
Shows stamp withdrawn Unused = ⊥
Shows stamp withdrawn (Offered t) = (withdrawn ≡ None) × (t ≡ stamp)
Shows stamp withdrawn (Withdrawn w) = withdrawn ≡ Some w
Shows stamp withdrawn (Taken t) = (withdrawn ≡ None) × (stamp < t)
Shows stamp withdrawn (Passed t) = (w : ℕ) × (withdrawn ≡ Some w) × (w < t)

abbrev pub ShowsOffer : Offer → Standing → Type 0
ShowsOffer x seen = Shows x.stamp x.withdrawn seen

-- a load sees the first offer that is not learned, and no other
abbrev pub SeesFirst : Owner → Standing → Type 0
SeesFirst o seen = ShowsOffer (offer_at o.offers (length o.learned)) seen

-- a load of an offer that a withdrawal found taken tells of that taking
abbrev pub IsLearntAsFound : Owner → Learnt → Type 0
IsLearntAsFound o told = ForSome (offer_at o.offers (length o.learned)).found_taken (λ t. told ≡ learnt.Taken t)

-- a load of an offer whose decision the owner was told of tells of that decision
abbrev pub IsLearntAsTold : Owner → Learnt → Type 0
IsLearntAsTold o told = length o.learned < length o.told → told ≡ learnt_of (decided_standing (decision_at o.told (length o.learned)))

-- ---- look: the peer loads the word of its first offer that is not decided

-- what a look shows that saw this: the offer, its withdrawal, or nothing
abbrev pub look_of : Standing → Look
look_of Unused = look.Nothing
look_of (Offered t) = look.Offered t
look_of (Withdrawn t) = look.Withdrawn t
look_of (Taken t) = look.Nothing
look_of (Passed t) = look.Nothing

-- one look more, and what it saw and showed
abbrev pub after_look : Look → Standing → Peer → Peer
after_look shown seen p = record p { looks = p.looks + 1; saw = seen; look = Some shown }

-- a look at an offer that the peer was told of shows it
abbrev pub IsLookAsTold : Peer → Look → Type 0
IsLookAsTold p shown = length p.decisions < p.told_offers → shown ≢ look.Nothing

-- ---- take and pass: the peer exchanges Offered for Taken in that word, or stores Passed there

-- the last look showed an offer with a stamp below this one
abbrev pub IsOfferBelow : Look → ℕ → Type 0
IsOfferBelow (look.Offered t) stamp = t < stamp
IsOfferBelow (look.Withdrawn w) stamp = ⊥
IsOfferBelow look.Nothing stamp = ⊥

abbrev pub SawOfferBelow : Option Look → ℕ → Type 0
SawOfferBelow None stamp = ⊥
SawOfferBelow (Some shown) stamp = IsOfferBelow shown stamp

-- the last look, or the last taking, showed a withdrawal with a stamp below this one
abbrev pub IsWithdrawalBelow : Look → ℕ → Type 0
IsWithdrawalBelow (look.Offered t) stamp = ⊥
IsWithdrawalBelow (look.Withdrawn w) stamp = w < stamp
IsWithdrawalBelow look.Nothing stamp = ⊥

abbrev pub SawWithdrawalBelow : Option Look → ℕ → Type 0
SawWithdrawalBelow None stamp = ⊥
SawWithdrawalBelow (Some shown) stamp = IsWithdrawalBelow shown stamp

-- the stamp that the last look showed
abbrev pub stamp_shown : Look → ℕ
stamp_shown (look.Offered t) = t
stamp_shown (look.Withdrawn w) = w
stamp_shown look.Nothing = 0

abbrev pub stamp_seen : Option Look → ℕ
stamp_seen None = 0
stamp_seen (Some shown) = stamp_shown shown

-- one decision more, which answers what the last look showed; no look at the next offer was made
abbrev pub after_decision : DecisionKind → Peer → Peer
after_decision how p = record p { decisions = p.decisions ++ decision how (stamp_seen p.look) ∷ []; look = None }

-- the offer is taken, or the taking came too late and the last look is the withdrawal that it found
abbrev pub after_take : Taking → ℕ → Peer → Peer
after_take taking.Won stamp p = after_decision (outcome.Taken stamp) p
after_take (taking.Withdrawn w) stamp p = record p { look = Some (look.Withdrawn w) }

-- what an exchange tells that found this number, as the offer was shown or not: where it did not, it saw the owner's withdrawal
abbrev pub taking_if : Bool → ℕ → Taking
taking_if true n = taking.Won
taking_if false n = taking.Withdrawn (stamp_in n)

-- the offer is passed
abbrev pub after_pass : ℕ → Peer → Peer
after_pass stamp p = after_decision (outcome.Passed stamp) p

-- ---- note: a note is copied off a seat, which keeps what it knows

-- the least count of leading offers among which are all that were found taken; in the first, n is the count for the offers after one
abbrev pub found_by : ℕ → Option ℕ → ℕ
found_by (suc n) found = suc (suc n)
found_by zero (Some t) = 1
found_by zero None = 0

abbrev pub found_below : List Offer → ℕ
found_below [] = 0
found_below (x ∷ xs) = found_by (found_below xs) x.found_taken

-- the least count of leading offers among which are all that the owner has learned, found taken or was told of
abbrev pub known_of : Owner → ℕ
known_of o = max (length o.learned) (max (found_below o.offers) (length o.told))

-- what a note of the owner says
abbrev pub owner_note : Owner → OwnerNote
owner_note o = record { offered = length o.offers; known = known_of o }

-- the last look of the peer is at the first offer that is not decided, whose number is the count of decisions
abbrev pub seen_at : ℕ → Option Look → Option Sighting
seen_at number None = None
seen_at number (Some shown) = Some (sighting number shown)

-- what a note of the peer says
abbrev pub peer_note : Peer → PeerNote
peer_note p = record { decisions = p.decisions; look = seen_at (length p.decisions) p.look; told_offers = p.told_offers }

-- a seat with a view gives a note of it
abbrev pub owner_notes : Option Owner → Option OwnerNote
owner_notes None = None
owner_notes (Some o) = Some (owner_note o)

abbrev pub peer_notes : Option Peer → Option PeerNote
peer_notes None = None
peer_notes (Some p) = Some (peer_note p)

abbrev pub notes_of : View → View
notes_of v = record { owner = None; peer = None; owner_note = owner_notes v.owner; peer_note = peer_notes v.peer }

-- ---- told: a note of the other side is joined to a seat, and spent, and a load then tells the seat what it says

abbrev pub with_notes : View → View → View
with_notes v w = record { owner = v.owner; peer = v.peer; owner_note = w.owner_note; peer_note = w.peer_note }

-- the views of a seat that holds a note of the other side
abbrev pub peer_with : Peer → OwnerNote → View
peer_with p n = record { owner = None; peer = Some p; owner_note = Some n; peer_note = None }

abbrev pub owner_with : Owner → PeerNote → View
owner_with o n = record { owner = Some o; peer = None; owner_note = None; peer_note = Some n }

abbrev pub owner_note_or : Option OwnerNote → OwnerNote
owner_note_or None = record { offered = 0; known = 0 }
owner_note_or (Some n) = n

abbrev pub peer_note_or : Option PeerNote → PeerNote
peer_note_or None = record { decisions = []; look = None; told_offers = 0 }
peer_note_or (Some n) = n

-- the count of offers that the peer was told of becomes the greater of itself and the note's
abbrev pub after_hearing : OwnerNote → Peer → Peer
after_hearing n p = record p { told_offers = max p.told_offers n.offered }

-- the longer of two lists, the second where they are as long
abbrev pub longer : List Decision → List Decision → List Decision
longer xs ys = if nat_le (length xs) (length ys) then ys else xs

-- the decisions that the owner was told of become the longer of its list and the note's, and the look that it was told of the note's
abbrev pub after_told : PeerNote → Owner → Owner
after_told n o = record o { told = longer o.told n.decisions; told_look = n.look }

-- after a meeting the owner was told of all decisions and of the peer's last look, and the peer of all offers
abbrev pub owner_after_meeting : Peer → Owner → Owner
owner_after_meeting p o = record o { told = p.decisions; told_look = seen_at (length p.decisions) p.look }

abbrev pub peer_after_meeting : Owner → Peer → Peer
peer_after_meeting o p = record p { told_offers = length o.offers }

-- ---- check: a load tells the owner that its own view agrees with what it was told

-- what the rule says of the two views, as far as the owner was told of the peer's
pub record AgreesAsTold (o : Owner) : Type 0 where
  pub decided_offered : length o.told ≤ length o.offers
  pub answered : (k : ℕ) → k < length o.told → Answers (offer_at o.offers k) (decision_at o.told k)
  pub learned_true : (k : ℕ) → k < length o.learned → k < length o.told → outcome_at o.learned k ≡ (decision_at o.told k).outcome
  pub found_true : (k : ℕ) → k < length o.offers → k < length o.told
      → ForSome (offer_at o.offers k).found_taken (λ t. (decision_at o.told k).outcome ≡ outcome.Taken t)
  pub offers_stamped : (k : ℕ) → k < length o.offers → (offer_at o.offers k).stamp ≤ o.last
  pub withdrawals_stamped : (k : ℕ) → k < length o.offers
      → ForSome (offer_at o.offers k).withdrawn (λ w. ((offer_at o.offers k).stamp < w) × (w ≤ o.last))
  pub counts_small : (length o.offers ≤ o.last) × (o.last < 2 ^ 60)
  pub look_true : ForSome o.told_look (λ s. IsTrueLook o.offers s.number s.look)

-- ---- meet and close answer how many offers were posted, decided and learned

abbrev pub AreCounts : Closed → Owner → Peer → Type 0
AreCounts counts o p = (counts.offered ≡ length o.offers) × (counts.decided ≡ length p.decisions) × (counts.learned ≡ length o.learned)

-- ---- the steps
-- `st` is the step, with the numbers that it stores or exchanges and what it announces, `m` and `m'` are the seat before and after it, and
-- `n` is the number that it found, or at a store the number stored.

-- the step announces the number of its offer, as a value of the type of the table's slots, of which there are none
abbrev pub Withdraws : Step ℕ → Me ℕ View → ℕ → Me ℕ View → Type 0
Withdraws st m n m' =
    (m' ≡ (owner_view (after_withdraw (withdrawal_if (n == st.first) n) (number_said st.said) (stamp_in st.second) (owner_in m.0)), m.1))
    × IsWithdrawalAsTold (owner_in m.0) (number_said st.said) (withdrawal_if (n == st.first) n)

module _ {S : Type 0} where
  abbrev pub Posts : Step S → Me S View → ℕ → Me S View → Type 0
  Posts st m n m' = m' ≡ (owner_view (after_post (stamp_in st.first) (owner_in m.0)), m.1)

  abbrev pub Learns : Step S → Me S View → ℕ → Me S View → Type 0
  Learns st m n m' =
      (m' ≡ (owner_view (after_learn (learnt_of (standing_of n)) (standing_of n) (owner_in m.0)), m.1))
      × SeesFirst (owner_in m.0) (standing_of n)
      × IsLearntAsFound (owner_in m.0) (learnt_of (standing_of n))
      × IsLearntAsTold (owner_in m.0) (learnt_of (standing_of n))

  abbrev pub Looks : Step S → Me S View → ℕ → Me S View → Type 0
  Looks st m n m' =
      (m' ≡ (peer_view (after_look (look_of (standing_of n)) (standing_of n) (peer_in m.0)), m.1))
      × IsLookAsTold (peer_in m.0) (look_of (standing_of n))

  abbrev pub Takes : Step S → Me S View → ℕ → Me S View → Type 0
  Takes st m n m' =
      (m' ≡ (peer_view (after_take (taking_if (n == st.first) n) (stamp_in st.second) (peer_in m.0)), m.1))
      × (length (peer_in m.0).decisions + 1 < 2 ^ 60)

  abbrev pub Passes : Step S → Me S View → ℕ → Me S View → Type 0
  Passes st m n m' =
      (m' ≡ (peer_view (after_pass (stamp_in st.first) (peer_in m.0)), m.1))
      × (length (peer_in m.0).decisions + 1 < 2 ^ 60)

  -- the peer is told besides that all which the owner knew of is decided
  abbrev pub HearsOwner : Step S → Me S View → ℕ → Me S View → Type 0
  HearsOwner st m n m' =
      (m' ≡ (peer_view (after_hearing (owner_note_or m.0.owner_note) (peer_in m.0)), m.1))
      × ((owner_note_or m.0.owner_note).known ≤ length (peer_in m.0).decisions)

  -- the owner is told besides that the peer was told of no more offers than there are
  abbrev pub HearsPeer : Step S → Me S View → ℕ → Me S View → Type 0
  HearsPeer st m n m' =
      (m' ≡ (owner_view (after_told (peer_note_or m.0.peer_note) (owner_in m.0)), m.1))
      × ((peer_note_or m.0.peer_note).told_offers ≤ length (owner_in m.0).offers)

  abbrev pub Checks : Step S → Me S View → ℕ → Me S View → Type 0
  Checks st m n m' = (m' ≡ m) × AgreesAsTold (owner_in m.0)

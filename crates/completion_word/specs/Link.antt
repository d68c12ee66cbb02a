-- A link as plain data: its offers and decisions by their numbers, what its words say, and what the views of its owner and of its peer say
-- together.
-- The owner has posted s offers, of which it has learned l; the peer has decided r of them. Offers, decisions and outcomes go by the number
-- of the offer, from 0.
use Rattle.std.specs.Prelude.{◌≡◌, ℕ, ◌+◌, ◌*◌, ◌/◌, ◌%◌, ◌^◌, ◌<◌, ◌≤◌, ◌==◌, if◌then◌else◌, List}
use Rattle.std.specs.Prelude.{[], ◌++◌, length, slice_index, slice_index_or, Option, Some, None}
use Rattle.std.specs.Option.{ForSome}
use Rattle.completion_word.specs.declared.answers.Look.{Look}
use Rattle.completion_word.specs.declared.answers.Look.TheVariants as look
use Rattle.completion_word.specs.declared.standing.Standing.{Standing}
use Rattle.completion_word.specs.declared.standing.Standing.TheVariants.{Unused, Offered, Withdrawn, Taken, Passed}
use Rattle.completion_word.specs.declared.views.Offer.{Offer}
use Rattle.completion_word.specs.declared.views.DecisionKind.{DecisionKind}
use Rattle.completion_word.specs.declared.views.DecisionKind.TheVariants as outcome
use Rattle.completion_word.specs.declared.views.Decision.{Decision}
use Rattle.completion_word.specs.declared.views.Sighting.{Sighting}
use Rattle.completion_word.specs.declared.views.Owner.{Owner}
use Rattle.completion_word.specs.declared.views.Peer.{Peer}
use Rattle.completion_word.specs.declared.views.View.{View}

-- an offer as it is posted
abbrev pub offer : ℕ → Offer
offer stamp = record { stamp = stamp; withdrawn = None; found_taken = None }

-- a decision, and the stamp that it answers
abbrev pub decision : DecisionKind → ℕ → Decision
decision how answered = record { outcome = how; answers = answered }

-- a look at the offer of a number
abbrev pub sighting : ℕ → Look → Sighting
sighting number seen = record { number = number; look = seen }

-- the offer, the decision and the outcome of a number
abbrev pub offer_at : List Offer → ℕ → Offer
offer_at offers k = slice_index_or offers k (offer 0)

abbrev pub decision_at : List Decision → ℕ → Decision
decision_at decisions k = slice_index_or decisions k (decision (outcome.Taken 0) 0)

abbrev pub outcome_at : List DecisionKind → ℕ → DecisionKind
outcome_at outcomes k = slice_index_or outcomes k (outcome.Taken 0)

-- ---- the words

-- the word that says how an offer stands: 0 where no offer has used it, and else 8 times the stamp and 1 for Offered, 2 for Withdrawn, 3
-- for Taken, 4 for Passed
abbrev pub code : Standing → ℕ
code Unused = 0
code (Offered t) = 8 * t + 1
code (Withdrawn t) = 8 * t + 2
code (Taken t) = 8 * t + 3
code (Passed t) = 8 * t + 4

-- what a word says, by its remainder and its stamp
abbrev pub standing_by : ℕ → ℕ → Standing
standing_by kind t =
    if kind == 1 then Offered t else (if kind == 2 then Withdrawn t
    else (if kind == 3 then Taken t else (if kind == 4 then Passed t else Unused)))

abbrev pub standing_of : ℕ → Standing
standing_of word = standing_by (word % 8) (word / 8)

-- the stamp in a word
abbrev pub stamp_in : ℕ → ℕ
stamp_in word = word / 8

-- how an offer stands that is not decided: withdrawn where its owner has a withdrawal of it, and else offered
abbrev pub open_by : ℕ → Option ℕ → Standing
open_by stamp None = Offered stamp
open_by stamp (Some w) = Withdrawn w

abbrev pub open_standing : Offer → Standing
open_standing x = open_by x.stamp x.withdrawn

-- how an offer stands that is decided
abbrev pub decided_by : DecisionKind → Standing
decided_by (outcome.Taken t) = Taken t
decided_by (outcome.Passed t) = Passed t

abbrev pub decided_standing : Decision → Standing
decided_standing d = decided_by d.outcome

-- The words say how the offers stand. Offer k stands in word k modulo the places, of which there are as many as words
pub record AreWords (places : ℕ) (words : List ℕ) (offers : List Offer) (decisions : List Decision) : Type 0 where
  pub one_each : length words ≡ places
  -- an offer from r to s stands offered with its stamp, or withdrawn with its withdrawal's stamp where the owner has withdrawn it
  pub undecided : (k : ℕ) → k < length offers → length decisions ≤ k
      → slice_index words (k % places) ≡ code (open_standing (offer_at offers k))
  -- an offer below r, whose word no later offer uses, stands taken or passed with the stamp of its decision
  pub decided : (k : ℕ) → k < length decisions → length offers ≤ k + places
      → slice_index words (k % places) ≡ code (decided_standing (decision_at decisions k))
  -- where s is below the places, the words from s on are unused
  pub unused : (k : ℕ) → length offers ≤ k → k < places → slice_index words k ≡ 0

-- ---- the two views

-- A decision of an offer. Where the owner has not withdrawn it, it is taken, in answer to its stamp; where the owner has, it is passed, in
-- answer to the withdrawal's stamp. So it is passed exactly where it is withdrawn. The decision's stamp is greater than what it answers
abbrev pub Answered : ℕ → Option ℕ → Decision → Type 0
Answered stamp None d = (t : ℕ) × (stamp < t) × (d ≡ decision (outcome.Taken t) stamp)
Answered stamp (Some w) d = (t : ℕ) × (w < t) × (d ≡ decision (outcome.Passed t) w)

abbrev pub Answers : Offer → Decision → Type 0
Answers x d = Answered x.stamp x.withdrawn d

-- What a look at offer k showed is true: where it showed an offer, offer k was posted with that stamp; where it showed a withdrawal, offer
-- k is withdrawn with that stamp
abbrev pub IsTrueLook : List Offer → ℕ → Look → Type 0
IsTrueLook offers k (look.Offered t) = (k < length offers) × ((offer_at offers k).stamp ≡ t)
IsTrueLook offers k (look.Withdrawn w) = (k < length offers) × ((offer_at offers k).withdrawn ≡ Some w)
IsTrueLook offers k look.Nothing = Unit {0}

-- What the rule says of the offers, the withdrawals, the outcomes learned, the decisions, their stamps and the last look
pub record Agree (places : ℕ) (offers : List Offer) (learned : List DecisionKind) (last : ℕ) (decisions : List Decision)
    (seen : Option Look) : Type 0 where
  -- l ≤ r ≤ s ≤ l + places: what is learned is decided, what is decided was offered, and each offer that is not learned has a place of its
  -- own
  pub learned_decided : length learned ≤ length decisions
  pub decided_offered : length decisions ≤ length offers
  pub offered_within : length offers ≤ length learned + places
  -- each decision answers its offer, or the withdrawal of it where there is one
  pub answered : (k : ℕ) → k < length decisions → Answers (offer_at offers k) (decision_at decisions k)
  -- what the owner has learned, or has found taken, is what the peer decided
  pub learned_true : (k : ℕ) → k < length learned → outcome_at learned k ≡ (decision_at decisions k).outcome
  pub found_true : (k : ℕ) → k < length offers → ForSome (offer_at offers k).found_taken
      (λ t. (k < length decisions) × ((decision_at decisions k).outcome ≡ outcome.Taken t))
  -- the owner's last stamp is at least that of each offer and of each withdrawal, and a withdrawal's is greater than its offer's. An offer
  -- has one withdrawal at most, since that is a part of it
  pub offers_stamped : (k : ℕ) → k < length offers → (offer_at offers k).stamp ≤ last
  pub withdrawals_stamped : (k : ℕ) → k < length offers
      → ForSome (offer_at offers k).withdrawn (λ w. ((offer_at offers k).stamp < w) × (w ≤ last))
  -- there are no more offers than the last stamp, so every count stays below 2 ^ 60
  pub counts_small : (length offers ≤ last) × (last < 2 ^ 60)
  -- the peer's last look, which is at offer r, is true
  pub look_true : ForSome seen (IsTrueLook offers (length decisions))

-- the view of the owner and the view of the peer agree
abbrev pub Agreed : ℕ → Owner → Peer → Type 0
Agreed places o p = Agree places o.offers o.learned o.last p.decisions p.look

-- the second list is a prefix of the first
abbrev pub StartsWith : List Decision → List Decision → Type 0
StartsWith decisions first = (rest : List Decision) × (decisions ≡ first ++ rest)

-- What was told of the peer is true: the decisions told are a prefix of its decisions, and the look told, if any, is true of the offer of
-- its number
pub record IsPast (told : List Decision) (seen : Option Sighting) (offers : List Offer) (decisions : List Decision) : Type 0 where
  pub first : StartsWith decisions told
  pub look_true : ForSome seen (λ s. IsTrueLook offers s.number s.look)

-- What each side was told of the other is true: the owner of decisions and of a look, and the peer of no more offers than there are
pub record IsTold (told : List Decision) (told_look : Option Sighting) (told_offers : ℕ) (offers : List Offer)
    (decisions : List Decision) : Type 0 where
  pub of_peer : IsPast told told_look offers decisions
  pub of_owner : told_offers ≤ length offers

abbrev pub Told : Owner → Peer → Type 0
Told o p = IsTold o.told o.told_look p.told_offers o.offers p.decisions

-- ---- what seats know, as their views

-- the views of the two sides of new words
abbrev pub new_owner : Owner
new_owner = record { offers = []; learned = []; last = 0; loads = 0; saw = Unused; told = []; told_look = None }

abbrev pub new_peer : Peer
new_peer = record { decisions = []; looks = 0; saw = Unused; look = None; told_offers = 0 }

-- a seat with the owner's view, with the peer's, with both
abbrev pub owner_view : Owner → View
owner_view o = record { owner = Some o; peer = None; owner_note = None; peer_note = None }

abbrev pub peer_view : Peer → View
peer_view p = record { owner = None; peer = Some p; owner_note = None; peer_note = None }

abbrev pub both_views : Owner → Peer → View
both_views o p = record { owner = Some o; peer = Some p; owner_note = None; peer_note = None }

-- a seat that is spent knows nothing
abbrev pub no_view : View
no_view = record { owner = None; peer = None; owner_note = None; peer_note = None }

abbrev pub owner_or : Option Owner → Owner
owner_or None = new_owner
owner_or (Some o) = o

abbrev pub peer_or : Option Peer → Peer
peer_or None = new_peer
peer_or (Some p) = p

-- the owner's view and the peer's view in what a seat knows
abbrev pub owner_in : View → Owner
owner_in v = owner_or v.owner

abbrev pub peer_in : View → Peer
peer_in v = peer_or v.peer

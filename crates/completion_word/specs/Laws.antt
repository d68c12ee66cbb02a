-- What the word rule means for an offer and for a word, in whatever state between two atomic steps.
use Rattle.std.specs.Prelude.{◌≡◌, ℕ, ◌+◌, ◌-◌, ◌%◌, ◌<◌, ◌≤◌, length, slice_index, Some, None}
use Rattle.atomic_table.specs.Table.{State}
use Rattle.completion_word.specs.declared.views.View.{View}
use Rattle.completion_word.specs.declared.views.DecisionKind.TheVariants as outcome
use Rattle.completion_word.specs.Link.{offer_at, decision_at, standing_of}
use Rattle.completion_word.specs.Steps.{ShowsOffer}
use Rattle.completion_word.specs.Rule.{WordRule}

-- an offer is never both taken and withdrawn
abbrev pub NeverBoth : Type 0
NeverBoth = (places : ℕ) (s : State ℕ View) (h : WordRule places s) (k t : ℕ) → k < length h.peer.decisions
    → (decision_at h.peer.decisions k).outcome ≡ outcome.Taken t → (offer_at h.owner.offers k).withdrawn ≡ None

-- an offer that is passed by is withdrawn, with the stamp that the passing answers
abbrev pub PassedIsWithdrawn : Type 0
PassedIsWithdrawn = (places : ℕ) (s : State ℕ View) (h : WordRule places s) (k t : ℕ) → k < length h.peer.decisions
    → (decision_at h.peer.decisions k).outcome ≡ outcome.Passed t
    → (offer_at h.owner.offers k).withdrawn ≡ Some (decision_at h.peer.decisions k).answers

-- where there is room for a post, the earlier offer of its word is learned and decided
abbrev pub UsedAgain : Type 0
UsedAgain = (places : ℕ) (s : State ℕ View) (h : WordRule places s) → length h.owner.offers < length h.owner.learned + places
    → places ≤ length h.owner.offers
    → (length h.owner.offers - places < length h.owner.learned) × (length h.owner.offers - places < length h.peer.decisions)

-- the word of an offer that is not learned shows that offer
abbrev pub ShownByItsWord : Type 0
ShownByItsWord = (places : ℕ) (s : State ℕ View) (h : WordRule places s) (k : ℕ) → length h.owner.learned ≤ k → k < length h.owner.offers
    → ShowsOffer (offer_at h.owner.offers k) (standing_of (slice_index s.words (k % places)))

-- What the settling of one link, and of all, does to the parties.
use Rattle.std.specs.Prelude.{◌≡◌, ℕ, List, Some, slice_get}
use Rattle.std.specs.List.{AllByRecursion}
use Rattle.settled_rounds.specs.declared.party.Way.{Way}
use Rattle.settled_rounds.specs.Linked.{Pointwise, OnLinks}

module _ {P : Type 0} (clock : P → ℕ) (later : P → P → Type 0) (known : ℕ → P → P → Type 0) (still : P → P → Type 0)
    (apart : ℕ → P → P → Type 0) where
  -- a party that has made no entry
  pub record Keeps (link : ℕ) (p q : P) : Type 0 where
    pub is_later : later p q
    pub same_clock : clock q ≡ clock p
    pub is_apart : apart link p q

  -- where the two knew all of the link before, nothing is new to any
  pub record SettlesOne (link from to : ℕ) (old new : List P) : Type 0 where
    pub keeps : Pointwise (Keeps link) old new
    pub again : ((a b : P) → slice_get old from ≡ Some a → slice_get old to ≡ Some b → known link a b) → Pointwise still old new

  pub record SettlesAll (stopped : P → Type 0) (ways : List Way) (old new : List P) : Type 0 where
    pub all_later : Pointwise later old new
    pub clocks : Pointwise (λ p q. clock q ≡ clock p) old new
    pub again : OnLinks known ways old → AllByRecursion stopped old → AllByRecursion stopped new

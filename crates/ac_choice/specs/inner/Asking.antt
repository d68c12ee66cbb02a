-- A call on one element of a list.
use Rattle.std.specs.Prelude.{◌≡◌, ℕ, List, Some, slice_get, slice_set}

module _ {X : Type 0} where
  -- only the element at this place has changed, and so
  pub record ChangesAt (R : X → X → Type 0) (old : List X) (at : ℕ) (new : List X) : Type 0 where
    pub before : X
    pub after : X
    pub was : slice_get old at ≡ Some before
    pub now : new ≡ slice_set old at after
    pub change : R before after

-- The marks of the requests of a core.
use Rattle.std.specs.Prelude.{◌≡◌, ℕ, ◌+◌, List, ◌++◌, length, Option, Some, None, Bool, true, false, slice_get}
use Rattle.std.specs.List.{AllByRecursion}
use Rattle.request_ends.specs.declared.marks.Asked.{Asked}
use Rattle.request_ends.specs.declared.marks.Asked.TheVariants.{Open, Started, Gone}

-- the marks, and for how many more there is a place
pub record Marked : Type 0 where
  pub list : List Asked
  pub places : ℕ

abbrev pub is_started : Option Asked → Bool
is_started None = false
is_started (Some Open) = false
is_started (Some Started) = true
is_started (Some Gone) = false

-- so many were gone, and their places are free
pub record SkipsSome (old new : Marked) : Type 0 where
  pub gone : List Asked
  pub list : old.list ≡ gone ++ new.list
  pub all : AllByRecursion (λ m. m ≡ Gone) gone
  pub places : new.places ≡ old.places + length gone

-- and the next is not
pub record Skips (old new : Marked) : Type 0 where
  pub some : SkipsSome old new
  pub front : slice_get new.list 0 ≡ Some Gone → ⊥

-- Tests on the operands on top.
use Rattle.std.specs.Prelude.{◌≡◌, ℕ, ℤ, List, [], ◌∷◌, drop, Bool, true, slice_index_or}
use Rattle.work_item.specs.declared.cell.Cell.{Cell}
use Rattle.work_item.specs.declared.cell.Place.{Place}
use Rattle.work_item.specs.Store.{int_in, place_in, no_int}
use Rattle.thread_table.specs.Operands.{on_top}

-- there are so many operands, from the top downwards, and each passes its test
abbrev pub Stand : List (Cell → Bool) → List Cell → Type 0
Stand [] operands = Unit {0}
Stand (test ∷ tests) operands = (on_top test operands ≡ true) × Stand tests (drop 1 operands)

-- the int that stands so many below the topmost operand
abbrev pub int_below : List Cell → ℕ → ℤ
int_below operands n = int_in (slice_index_or operands n no_int)

-- the place of the reference that stands on top
abbrev pub first_place : List Cell → Place
first_place operands = place_in (slice_index_or operands 0 no_int)

-- the place of the reference that stands below the topmost operand
abbrev pub second_place : List Cell → Place
second_place operands = place_in (slice_index_or operands 1 no_int)

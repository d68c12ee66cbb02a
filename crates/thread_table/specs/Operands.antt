-- Tests on the topmost operand.
use Rattle.std.specs.Prelude.{List, [], ◌∷◌, Bool, true, false}
use Rattle.work_item.specs.declared.cell.Cell.{Cell}
use Rattle.work_item.specs.declared.cell.Cell.TheVariants as cell

abbrev pub is_reference : Cell → Bool
is_reference (cell.Array place) = true
is_reference _ = false

-- there is a topmost operand, and it passes the test
abbrev pub on_top : (Cell → Bool) → List Cell → Bool
on_top test [] = false
on_top test (x ∷ below) = test x

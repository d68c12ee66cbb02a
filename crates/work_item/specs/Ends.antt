-- How some cells end.
use Rattle.std.specs.Prelude.{◌≡◌, ℤ, List, [], ◌∷◌, ◌++◌}
use Rattle.work_item.specs.declared.cell.Cell.{Cell}
use Rattle.work_item.specs.declared.cell.Cell.TheVariants as c
use Rattle.work_item.specs.declared.cell.Place.{Place}

-- the last is an int
abbrev pub EndsInInt : List Cell → Type 0
EndsInInt cells = (front : List Cell) × ((value : ℤ) × (cells ≡ front ++ c.Int value ∷ []))

-- the last is a reference
abbrev pub EndsInPlace : List Cell → Type 0
EndsInPlace cells = (front : List Cell) × ((place : Place) × (cells ≡ front ++ c.Array place ∷ []))

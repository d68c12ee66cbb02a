-- What a message can be made of.
use Rattle.std.specs.Prelude.{◌≤◌}
use Rattle.work_item.specs.declared.cell.Cell.{Cell}
use Rattle.work_item.specs.declared.cell.Cell.TheVariants as cell
use Rattle.work_item.specs.Store.{Store}
use Rattle.work_item.specs.Conditions.{HomeLives}

-- an array lies in the globals or in a frame that lives, and has 1 to 16 elements; of an int it can always be made
abbrev pub MakesMessage : Store → Cell → Type 0
MakesMessage s (cell.Array place) = HomeLives s place.home × ((1 ≤ place.len) × (place.len ≤ 16))
MakesMessage s _ = Unit {0}

-- Cells that are no ints, as they are kept.
use Rattle.std.specs.Prelude.{◌≡◌, ℕ, List, Some, slice_get}
use Rattle.work_item.specs.declared.cell.Cell.{Cell}
use Rattle.work_item.specs.declared.cell.Cell.TheVariants as c
use Rattle.work_item.specs.declared.others.Other.{Other}
use Rattle.work_item.specs.Cells.{others_from}

abbrev pub IsOther : Cell → Type 0
IsOther (c.Int value) = ⊥
IsOther _ = Unit {0}

-- those of some cells
abbrev pub AreOthers : List Other → Type 0
AreOthers others = (start : ℕ) × ((cells : List Cell) × (others ≡ others_from start cells))

-- the other at that place stands at an index
abbrev pub IsAt : List Other → ℕ → ℕ → Type 0
IsAt others place index = (o : Other) × ((slice_get others place ≡ Some o) × (o.index ≡ index))

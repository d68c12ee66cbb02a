-- Cells as they are kept: the int of each, with 0 for one that is none, and beside them those that are none, each with its index.
use Rattle.std.specs.Prelude.{◌≡◌, ℕ, suc, ℤ, List, [], ◌∷◌, map, nat_eq, if◌then◌else◌}
use Rattle.work_item.specs.declared.cell.Cell.{Cell}
use Rattle.work_item.specs.declared.cell.Cell.TheVariants as c
use Rattle.work_item.specs.declared.others.Other.{Other}
use Rattle.work_item.specs.Store.{int_in}

-- those that are no ints, where the first cell stands at that index
abbrev pub others_from : ℕ → List Cell → List Other
others_from start [] = []
others_from start (c.Int value ∷ cells) = others_from (suc start) cells
others_from start (c.Array place ∷ cells) = (record { index = start; cell = c.Array place }) ∷ others_from (suc start) cells
others_from start (c.Block block ∷ cells) = (record { index = start; cell = c.Block block }) ∷ others_from (suc start) cells

-- the cells that are kept so
abbrev pub laid : ℕ → List ℤ → List Other → List Cell
laid start [] others = []
laid start (w ∷ words) [] = c.Int w ∷ laid (suc start) words []
laid start (w ∷ words) (o ∷ others) =
    if nat_eq start o.index then o.cell ∷ laid (suc start) words others else c.Int w ∷ laid (suc start) words (o ∷ others)

pub record AreKept (start : ℕ) (words : List ℤ) (others : List Other) : Type 0 where
  pub words_are : words ≡ map int_in (laid start words others)
  pub others_are : others ≡ others_from start (laid start words others)

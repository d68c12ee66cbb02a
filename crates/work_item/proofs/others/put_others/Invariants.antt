use Rattle.std.proofs.Common.{◌≡◌, ◌+◌, ◌++◌, List, take}
use Rattle.std.specs.Vec.{vec_len, vec_capacity}
use Rattle.work_item.specs.declared.cell.Cell.{Cell}
use Rattle.work_item.specs.Cells.{others_from}
use Rattle.work_item.proofs.others.put_others.Given as goal

abbrev pub invariant-loop-other : goal.invariant-loop-other
invariant-loop-other l = record {
  items : (cells : List Cell) → l.more ≡ others_from l.from cells
      → l.others.items ≡ l.fn.others.items ++ take l.other-index (others_from l.to cells);
  len : vec_len l.others ≡ vec_len l.fn.others + l.other-index;
  capacity : vec_capacity l.others ≡ vec_capacity l.fn.others;
}

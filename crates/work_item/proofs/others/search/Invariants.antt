use Rattle.std.proofs.Common.{◌-◌, ◌≡◌, ◌≤◌, ℕ, List, length}
use Rattle.work_item.specs.declared.cell.Cell.{Cell}
use Rattle.work_item.specs.Cells.{others_from}
use Rattle.work_item.proofs.Rows.{cut}
use Rattle.work_item.proofs.others.search.Given as goal

abbrev pub invariant-loop-low : goal.invariant-loop-low
invariant-loop-low l = record {
  order : l.low ≤ l.high;
  within : l.high ≤ length l.others;
  cut : (start : ℕ) (cells : List Cell) → l.others ≡ others_from start cells → start ≤ l.index
      → (l.low ≤ cut start cells l.index) × (cut start cells l.index ≤ l.high);
}

abbrev pub decreases-loop-low : goal.decreases-loop-low
decreases-loop-low l = l.high - l.low

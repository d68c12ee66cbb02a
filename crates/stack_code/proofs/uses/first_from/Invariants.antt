use Rattle.std.proofs.Common.{ℕ, ◌-◌, ◌<◌, ◌≤◌, length, slice_index}
use Rattle.stack_code.proofs.uses.first_from.Given as goal

abbrev pub invariant-loop-low : goal.invariant-loop-low
invariant-loop-low l = record {
  ordered : l.low ≤ l.high;
  inside : l.high ≤ length l.row;
  below : (k : ℕ) → k < l.low → slice_index l.row k < l.from;
  above : (k : ℕ) → l.high ≤ k → k < length l.row → l.from ≤ slice_index l.row k;
}

abbrev pub decreases-loop-low : goal.decreases-loop-low
decreases-loop-low l = l.high - l.low

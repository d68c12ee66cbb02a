use Rattle.std.proofs.Common.{◌-◌, ◌<◌, ◌≤◌, length}
use Rattle.birth_table.specs.inner.Slots.{LiesBetween}
use Rattle.birth_table.proofs.index.search.Given as goal

abbrev pub invariant-loop-low : goal.invariant-loop-low
invariant-loop-low l = record {
  order : l.low ≤ l.high;
  within : l.high < length l.slots;
  between : LiesBetween l.slots l.number l.low l.high;
}

abbrev pub decreases-loop-low : goal.decreases-loop-low
decreases-loop-low l = l.high - l.low

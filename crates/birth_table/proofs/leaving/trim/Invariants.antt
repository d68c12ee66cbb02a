use Rattle.std.proofs.Common.{◌≤◌, take}
use Rattle.birth_table.specs.inner.Slots.{HaveSameKeys}
use Rattle.birth_table.proofs.leaving.trim.Given as goal

abbrev pub invariant-loop-low : goal.invariant-loop-low
invariant-loop-low l = record {
  below : l.low ≤ l.top;
  keys : HaveSameKeys (take l.top l.slots) (take l.low l.slots);
}

abbrev pub decreases-loop-low : goal.decreases-loop-low
decreases-loop-low l = l.low

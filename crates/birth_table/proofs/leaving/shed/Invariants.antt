use Rattle.std.proofs.Common.{◌≡◌, ◌≤◌, length, take, vec_capacity}
use Rattle.birth_table.specs.Kept.{HaveKeys}
use Rattle.birth_table.specs.inner.Slots.{Shrinks}
use Rattle.birth_table.proofs.leaving.shed.Given as goal

abbrev pub invariant-loop-slots : goal.invariant-loop-slots
invariant-loop-slots g l = record {
  keys : HaveKeys l.slots.items l.entries;
  shrinks : Shrinks l.fn.slots.items l.fn.entries l.slots.items l.entries;
  items : take l.top l.slots.items ≡ take l.top l.fn.slots.items;
  within : l.top ≤ length l.slots.items;
  capacity : vec_capacity l.slots ≡ vec_capacity l.fn.slots;
}

abbrev pub decreases-loop-slots : goal.decreases-loop-slots
decreases-loop-slots g l = length l.slots.items

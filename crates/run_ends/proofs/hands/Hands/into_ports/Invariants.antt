use Rattle.std.proofs.Common.{◌≡◌, ◌+◌, ◌++◌, length}
use Rattle.std.specs.Vec.Iter.{into_iter_items, into_iter_len}
use Rattle.run_ends.specs.inner.Hands.{ports_from}
use Rattle.run_ends.proofs.hands.Hands.into_ports.Given as goal

abbrev pub invariant-loop-hand : goal.invariant-loop-hand
invariant-loop-hand l = record {
  left : l.yielded ++ into_iter_items l.hand-iterator ≡ into_iter_items l.initial.hand-iterator;
  count : into_iter_len l.hand-iterator ≡ length (into_iter_items l.hand-iterator);
  asked : l.asked ≡ l.fn.channels + length l.yielded;
  ports : l.ports.items ≡ ports_from l.fn.channels l.yielded;
}

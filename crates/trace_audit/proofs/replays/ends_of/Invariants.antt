use Rattle.std.proofs.Common.{◌≡◌, ◌++◌, length}
use Rattle.std.specs.Vec.Iter.{into_iter_items, into_iter_len}
use Rattle.trace_audit.specs.inner.Replaying.{AreEnds}
use Rattle.trace_audit.proofs.replays.ends_of.Given as goal

abbrev pub invariant-loop-core : goal.invariant-loop-core
invariant-loop-core l = record {
  left : l.yielded ++ into_iter_items l.core-iterator ≡ into_iter_items l.initial.core-iterator;
  count : into_iter_len l.core-iterator ≡ length (into_iter_items l.core-iterator);
  ends : AreEnds l.yielded l.ends;
}

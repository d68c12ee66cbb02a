use Rattle.std.proofs.Common.{◌≡◌, ◌++◌, length}
use Rattle.std.specs.Vec.Iter.{into_iter_items, into_iter_len}
use Rattle.core_runner.specs.inner.Parties.{AreNewCores}
use Rattle.core_runner.proofs.parties.cores_of.Given as goal

abbrev pub invariant-loop-own : goal.invariant-loop-own
invariant-loop-own g l = record {
  left : l.yielded ++ into_iter_items l.own-iterator ≡ into_iter_items l.initial.own-iterator;
  count : into_iter_len l.own-iterator ≡ length (into_iter_items l.own-iterator);
  number : l.number ≡ length l.yielded;
  cores : AreNewCores l.code l.steps l.yielded l.parties.items;
}

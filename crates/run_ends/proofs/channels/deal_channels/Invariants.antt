use Rattle.std.proofs.Common.{◌≡◌, ◌++◌, length}
use Rattle.std.specs.Vec.Iter.{into_iter_items, into_iter_len}
use Rattle.run_ends.specs.inner.Hands.{asks_of}
use Rattle.run_ends.specs.inner.Dealing.{AreDealtBelow}
use Rattle.run_ends.proofs.channels.deal_channels.Given as goal

abbrev pub invariant-loop-pair : goal.invariant-loop-pair
invariant-loop-pair l = record {
  left : l.yielded ++ into_iter_items l.pair-iterator ≡ into_iter_items l.initial.pair-iterator;
  count : into_iter_len l.pair-iterator ≡ length (into_iter_items l.pair-iterator);
  link : l.link ≡ length l.yielded;
  dealt : AreDealtBelow l.ends l.capacities l.link l.hands;
  asks : asks_of l.hands ≡ asks_of l.initial.hands;
}

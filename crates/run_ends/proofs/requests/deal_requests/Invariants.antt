use Rattle.std.proofs.Common.{◌≡◌, ◌+◌, ◌++◌, length}
use Rattle.std.specs.Vec.Iter.{into_iter_items, into_iter_len}
use Rattle.run_ends.specs.inner.Hands.{asks_of}
use Rattle.run_ends.specs.inner.Dealing.{HaveNone, AreAllNew}
use Rattle.run_ends.proofs.requests.deal_requests.Given as goal

abbrev pub invariant-loop-pair : goal.invariant-loop-pair
invariant-loop-pair l = record {
  left : l.yielded ++ into_iter_items l.pair-iterator ≡ into_iter_items l.initial.pair-iterator;
  count : into_iter_len l.pair-iterator ≡ length (into_iter_items l.pair-iterator);
  at : l.at ≡ l.fn.first + length l.yielded;
  hands : length l.hands ≡ length l.yielded;
  asks : length l.asks.items ≡ length l.yielded;
  replies : length l.replies.items ≡ length l.yielded;
  none : HaveNone l.hands;
  new : AreAllNew (asks_of l.hands) l.asks.items l.replies.items;
}

use Rattle.std.proofs.Common.{◌≡◌, ◌++◌, length}
use Rattle.core_state.specs.Messages.{ints_at}
use Rattle.core_operators.proofs.Ints.{ints_on}
use Rattle.core_operators.proofs.messages.message_at.Given as goal

abbrev pub invariant-loop-index : goal.invariant-loop-index
invariant-loop-index l = record {
  taken : l.message ++ ints_on l.frames l.array l.index ≡ ints_at l.frames l.array;
  many : length l.message ≡ l.index;
}

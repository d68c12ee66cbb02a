use Rattle.std.proofs.Common.{◌≡◌, ◌++◌}
use Rattle.core_state.specs.Messages.{ints_at}
use Rattle.core_operators.proofs.Ints.{ints_on}
use Rattle.interpreter_state.proofs.memory.Memory.ints_at.Given as goal

abbrev pub invariant-loop-index : goal.invariant-loop-index
invariant-loop-index l = l.ints ++ ints_on l.self l.place l.index ≡ ints_at l.self l.place

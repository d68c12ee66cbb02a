use Rattle.std.proofs.Common.{◌≡◌}
use Rattle.core_state.specs.Messages.{with_ints_at}
use Rattle.core_operators.proofs.Ints.{with_ints_on}
use Rattle.interpreter_state.proofs.memory.Memory.write_ints.Given as goal

abbrev pub invariant-loop-index : goal.invariant-loop-index
invariant-loop-index l = with_ints_on l.into l.ints l.self l.index ≡ with_ints_at l.fn.self l.into l.ints

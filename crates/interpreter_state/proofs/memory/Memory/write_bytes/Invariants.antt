use Rattle.std.proofs.Common.{◌≡◌}
use Rattle.core_state.specs.Requests.{with_bytes_at, bytes_for}
use Rattle.core_operators.proofs.Bytes.{with_others}
use Rattle.interpreter_state.proofs.memory.Memory.write_bytes.Given as goal

abbrev pub invariant-loop-index : goal.invariant-loop-index
invariant-loop-index l = with_others l.into l.bytes l.self l.index ≡ with_bytes_at l.fn.self l.into (bytes_for l.into l.bytes)

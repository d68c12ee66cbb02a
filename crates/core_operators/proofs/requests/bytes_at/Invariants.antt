use Rattle.std.proofs.Common.{◌≡◌, ◌++◌}
use Rattle.core_state.specs.Requests.{bytes_at}
use Rattle.core_operators.proofs.Bytes.{from_here}
use Rattle.core_operators.proofs.requests.bytes_at.Given as goal

abbrev pub invariant-loop-index : goal.invariant-loop-index
invariant-loop-index l = l.bytes ++ from_here l.frames l.array l.index ≡ bytes_at l.frames l.array

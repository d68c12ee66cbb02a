-- The slice keeps its length.
use Rattle.std.proofs.Common.{◌≡◌, length}
use Rattle.ac_adapters.proofs.again.read_at.Given as goal

abbrev pub invariant-loop : goal.invariant-loop
invariant-loop g l = length l.into ≡ length l.initial.into

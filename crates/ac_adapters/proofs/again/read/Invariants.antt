-- The slice keeps its length, and a read that was interrupted has consumed nothing.
use Rattle.std.proofs.Common.{◌≡◌, length}
use Rattle.std.specs.Io.KnownBytes.{Keeps}
use Rattle.ac_adapters.proofs.again.read.Given as goal

abbrev pub invariant-loop : goal.invariant-loop
invariant-loop g l = (length l.into ≡ length l.initial.into) × Keeps (g.F.Read.remaining l.initial.file) (g.F.Read.remaining l.file)

use Rattle.std.proofs.Common.{◌≡◌, ℕ, Some, length}
use Rattle.std.specs.Prelude.{slice_get}
use Rattle.graph_ranks.specs.declared.graph.Ways.{Ways}
use Rattle.stack_code.specs.inner.Quiet.{IsWays}
use Rattle.stack_code.proofs.ways.graph.Given as goal

abbrev pub invariant-loop-at : goal.invariant-loop-at
invariant-loop-at l = record {
  ways : (k : ℕ) (w : Ways) → slice_get l.graph.items k ≡ Some w → IsWays l.code k w;
  long : length l.graph.items ≡ l.at;
}

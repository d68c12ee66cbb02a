use Rattle.std.proofs.Common.{◌≡◌, ℕ, ◌+◌, ◌<◌, length, get_or}
use Rattle.ac_causal.specs.inner.Marks.{count_at}
use Rattle.ac_causal.proofs.vectors.Vectors.vector.Given as goal

abbrev pub invariant-loop-party : goal.invariant-loop-party
invariant-loop-party l = record {
  so_many : length l.counts ≡ l.party;
  each : (p : ℕ) → p < l.party → get_or l.counts p 0 ≡ count_at l.parties l.table (l.entry + 1) p;
}

use Rattle.std.proofs.Common.{ℕ, ◌<◌, ◌≤◌, length}
use Rattle.std.specs.Prelude.{slice_index}
use Rattle.ac_causal.specs.Cuts.{made_by}
use Rattle.ac_causal.proofs.cut.is_cut.Given as goal

abbrev pub invariant-loop-party : goal.invariant-loop-party
invariant-loop-party l = (p : ℕ) → p < l.party → slice_index l.counts p ≤ made_by l.entries p (length l.entries)

use Rattle.ac_causal.specs.inner.Opening.{IsLeastMark}
use Rattle.ac_causal.proofs.causal.Causal.cut.Given as goal

abbrev pub invariant-loop-entry : goal.invariant-loop-entry
invariant-loop-entry l = IsLeastMark l.vectors.entries l.counts l.entry l.least

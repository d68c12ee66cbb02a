use Rattle.ac_causal.specs.inner.Standing.{AreRunsTo}
use Rattle.ac_causal.proofs.states.states_of.Given as goal

abbrev pub invariant-loop-core : goal.invariant-loop-core
invariant-loop-core l = AreRunsTo l.code l.trace.steps l.trace.entries l.counts l.core l.ends

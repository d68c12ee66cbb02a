use Rattle.ac_causal.specs.inner.Standing.{HasTaken}
use Rattle.ac_causal.proofs.states.state_of.Given as goal

abbrev pub invariant-loop-stamped : goal.invariant-loop-stamped
invariant-loop-stamped l = HasTaken l.code l.core l.trace.steps l.count l.entries l.stamped-index l.replay l.left

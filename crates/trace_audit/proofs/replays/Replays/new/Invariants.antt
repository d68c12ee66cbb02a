use Rattle.trace_audit.proofs.Stepping.{AreFirst}
use Rattle.trace_audit.proofs.replays.Replays.new.Given as goal

abbrev pub invariant-loop-core : goal.invariant-loop-core
invariant-loop-core l = AreFirst l.code l.steps l.cores.items l.core

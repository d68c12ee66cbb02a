use Rattle.std.proofs.Common.{◌≡◌, take, map}
use Rattle.trace_audit.specs.Laws.{told_of}
use Rattle.trace_audit.proofs.tracing.all_told.Given as goal

abbrev pub invariant-loop-end : goal.invariant-loop-end
invariant-loop-end l = l.all ≡ map told_of (take l.end-index l.ends)

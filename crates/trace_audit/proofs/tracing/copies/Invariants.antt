use Rattle.std.proofs.Common.{◌≡◌, take}
use Rattle.trace_audit.proofs.tracing.copies.Given as goal

abbrev pub invariant-loop-file : goal.invariant-loop-file
invariant-loop-file l = l.all ≡ take l.file-index l.files

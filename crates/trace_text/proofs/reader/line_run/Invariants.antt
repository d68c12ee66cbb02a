use Rattle.std.proofs.Common.{◌≡◌, ◌+◌, drop}
use Rattle.trace_text.specs.inner.Reading.{line_run}
use Rattle.trace_text.proofs.reader.line_run.Given as goal

abbrev pub invariant-loop-i : goal.invariant-loop-i
invariant-loop-i l = l.i + line_run (drop l.i l.bytes) ≡ line_run l.bytes

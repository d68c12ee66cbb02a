use Rattle.std.proofs.Common.{◌≡◌, ◌+◌, drop}
use Rattle.trace_text.specs.inner.Reading.{digit_run}
use Rattle.trace_text.proofs.cursor.digit_run.Given as goal

abbrev pub invariant-loop-i : goal.invariant-loop-i
invariant-loop-i l = l.i + digit_run (drop l.i l.bytes) ≡ digit_run l.bytes

use Rattle.std.proofs.Common.{◌≡◌, ◌≤◌, drop}
use Rattle.trace_text.specs.inner.Reading.{value_of}
use Rattle.trace_text.proofs.cursor.value_within.Given as goal

abbrev pub invariant-loop-b : goal.invariant-loop-b
invariant-loop-b l = record { same : value_of l.n (drop l.b-index l.bytes) ≡ value_of 0 l.bytes; fits : l.n ≤ l.most }

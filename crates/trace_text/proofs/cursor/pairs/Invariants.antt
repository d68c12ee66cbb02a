use Rattle.std.proofs.Common.{◌≡◌, length}
use Rattle.trace_text.specs.inner.Reading.{pairs_of}
use Rattle.trace_text.proofs.Pairs.{behind}
use Rattle.trace_text.proofs.cursor.pairs.Given as goal

abbrev pub invariant-pairs : goal.invariant-pairs
invariant-pairs l = behind l.bytes (pairs_of l.rest) ≡ pairs_of l.digits

abbrev pub decreases-pairs : goal.decreases-pairs
decreases-pairs l = length l.rest

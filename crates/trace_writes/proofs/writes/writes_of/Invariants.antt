use Rattle.std.proofs.Common.{◌≡◌, [], ◌++◌, drop, length, replicate}
use Rattle.trace_writes.specs.inner.Finding.{writes_from}
use Rattle.trace_writes.proofs.writes.writes_of.Given as goal

abbrev pub invariant-loop-entry : goal.invariant-loop-entry
invariant-loop-entry l =
    l.writes ++ writes_from l.links.items (drop l.entry-index l.entries) ≡ writes_from (replicate (length l.capacities) []) l.entries

use Rattle.stack_code.specs.inner.Reserve.{SortedTo}
use Rattle.stack_code.proofs.uses.sort_rows.Given as goal

abbrev pub invariant-loop-at : goal.invariant-loop-at
invariant-loop-at l = SortedTo l.initial.rows.items l.rows.items l.at

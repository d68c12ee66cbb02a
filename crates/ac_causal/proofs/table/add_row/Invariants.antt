use Rattle.ac_causal.specs.inner.Marks.{HasRow}
use Rattle.ac_causal.proofs.table.add_row.Given as goal

abbrev pub invariant-loop-party : goal.invariant-loop-party
invariant-loop-party l = HasRow l.parties l.owner l.last l.seen l.initial.table.items l.table.items l.party

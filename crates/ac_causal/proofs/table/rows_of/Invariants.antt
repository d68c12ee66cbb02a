use Rattle.std.proofs.Common.{◌≡◌}
use Rattle.ac_causal.specs.inner.Marks.{no_marks, marked_at, IsTable}
use Rattle.ac_causal.specs.inner.Opening.{AreSeen}
use Rattle.ac_causal.proofs.table.rows_of.Given as goal

abbrev pub invariant-loop-place : goal.invariant-loop-place
invariant-loop-place l = record {
  marks : l.marks ≡ marked_at l.entries (no_marks l.links l.parties) l.place;
  table : IsTable l.parties (no_marks l.links l.parties) l.entries l.place l.table.items;
  seen : AreSeen (no_marks l.links l.parties) l.entries l.place l.seen.items;
}

-- An entry more: its marks, and its row, which is made of the rows of the marks before.
use Rattle.std.proofs.Common.{ℕ, List, ◌+◌, length, refl, sym, subst, ◌∙◌}
use Rattle.std.proofs.lemmas.Option.{slice_get_read}
use Rattle.ac_causal.specs.inner.Marks.{no_marks}
use Rattle.ac_causal.specs.inner.Opening.{AreSeen}
use Rattle.ac_causal.proofs.Tables.{marks_go_on, table_by, seen_goes_on}
use Rattle.ac_causal.proofs.table.rows_of.Goals as goal

pub loop-place-preserved : goal.loop-place-preserved
loop-place-preserved c =
    let is = slice_get_read c.args.entries.now (length c.args.entries.now) c.loop-place.place c.index-entries-place.result refl c.loop-place-test.true c.index-entries-place.is in
    record {
      marks = c.in_ok-add.ensures ∙ marks_go_on c.args.entries.now (no_marks c.args.links c.args.parties) c.loop-place.marks c.loop-place.place c.index-entries-place.result
          c.loop-place.invariant.marks is;
      table = table_by c.args.links c.args.parties c.loop-place.place c.last-last.result c.seen-answered.result c.args.entries.now c.loop-place.table.items c.add_row.new.table.items
          c.index-entries-place.result c.loop-place.marks c.loop-place.invariant.table is c.loop-place.invariant.marks c.last-last.ensures c.seen-answered.ensures c.in_ok-add_row.ensures;
      seen = subst (λ (xs : List ℕ). AreSeen (no_marks c.args.links c.args.parties) c.args.entries.now (c.loop-place.place + 1) xs) (sym c.in_ok-push.ensures.items)
          (seen_goes_on (no_marks c.args.links c.args.parties) c.args.entries.now c.loop-place.place c.seen-answered.result c.loop-place.seen.items c.index-entries-place.result
          c.loop-place.marks c.loop-place.invariant.seen is c.loop-place.invariant.marks c.seen-answered.ensures);
    }

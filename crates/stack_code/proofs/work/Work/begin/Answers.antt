use Rattle.std.proofs.Common.{◌+◌, get_or, sym, subst}
use Rattle.stack_code.specs.declared.work.Work.{Work}
use Rattle.stack_code.specs.inner.Work.{IsWork, HasEntries}
use Rattle.stack_code.proofs.Rounds.{met_true, entry_at, entries_more, entries_none, entries_all, entry_reached}
use Rattle.stack_code.proofs.work.Work.begin.Goals as goal
use Rattle.stack_code.proofs.work.Work.begin.Goals.{in-None, in-Some+in_ok-shape-in-Some+in_ok-meet-in-Some+else-not-branch}

pub meet-requires-clause-reached : goal.meet-requires-clause-reached
meet-requires-clause-reached c =
    let es = c.entries-number-items in
    entry_reached c.args.code.now c.loop-number.number-index (get_or es.result.now c.loop-number.number-index 0) c.in-Some.function.now c.in_ok-shape-in-Some.shape
    (entry_at es.result.now c.args.code.now.entries c.loop-number.number-index es.ensures c.loop-number-test.true) (sym c.in-Some.ensures) c.in_ok-shape-in-Some.ensures

pub loop-number-preserved : goal.loop-number-preserved
loop-number-preserved c =
    let code = c.args.code.now in
    let es = c.entries-number-items in
    let n = c.loop-number.number-index in
    let number = get_or es.result.now n 0 in
    let inv = c.loop-number.invariant in
    let here = entry_at es.result.now code.entries n es.ensures c.loop-number-test.true in
    let after = c.match-function.self in
    elim c.match-function.branch [
      | in-None w ↦ record {
        work = subst (λ (z : Work). IsWork code z.table.items z.found.items 0) (sym w.self-is) inv.work;
        entries = subst (λ (z : Work). HasEntries code z.table.items (n + 1)) (sym w.self-is)
            (entries_none code c.loop-number.self.table.items c.loop-number.self.table.items n number here inv.entries (λ at s h. h) (sym w.in-None.ensures));
        next = cc;
      }
      | in-Some+in_ok-shape-in-Some+in_ok-meet-in-Some+else-not-branch w ↦
          let m = met_true code c.loop-number.self.table.items w.meet.new.self.table.items c.loop-number.self.found.items w.meet.new.self.found.items c.loop-number.self.next w.in-Some.function.now.at
          w.in_ok-shape-in-Some.shape w.in_ok-meet-in-Some.field-0 w.if-not-branch.false w.in_ok-meet-in-Some.ensures.met in
          record {
            work = subst (λ (z : Work). IsWork code z.table.items z.found.items 0) (sym w.self-is) (subst (IsWork code w.meet.new.self.table.items w.meet.new.self.found.items) inv.next m.work);
            entries = subst (λ (z : Work). HasEntries code z.table.items (n + 1)) (sym w.self-is)
                (entries_more code c.loop-number.self.table.items w.meet.new.self.table.items n number here inv.entries m.more w.in-Some.function.now w.in_ok-shape-in-Some.shape
                (sym w.in-Some.ensures) w.in_ok-shape-in-Some.ensures m.has);
            next = cc;
          }
    ]

pub returns-clause-begun : goal.returns-clause-begun
returns-clause-begun c = record {
  work = c.loop-number.invariant.work;
  entries = entries_all c.args.code.now c.loop-number.self.table.items c.entries-number-items.result.now c.loop-number.number-index c.loop-number.invariant.entries c.entries-number-items.ensures
      c.loop-number-test.false;
}

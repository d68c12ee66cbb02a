use Rattle.std.proofs.Common.{◌≡◌, ◌+◌, ◌≤◌, length, vec_len, sym, subst, arith}
use Rattle.stack_code.specs.inner.Work.{IsBegun}
use Rattle.stack_code.proofs.Rounds.{first_work, turned_true, entries_kept, found_is}
use Rattle.stack_code.proofs.work.shapes.Goals as goal

pub begin-requires-clause-work : goal.begin-requires-clause-work
begin-requires-clause-work c = first_work c.args.code.now c.loop.table.items c.new.result.items c.loop.counter c.loop.invariant (omega arith) c.new.ensures.items

pub loop-work-preserved : goal.loop-work-preserved
loop-work-preserved c =
    let code = c.args.code.now in
    let old = c.loop-work.work in
    let new = c.turn.new.self in
    let m = turned_true code old.table.items new.table.items new.found.items old.next c.in_ok-turn.field-0 c.if-not-branch-2.false c.in_ok-turn.ensures.turned in
    subst (λ k. IsBegun code new.table.items new.found.items (k + 1)) (sym c.in_ok-turn.ensures.next) (record {
      work = m.work;
      entries = entries_kept code old.table.items new.table.items _ c.loop-work.invariant.entries m.more;
    })

pub returns : goal.returns
returns c =
    let e : vec_len c.loop-work.work.found ≡ length c.loop-work.work.found.items = c.loop-work.work.found.ok.0 in
    let n : length c.loop-work.work.found.items ≤ c.loop-work.work.next = omega arith in
    found_is c.args.code.now c.loop-work.work.table.items c.loop-work.work.found.items c.loop-work.work.next c.loop-work.invariant n

use Rattle.std.proofs.Common.{◌≡◌, length, subst, arith}
use Rattle.stack_code.specs.inner.Reserve.{Reserves}
use Rattle.stack_code.proofs.Apart.{reserves_first, reserve_is}
use Rattle.stack_code.proofs.uses.reserve.Goals as goal

pub loop-at-init : goal.loop-at-init
loop-at-init c = reserves_first c.args.code.now c.args.table.now c.in_ok-reserved.reserved c.in_ok-reserved.ensures.functions c.in_ok-reserved.ensures.asyncs

pub returns : goal.returns
returns c =
    let end : c.loop-at.at ≡ length c.args.code.now.instrs = omega arith in
    reserve_is c.args.code.now c.args.table.now c.loop-at.reserved _ (subst (Reserves c.args.code.now c.args.table.now c.loop-at.reserved) end c.loop-at.invariant) c.in_ok-sort_rows.ensures
    c.in_ok-sort_rows-2.ensures

use Rattle.std.proofs.Common.{below_more, arith}
use Rattle.stack_code.specs.inner.Reserve.{IsFree}
use Rattle.stack_code.proofs.Apart.{one_use}
use Rattle.stack_code.proofs.uses.has_one_use.Goals as goal

pub loop-at-preserved : goal.loop-at-preserved
loop-at-preserved c = below_more (IsFree c.args.code.now c.args.table.now c.in-Some.reserved) c.loop-at.at c.loop-at.invariant c.if-not-is_free.ensures

pub returns : goal.returns
returns c =
    let s = rw c.in-Some.is at c.in_ok-reserved.ensures in
    one_use c.args.code.now c.args.table.now c.in-Some.reserved c.requires.tabled s.reserves (λ k lt. c.loop-at.invariant k (omega arith))

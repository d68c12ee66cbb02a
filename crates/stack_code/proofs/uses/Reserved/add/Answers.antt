use Rattle.std.proofs.Common.{subst}
use Rattle.stack_code.specs.inner.Reserve.{HasRow}
use Rattle.stack_code.proofs.Rows.{add_function, add_async}
use Rattle.stack_code.proofs.uses.Reserved.add.Goals as goal

pub returns-in-Function : goal.returns-in-Function
returns-in-Function c = add_function c.args.self.now c.add_at.new.rows c.args.home c.in-Function.number c.args.slot c.add_at.result c.in-Function.is
    (subst (HasRow c.args.self.now) c.in-Function.is c.requires) c.add_at.ensures

pub returns-in-Async : goal.returns-in-Async
returns-in-Async c = add_async c.args.self.now c.add_at-in-Async.new.rows c.args.home c.in-Async.at c.args.slot c.add_at-in-Async.result c.in-Async.is
    (subst (HasRow c.args.self.now) c.in-Async.is c.requires) c.add_at-in-Async.ensures

use Rattle.std.proofs.Common.{◌∙◌}
use Rattle.stack_code.proofs.Known.{met_known, met_new_at}
use Rattle.stack_code.proofs.Tables.{some_at, none_at}
use Rattle.stack_code.proofs.work.Work.meet.Goals as goal

pub returns-in-Some-clause-met : goal.returns-in-Some-clause-met
returns-in-Some-clause-met c =
    met_known c.args.code.now c.args.self.now.table.items c.args.self.now.found.items c.args.self.now.next c.args.to c.in-Some.known c.args.shape c.same_shape.result c.requires.work c.requires.reached
    (some_at c.args.self.now.table.items c.args.to c.len.result c.index.result.now c.in-Some.known (c.len.ensures ∙ c.args.self.now.table.ok.0) c.if-place-len.false c.index.ensures c.in-Some.is)
    c.same_shape.ensures

pub returns-in_ok-push-in-None-clause-met : goal.returns-in_ok-push-in-None-clause-met
returns-in_ok-push-in-None-clause-met c =
    met_new_at c.args.code.now c.args.self.now.table.items c.args.self.now.found.items _ c.args.self.now.next c.args.to c.args.shape c.requires.work c.requires.reached
    (none_at c.args.self.now.table.items c.args.to c.len.result c.index.result.now (c.len.ensures ∙ c.args.self.now.table.ok.0) c.if-place-len.false c.index.ensures c.in-None.is)
    c.in_ok-push-in-None.ensures.items

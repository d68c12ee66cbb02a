use Rattle.std.proofs.Common.{◌∙◌}
use Rattle.ac_semantics.specs.Statements.{target_operands}
use Rattle.interpreter_steps.specs.inner.Pending.{head_of}
use Rattle.interpreter_steps.proofs.Outcomes.{row_ends, row_then}
use Rattle.interpreter_steps.proofs.resuming.row_into.Goals as goal

pub returns-in_ok-push-in-Comes : goal.returns-in_ok-push-in-Comes
returns-in_ok-push-in-Comes c =
    row_then c.args.memory.now c.args.frame (head_of c.args.head) c.args.done.items c.in_ok-from_slice.field-0.items c.args.value.now (target_operands c.args.target.now) c.args.around.now
    (c.in_ok-from_slice.ensures.items ∙ c.as_slice.ensures.value) c.in_ok-other.other c.in-Comes.cell c.push.new.self.items c.within.new.around _ c.row_target.result
    c.in_ok-push-in-Comes.ensures.items c.in-Comes.is c.in_ok-other.ensures c.row_target.ensures

pub returns-in_default : goal.returns-in_default
returns-in_default c =
    row_ends c.args.memory.now c.args.frame (head_of c.args.head) c.args.done.items c.in_ok-from_slice.field-0.items c.args.value.now (target_operands c.args.target.now) c.args.around.now
    (c.in_ok-from_slice.ensures.items ∙ c.as_slice.ensures.value) c.in_ok-other.other c.within.new.around c.in_default.not-Comes c.in_ok-other.ensures

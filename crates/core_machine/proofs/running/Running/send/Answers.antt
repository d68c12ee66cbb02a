use Rattle.std.proofs.Common.{◌∙◌, ap, subst}
use Rattle.std.specs.Prelude.{IfSome, slice_get}
use Rattle.work_item.specs.declared.cell.Cell.{Cell}
use Rattle.cancel_scope.specs.declared.operation.Asked.TheVariants as asked
use Rattle.core_state.specs.Messages.{message_in}
use Rattle.core_operators.specs.Carrying.{MakesMessage}
use Rattle.code_meaning.specs.Machine.{operates}
use Rattle.core_machine.specs.State.{flat_of}
use Rattle.core_machine.proofs.CalledOff.{some_stands, at_once, waits_there}
use Rattle.core_machine.proofs.running.Running.send.Goals as goal

pub end_at_once-requires-clause-one : goal.end_at_once-requires-clause-one
end_at_once-requires-clause-one c = c.requires.message.0

pub pop-top-requires : goal.pop-top-requires
pop-top-requires c = c.requires.message.0

pub message_in-message-requires : goal.message_in-message-requires
message_in-message-requires c =
    subst (λ ops. IfSome (slice_get ops 0) (λ (x : Cell). MakesMessage c.args.self.now.frames x)) c.pop-top.ensures c.requires.message.1

pub returns-then-is_cancelled-clause-ok : goal.returns-then-is_cancelled-clause-ok
returns-then-is_cancelled-clause-ok c =
    let m = c.args.self.now in
    let o = some_stands m.operands c.requires.message.0 in
    at_once m c.requires.running c.args.channel (λ x. asked.Send (message_in m.frames x)) o.0 o.1.0 o.1.1 c.if-is_cancelled.ensures.answer c.end_at_once.new.self c.end_at_once.ensures

pub returns-clause-ok : goal.returns-clause-ok
returns-clause-ok c =
    let m = c.args.self.now in
    let flat = c.operate.ensures.flat
    ∙ ap (λ v. operates (flat_of (record m { outstanding = c.reserve.new.self; operands = c.pop-top.new.self })) c.item-item.result c.args.channel (asked.Send v) c.pop-top.new.self)
    c.message_in-message.ensures in
    waits_there m c.requires.running c.args.channel (λ x. asked.Send (message_in m.frames x)) c.pop-top.result c.pop-top.new.self c.pop-top.ensures
    c.if-is_cancelled.ensures.answer c.item-item.result c.item-item.ensures c.reserve.new.self c.reserve.ensures.operations c.operate.new.self flat c.operate.ensures.ended

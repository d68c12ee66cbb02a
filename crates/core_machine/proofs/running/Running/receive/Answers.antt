use Rattle.work_item.specs.declared.cell.Cell.TheVariants as cell
use Rattle.work_item.specs.Store.{place_in}
use Rattle.cancel_scope.specs.declared.operation.Asked.TheVariants as asked
use Rattle.thread_table.specs.Operands.{is_reference}
use Rattle.core_machine.proofs.CalledOff.{stands_on, at_once, waits_there}
use Rattle.core_machine.proofs.running.Running.receive.Goals as goal

pub returns-then-is_cancelled-clause-ok : goal.returns-then-is_cancelled-clause-ok
returns-then-is_cancelled-clause-ok c =
    let m = c.args.self.now in
    let o = stands_on is_reference m.operands c.requires.reference in
    at_once m c.requires.running c.args.channel (λ x. asked.Recv (place_in x)) o.0 o.1.0 o.1.1 c.if-is_cancelled.ensures.answer c.end_at_once.new.self c.end_at_once.ensures

pub returns-clause-ok : goal.returns-clause-ok
returns-clause-ok c =
    waits_there c.args.self.now c.requires.running c.args.channel (λ x. asked.Recv (place_in x)) (cell.Array c.pop_place-place.result) c.pop_place-place.new.self c.pop_place-place.ensures.items
    c.if-is_cancelled.ensures.answer c.item-item.result c.item-item.ensures c.reserve.new.self c.reserve.ensures.operations c.operate.new.self c.operate.ensures.flat c.operate.ensures.ended

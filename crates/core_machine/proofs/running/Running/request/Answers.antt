use Rattle.std.proofs.Common.{◌≡◌, ◌∷◌, length, drop, ap, ◌∙◌, arith}
use Rattle.std.proofs.lemmas.List.{length-drop}
use Rattle.work_item.specs.declared.cell.Cell.TheVariants as cell
use Rattle.core_state.specs.Arrivals.{cancelled}
use Rattle.code_meaning.specs.Machine.{asks}
use Rattle.core_machine.specs.State.{flat_of}
use Rattle.core_machine.specs.inner.Changes.{item_of}
use Rattle.core_machine.proofs.Requested.{asks_at_once, asks_waits, drop_two_one}
use Rattle.core_machine.proofs.running.Running.request.Goals as goal

pub end_at_once-requires-clause-one : goal.end_at_once-requires-clause-one
end_at_once-requires-clause-one c =
    let left = length-drop 2 c.args.self.now.operands in
    let same : length c.discard.new.self ≡ length (drop 2 c.args.self.now.operands) = ap length c.discard.ensures in
    omega (arith, left, same, c.requires.three)

pub returns-then-is_cancelled-clause-ok : goal.returns-then-is_cancelled-clause-ok
returns-then-is_cancelled-clause-ok c =
    let m = c.args.self.now in
    asks_at_once m c.requires.running m.requests c.args.asked (drop 3 m.operands) c.if-is_cancelled.ensures.answer (cell.Int cancelled ∷ drop 1 c.discard.new.self)
    (ap (λ l. cell.Int cancelled ∷ drop 1 l) c.discard.ensures ∙ ap (λ l. cell.Int cancelled ∷ l) (drop_two_one m.operands)) c.end_at_once.new.self c.end_at_once.ensures

pub returns-clause-ok : goal.returns-clause-ok
returns-clause-ok c =
    let m = c.args.self.now in
    asks_waits m c.requires.running m.requests c.args.asked c.discard-2.new.self c.if-is_cancelled.ensures.answer c.item-item.result c.item-item.ensures c.reserve.new.self
    c.reserve.ensures.operations c.operate.new.self c.operate.ensures.flat c.operate.ensures.ended
    ∙ ap (λ l. asks (flat_of m) (item_of m.schedule.running) m.requests c.args.asked l) c.discard-2.ensures

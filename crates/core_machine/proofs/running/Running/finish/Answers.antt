use Rattle.std.proofs.Common.{sym, ap, ◌∙◌, subst}
use Rattle.stack_code.specs.declared.instr.Instr.TheVariants as i
use Rattle.code_meaning.specs.Machine.{counted}
use Rattle.core_machine.specs.inner.Changes.{Does}
use Rattle.core_machine.proofs.Does.{passes, waits, childless_at_finish}
use Rattle.core_machine.proofs.running.Running.finish.Goals as goal

pub at_finish-requires-clause-childless : goal.at_finish-requires-clause-childless
at_finish-requires-clause-childless c =
    childless_at_finish c.args.self.now c.requires.running c.item-item.result c.item-item.ensures c.requires.can.has c.innermost-block.result c.innermost-block.ensures c.requires.can.childless

pub returns-in-Passes-clause-does : goal.returns-in-Passes-clause-does
returns-in-Passes-clause-does c =
    let m = c.args.self.now in
    subst (Does m (i.Finish c.args.slot)) (sym c.go_on.ensures)
    (passes m c.requires.running c.item-item.result c.item-item.ensures c.requires.can.has c.innermost-block.result c.innermost-block.ensures c.args.slot
    c.parent-self.result c.at_finish.new.self c.parent-self.ensures.value
    c.at_finish.ensures.state (sym c.in-Passes.ensures.arrival))

pub returns-in-Waits-clause-does : goal.returns-in-Waits-clause-does
returns-in-Waits-clause-does c =
    let m = c.args.self.now in
    let between = c.count_one.ensures
    ∙ ap (λ s. record m { block = c.parent-self.result; blocks = c.at_finish.new.self; schedule = s; count = counted m.count }) c.suspend.ensures in
    waits m c.requires.running c.item-item.result c.item-item.ensures c.requires.can.has c.innermost-block.result c.innermost-block.ensures c.args.slot
    c.parent-self.result c.at_finish.new.self c.parent-self.ensures.value
    c.at_finish.ensures.state c.count_one.new.self c.park.new.self c.nobody.result (sym c.in-Waits.ensures.arrival) between c.nobody.ensures c.park.ensures.ended c.park.ensures.flat

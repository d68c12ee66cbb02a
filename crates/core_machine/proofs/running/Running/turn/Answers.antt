use Rattle.std.proofs.Common.{sym, ◌∙◌}
use Rattle.core_machine.proofs.Passing.{stays_passes, then_passes}
use Rattle.core_machine.proofs.Sound.{none_item}
use Rattle.core_machine.proofs.running.Running.turn.Goals as goal

pub start_next-requires-clause-idle : goal.start_next-requires-clause-idle
start_next-requires-clause-idle c = sym c.running.ensures ∙ none_item c.running.result c.is_none.result c.if-is_none.true c.is_none.ensures

pub returns-in_err-settle-clause-passes : goal.returns-in_err-settle-clause-passes
returns-in_err-settle-clause-passes c = stays_passes c.args.self.now c.settle.new.self c.settle.ensures.stays c.settle.ensures.same

pub returns-then-is_none-clause-passes : goal.returns-then-is_none-clause-passes
returns-then-is_none-clause-passes c =
    then_passes c.args.self.now c.settle.new.self c.settle.ensures.stays c.settle.ensures.same c.start_next.new.self c.start_next.ensures.passes

pub returns-clause-passes : goal.returns-clause-passes
returns-clause-passes c =
    then_passes c.args.self.now c.settle.new.self c.settle.ensures.stays c.settle.ensures.same c.stretch.new.self (λ turn first. c.stretch.ensures.led.passes turn)

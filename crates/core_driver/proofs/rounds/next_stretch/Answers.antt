use Rattle.std.proofs.Common.{sym, ◌∙◌}
use Rattle.core_driver.proofs.Together.{turn_holds}
use Rattle.core_driver.proofs.Looking.{or_none}
use Rattle.core_driver.proofs.Polling.{polled_by_stretch}
use Rattle.core_driver.proofs.Resting.{not_idle}
use Rattle.core_driver.proofs.rounds.next_stretch.Goals as goal

pub pass_point-requires-clause-point : goal.pass_point-requires-clause-point
pass_point-requires-clause-point g c = sym c.is_at_point.ensures ∙ c.if-is_at_point.true

pub turn-requires-clause-busy : goal.turn-requires-clause-busy
turn-requires-clause-busy g c = not_idle _ (sym c.is_at_point.ensures ∙ c.if-is_at_point.false)

pub returns-clause-holds : goal.returns-clause-holds
returns-clause-holds g c = turn_holds c.args.machine.now c.turn.new.self _ c.requires.in_step c.turn.ensures.same c.turn.ensures.run

pub returns-clause-full : goal.returns-clause-full
returns-clause-full g c = or_none _

pub returns-clause-stays : goal.returns-clause-stays
returns-clause-stays g c = g.met.P.Ports.stays_self c.args.ports.now

pub returns-in_err-turn-clause-holds : goal.returns-in_err-turn-clause-holds
returns-in_err-turn-clause-holds g c = turn_holds c.args.machine.now c.turn.new.self _ c.requires.in_step c.turn.ensures.same c.turn.ensures.run

pub returns-in_err-turn-clause-stays : goal.returns-in_err-turn-clause-stays
returns-in_err-turn-clause-stays g c = g.met.P.Ports.stays_self c.args.ports.now

pub returns-clause-polled : goal.returns-clause-polled
returns-clause-polled g c = polled_by_stretch c.args.machine.now c.turn.new.self _ c.requires.in_step.run c.requires.going (sym c.is_at_point.ensures ∙ c.if-is_at_point.false)
    (sym c.in_default.ensures.tried)
    c.turn.ensures.same c.turn.ensures.passes

pub returns-in_err-turn-clause-polled : goal.returns-in_err-turn-clause-polled
returns-in_err-turn-clause-polled g c = polled_by_stretch c.args.machine.now c.turn.new.self _ c.requires.in_step.run c.requires.going (sym c.is_at_point.ensures ∙ c.if-is_at_point.false)
    (sym c.in_default.ensures.tried) c.turn.ensures.same c.turn.ensures.passes

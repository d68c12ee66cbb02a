use Rattle.core_machine.proofs.Points.{asks_none, busy_by, goes_by, going_on, not_resting, turn_goes, turn_less, turn_passes, turn_ranked, turn_same}
use Rattle.core_machine.proofs.machine.CoreMachine.turn.Goals as goal

pub turn-requires-clause-running : goal.turn-requires-clause-running
turn-requires-clause-running c = going_on c.self.inside.running (goes_by c.self.inside.running c.args.self.now c.self.view_is c.requires.going)

pub turn-requires-clause-active : goal.turn-requires-clause-active
turn-requires-clause-active c =
    not_resting c.self.inside.running (goes_by c.self.inside.running c.args.self.now c.self.view_is c.requires.going)
    (busy_by c.self.inside.running c.args.self.now c.self.view_is c.requires.busy)

pub turn-requires-clause-asks : goal.turn-requires-clause-asks
turn-requires-clause-asks c = asks_none c.self.inside.running c.args.self.now c.self.view_is c.requires.decided

pub turn-requires-clause-ranked : goal.turn-requires-clause-ranked
turn-requires-clause-ranked c = turn_ranked c.self.inside.running c.args.self.now c.self.view_is c.args._ranks.now c.requires.ranked

pub returns-clause-goes : goal.returns-clause-goes
returns-clause-goes c = turn_goes c.self.inside.running c.turn.new.self c.args.self.now c.self.view_is c.turn.ensures.goes

pub returns-clause-passes : goal.returns-clause-passes
returns-clause-passes c = turn_passes c.self.inside.running c.turn.new.self c.args.self.now c.self.view_is c.turn.ensures.passes

pub returns-clause-same : goal.returns-clause-same
returns-clause-same c = turn_same c.self.inside.running c.turn.new.self c.args.self.now c.self.view_is c.turn.ensures.same c.turn.ensures.journal

pub returns-clause-run : goal.returns-clause-run
returns-clause-run c = c.turn.ensures.sound.ran

pub returns-clause-less : goal.returns-clause-less
returns-clause-less c = turn_less c.self.inside.running c.turn.new.self c.args.self.now c.self.view_is c.args._ranks.now c.turn.result c.turn.ensures.less

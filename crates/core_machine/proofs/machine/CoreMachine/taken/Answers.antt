use Rattle.ac_base.specs.declared.entry.Event.TheVariants as event
use Rattle.core_state.specs.Cancelling.{IsTaken}
use Rattle.core_machine.proofs.Points.{asks_some, decide_less, decide_sound, has_decided, roomed_by, taking_decides}
use Rattle.core_machine.proofs.machine.CoreMachine.taken.Goals as goal

pub decide_taken-requires-clause-room : goal.decide_taken-requires-clause-room
decide_taken-requires-clause-room c = (roomed_by c.self.inside.running c.args.self.now c.self.view_is c.requires.room).journal

pub decide_taken-requires-clause-ready : goal.decide_taken-requires-clause-ready
decide_taken-requires-clause-ready c = (roomed_by c.self.inside.running c.args.self.now c.self.view_is c.requires.room).ready

pub decide_taken-requires-clause-settled : goal.decide_taken-requires-clause-settled
decide_taken-requires-clause-settled c = (roomed_by c.self.inside.running c.args.self.now c.self.view_is c.requires.room).settled

pub decide_taken-requires-clause-asks : goal.decide_taken-requires-clause-asks
decide_taken-requires-clause-asks c = asks_some c.self.inside.running c.args.self.now c.self.view_is c.args.tried c.requires.asks

pub invariant_of-self : goal.invariant_of-self
invariant_of-self c = decide_sound c.self.inside.running c.decide_taken.new.self c.args.tried IsTaken
    (event.Know c.args.tried.link c.args.tried.number) c.args.stamp c.args.self.now c.self.view_is c.self.invariant
    c.requires.asks (taking_decides c.args.tried.link c.args.tried.number) c.decide_taken.ensures.decides

pub returns-clause-decided : goal.returns-clause-decided
returns-clause-decided c = has_decided c.self.inside.running c.decide_taken.new.self c.args.tried IsTaken
    (event.Know c.args.tried.link c.args.tried.number) c.args.stamp c.args.self.now c.self.view_is c.self.invariant
    c.requires.asks (taking_decides c.args.tried.link c.args.tried.number) c.decide_taken.ensures.decides

pub returns-clause-less : goal.returns-clause-less
returns-clause-less c = decide_less c.self.inside.running c.decide_taken.new.self c.args.tried IsTaken
    (event.Know c.args.tried.link c.args.tried.number) c.args.stamp c.args.self.now c.self.view_is c.self.invariant
    c.requires.asks (taking_decides c.args.tried.link c.args.tried.number) c.decide_taken.ensures.decides

pub returns-clause-run : goal.returns-clause-run
returns-clause-run c = (decide_sound c.self.inside.running c.decide_taken.new.self c.args.tried IsTaken
    (event.Know c.args.tried.link c.args.tried.number) c.args.stamp c.args.self.now c.self.view_is c.self.invariant
    c.requires.asks (taking_decides c.args.tried.link c.args.tried.number) c.decide_taken.ensures.decides).ran

use Rattle.std.proofs.Common.{subst, IsSome}
use Rattle.std.specs.Prelude.{find}
use Rattle.ac_base.specs.declared.entry.Event.TheVariants as event
use Rattle.cancel_scope.specs.Outstanding.{is_to_receive}
use Rattle.core_machine.proofs.Points.{come_less, come_sound, has_come, operations_there, point_by, roomed_by}
use Rattle.core_machine.proofs.machine.CoreMachine.got.Goals as goal

pub got-requires-clause-room : goal.got-requires-clause-room
got-requires-clause-room c = (roomed_by c.self.inside.running c.args.self.now c.self.view_is c.requires.room).journal

pub got-requires-clause-ready : goal.got-requires-clause-ready
got-requires-clause-ready c = (roomed_by c.self.inside.running c.args.self.now c.self.view_is c.requires.room).ready

pub got-requires-clause-settled : goal.got-requires-clause-settled
got-requires-clause-settled c = (roomed_by c.self.inside.running c.args.self.now c.self.view_is c.requires.room).settled

pub got-requires-clause-some : goal.got-requires-clause-some
got-requires-clause-some c = subst (λ os. IsSome (find (is_to_receive c.args.link) os)) (operations_there c.self.inside.running c.args.self.now c.self.view_is c.requires.point)
    c.requires.some

pub got-requires-clause-running : goal.got-requires-clause-running
got-requires-clause-running c = (point_by c.self.inside.running c.args.self.now c.self.view_is c.requires.point).0

pub invariant_of-self : goal.invariant_of-self
invariant_of-self c = come_sound c.self.inside.running c.got.new.self (event.Got c.args.link c.args.number c.args.value) c.args.stamp c.args.self.now c.self.view_is c.self.invariant
    c.requires.point c.got.ensures.enters

pub returns-clause-come : goal.returns-clause-come
returns-clause-come c = has_come c.self.inside.running c.got.new.self (event.Got c.args.link c.args.number c.args.value) c.args.stamp c.args.self.now c.self.view_is c.self.invariant
    c.requires.point c.got.ensures.enters

pub returns-clause-less : goal.returns-clause-less
returns-clause-less c = come_less c.self.inside.running c.got.new.self (event.Got c.args.link c.args.number c.args.value) c.args.stamp c.args.self.now c.self.view_is c.self.invariant
    c.requires.point c.got.ensures.enters

pub returns-clause-run : goal.returns-clause-run
returns-clause-run c = (come_sound c.self.inside.running c.got.new.self (event.Got c.args.link c.args.number c.args.value) c.args.stamp c.args.self.now c.self.view_is c.self.invariant
    c.requires.point c.got.ensures.enters).ran

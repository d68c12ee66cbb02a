use Rattle.std.proofs.Common.{subst, IsSome}
use Rattle.std.specs.Prelude.{find}
use Rattle.ac_base.specs.declared.entry.Event.TheVariants as event
use Rattle.cancel_scope.specs.Outstanding.{is_offered}
use Rattle.core_machine.proofs.Points.{come_less, come_sound, has_come, operations_there, point_by, roomed_by}
use Rattle.core_machine.proofs.machine.CoreMachine.know.Goals as goal

pub know-requires-clause-room : goal.know-requires-clause-room
know-requires-clause-room c = (roomed_by c.self.inside.running c.args.self.now c.self.view_is c.requires.room).journal

pub know-requires-clause-ready : goal.know-requires-clause-ready
know-requires-clause-ready c = (roomed_by c.self.inside.running c.args.self.now c.self.view_is c.requires.room).ready

pub know-requires-clause-settled : goal.know-requires-clause-settled
know-requires-clause-settled c = (roomed_by c.self.inside.running c.args.self.now c.self.view_is c.requires.room).settled

pub know-requires-clause-some : goal.know-requires-clause-some
know-requires-clause-some c = subst (λ os. IsSome (find (is_offered c.args.link c.args.number) os)) (operations_there c.self.inside.running c.args.self.now c.self.view_is c.requires.point)
    c.requires.some

pub know-requires-clause-places : goal.know-requires-clause-places
know-requires-clause-places c = c.self.invariant.places (point_by c.self.inside.running c.args.self.now c.self.view_is c.requires.point).0

pub invariant_of-self : goal.invariant_of-self
invariant_of-self c = come_sound c.self.inside.running c.know.new.self (event.Know c.args.link c.args.number) c.args.stamp c.args.self.now c.self.view_is c.self.invariant c.requires.point
    c.know.ensures.enters

pub returns-clause-come : goal.returns-clause-come
returns-clause-come c = has_come c.self.inside.running c.know.new.self (event.Know c.args.link c.args.number) c.args.stamp c.args.self.now c.self.view_is c.self.invariant c.requires.point
    c.know.ensures.enters

pub returns-clause-less : goal.returns-clause-less
returns-clause-less c = come_less c.self.inside.running c.know.new.self (event.Know c.args.link c.args.number) c.args.stamp c.args.self.now c.self.view_is c.self.invariant c.requires.point
    c.know.ensures.enters

pub returns-clause-run : goal.returns-clause-run
returns-clause-run c = (come_sound c.self.inside.running c.know.new.self (event.Know c.args.link c.args.number) c.args.stamp c.args.self.now c.self.view_is c.self.invariant c.requires.point
    c.know.ensures.enters).ran

use Rattle.std.proofs.Common.{subst, IsSome}
use Rattle.std.specs.Prelude.{find}
use Rattle.ac_base.specs.declared.entry.Event.TheVariants as event
use Rattle.cancel_scope.specs.Outstanding.{is_begun}
use Rattle.core_machine.proofs.Points.{come_less, come_sound, has_come, operations_there, point_by, roomed_by}
use Rattle.core_machine.proofs.machine.CoreMachine.replied.Goals as goal

pub replied-requires-clause-room : goal.replied-requires-clause-room
replied-requires-clause-room c = (roomed_by c.self.inside.running c.args.self.now c.self.view_is c.requires.room).journal

pub replied-requires-clause-ready : goal.replied-requires-clause-ready
replied-requires-clause-ready c = (roomed_by c.self.inside.running c.args.self.now c.self.view_is c.requires.room).ready

pub replied-requires-clause-settled : goal.replied-requires-clause-settled
replied-requires-clause-settled c = (roomed_by c.self.inside.running c.args.self.now c.self.view_is c.requires.room).settled

pub replied-requires-clause-some : goal.replied-requires-clause-some
replied-requires-clause-some c = subst (λ os. IsSome (find (is_begun c.args.link c.args.number) os))
    (operations_there c.self.inside.running c.args.self.now c.self.view_is c.requires.point) c.requires.some

pub replied-requires-clause-running : goal.replied-requires-clause-running
replied-requires-clause-running c = (point_by c.self.inside.running c.args.self.now c.self.view_is c.requires.point).0

pub invariant_of-self : goal.invariant_of-self
invariant_of-self c = come_sound c.self.inside.running c.replied.new.self (event.Reply c.args.link c.args.number c.args.answer) c.args.stamp c.args.self.now c.self.view_is
    c.self.invariant c.requires.point c.replied.ensures.enters

pub returns-clause-come : goal.returns-clause-come
returns-clause-come c = has_come c.self.inside.running c.replied.new.self (event.Reply c.args.link c.args.number c.args.answer) c.args.stamp c.args.self.now c.self.view_is
    c.self.invariant c.requires.point c.replied.ensures.enters

pub returns-clause-less : goal.returns-clause-less
returns-clause-less c = come_less c.self.inside.running c.replied.new.self (event.Reply c.args.link c.args.number c.args.answer) c.args.stamp c.args.self.now c.self.view_is
    c.self.invariant c.requires.point c.replied.ensures.enters

pub returns-clause-run : goal.returns-clause-run
returns-clause-run c = (come_sound c.self.inside.running c.replied.new.self (event.Reply c.args.link c.args.number c.args.answer) c.args.stamp c.args.self.now c.self.view_is
    c.self.invariant c.requires.point c.replied.ensures.enters).ran

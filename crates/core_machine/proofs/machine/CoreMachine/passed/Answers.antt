use Rattle.std.proofs.Common.{subst, IsSome}
use Rattle.std.specs.Prelude.{find}
use Rattle.ac_base.specs.declared.entry.Event.TheVariants as event
use Rattle.cancel_scope.specs.Outstanding.{is_to_receive}
use Rattle.core_machine.proofs.Points.{come_less, come_sound, has_come, operations_there, roomed_by}
use Rattle.core_machine.proofs.machine.CoreMachine.passed.Goals as goal

pub passed-requires-clause-room : goal.passed-requires-clause-room
passed-requires-clause-room c = (roomed_by c.self.inside.running c.args.self.now c.self.view_is c.requires.room).journal

pub passed-requires-clause-some : goal.passed-requires-clause-some
passed-requires-clause-some c = subst (λ os. IsSome (find (is_to_receive c.args.link) os)) (operations_there c.self.inside.running c.args.self.now c.self.view_is c.requires.point)
    c.requires.some

pub invariant_of-self : goal.invariant_of-self
invariant_of-self c = come_sound c.self.inside.running c.passed.new.self (event.Pass c.args.link c.args.number) c.args.stamp c.args.self.now c.self.view_is c.self.invariant c.requires.point
    c.passed.ensures.enters

pub returns-clause-come : goal.returns-clause-come
returns-clause-come c = has_come c.self.inside.running c.passed.new.self (event.Pass c.args.link c.args.number) c.args.stamp c.args.self.now c.self.view_is c.self.invariant c.requires.point
    c.passed.ensures.enters

pub returns-clause-less : goal.returns-clause-less
returns-clause-less c = come_less c.self.inside.running c.passed.new.self (event.Pass c.args.link c.args.number) c.args.stamp c.args.self.now c.self.view_is c.self.invariant
    c.requires.point c.passed.ensures.enters

pub returns-clause-run : goal.returns-clause-run
returns-clause-run c = (come_sound c.self.inside.running c.passed.new.self (event.Pass c.args.link c.args.number) c.args.stamp c.args.self.now c.self.view_is c.self.invariant
    c.requires.point c.passed.ensures.enters).ran

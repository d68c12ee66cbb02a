use Rattle.std.proofs.Common.{◌≡◌, subst, true}
use Rattle.ac_base.specs.declared.entry.Event.TheVariants as event
use Rattle.core_state.specs.Arrivals.{keeps_room}
use Rattle.core_machine.proofs.Points.{come_less, come_sound, has_come, journal_by, roomed_by}
use Rattle.core_machine.proofs.machine.CoreMachine.roomed.Goals as goal

pub roomed-requires-clause-room : goal.roomed-requires-clause-room
roomed-requires-clause-room c = (roomed_by c.self.inside.running c.args.self.now c.self.view_is c.requires.room).journal

pub roomed-requires-clause-keeps : goal.roomed-requires-clause-keeps
roomed-requires-clause-keeps c = subst (λ es. keeps_room c.args.link c.args.number es ≡ true) (journal_by c.self.inside.running c.args.self.now c.self.view_is) c.requires.keeps

pub invariant_of-self : goal.invariant_of-self
invariant_of-self c = come_sound c.self.inside.running c.roomed.new.self (event.Room c.args.link c.args.number) c.args.stamp c.args.self.now c.self.view_is c.self.invariant c.requires.point
    c.roomed.ensures.enters

pub returns-clause-come : goal.returns-clause-come
returns-clause-come c = has_come c.self.inside.running c.roomed.new.self (event.Room c.args.link c.args.number) c.args.stamp c.args.self.now c.self.view_is c.self.invariant c.requires.point
    c.roomed.ensures.enters

pub returns-clause-less : goal.returns-clause-less
returns-clause-less c = come_less c.self.inside.running c.roomed.new.self (event.Room c.args.link c.args.number) c.args.stamp c.args.self.now c.self.view_is c.self.invariant
    c.requires.point c.roomed.ensures.enters

pub returns-clause-run : goal.returns-clause-run
returns-clause-run c = (come_sound c.self.inside.running c.roomed.new.self (event.Room c.args.link c.args.number) c.args.stamp c.args.self.now c.self.view_is c.self.invariant
    c.requires.point c.roomed.ensures.enters).ran

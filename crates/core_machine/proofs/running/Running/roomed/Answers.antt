use Rattle.core_machine.proofs.Entered.{room_enters}
use Rattle.core_machine.proofs.running.Running.roomed.Goals as goal

pub returns-clause-enters : goal.returns-clause-enters
returns-clause-enters c =
    room_enters c.args.self.now c.note.new.self c.note.new.self.journal c.args.link c.args.number c.args.stamp c.requires.keeps c.note.ensures.same c.note.ensures.entries

use Rattle.core_machine.proofs.Entered.{pass_enters}
use Rattle.core_machine.proofs.running.Running.passed.Goals as goal

pub returns-clause-enters : goal.returns-clause-enters
returns-clause-enters c =
    pass_enters c.args.self.now c.note.new.self c.note.new.self.journal c.args.link c.args.number c.args.stamp c.requires.some c.note.ensures.same c.note.ensures.entries

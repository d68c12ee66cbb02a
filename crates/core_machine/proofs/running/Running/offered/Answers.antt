use Rattle.core_machine.proofs.Entered.{offer_enters}
use Rattle.core_machine.proofs.running.Running.offered.Goals as goal

pub returns-clause-enters : goal.returns-clause-enters
returns-clause-enters c =
    offer_enters c.args.self.now c.note.new.self c.offer_oldest.new.self c.note.new.self.journal c.args.link c.args.number c.args.stamp c.args.payload c.requires.next c.requires.some
    c.requires.oldest c.note.ensures.same c.offer_oldest.ensures.operations c.note.ensures.entries

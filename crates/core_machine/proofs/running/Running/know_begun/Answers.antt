use Rattle.core_machine.proofs.Entered.{begun_enters}
use Rattle.core_machine.proofs.running.Running.know_begun.Goals as goal

pub returns : goal.returns
returns c = record {
  enters = begun_enters c.args.self.now c.note.new.self c.begin_offered.new.self c.note.new.self.journal c.args.link c.args.number c.args.stamp c.requires.some c.requires.request
      c.note.ensures.same c.begin_offered.ensures.operations c.note.ensures.entries;
}

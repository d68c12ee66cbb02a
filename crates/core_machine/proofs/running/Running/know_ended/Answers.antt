use Rattle.std.proofs.Common.{sym, subst}
use Rattle.cancel_scope.specs.Outstanding.{is_offered}
use Rattle.thread_table.specs.Table.{HasPlace}
use Rattle.core_machine.specs.declared.running.Running.{Running}
use Rattle.core_machine.proofs.Entered.{know_enters}
use Rattle.core_machine.proofs.Places.{place_found}
use Rattle.core_machine.proofs.running.Running.know_ended.Goals as goal

pub resume-requires-clause-place : goal.resume-requires-clause-place
resume-requires-clause-place c = subst (λ (y : Running). HasPlace y.threads c.in-Some.operation.item) (sym c.note.ensures.same)
    (place_found c.args.self.now c.requires.places (is_offered c.args.link c.args.number) c.in-Some.operation (sym c.in-Some.ensures.result))

pub returns : goal.returns
returns c = record {
  enters = know_enters c.args.self.now c.note.new.self c.resume.new.self c.end_offered.new.self c.note.new.self.journal c.args.link c.args.number c.args.stamp c.in-Some.operation
      (sym c.in-Some.ensures.result) c.requires.ends c.note.ensures.same c.in-Some.ensures.operations c.note.ensures.entries c.resume.ensures.flat c.resume.ensures.ended
      c.resume.ensures.keeps;
}

use Rattle.std.proofs.Common.{◌≡◌, sym, subst, ◌∙◌, rules, w64, to_z, of_z}
use Rattle.std.proofs.lemmas.Int.{ints, to_z-of_z}
use Rattle.cancel_scope.specs.Outstanding.{is_begun}
use Rattle.thread_table.specs.Table.{HasPlace}
use Rattle.core_machine.specs.declared.running.Running.{Running}
use Rattle.core_machine.proofs.Answered.{reads_into_living}
use Rattle.core_machine.proofs.Entered.{reply_enters}
use Rattle.core_machine.proofs.Places.{place_found}
use Rattle.core_machine.proofs.running.Running.replied.Goals as goal

pub take_answer-value-requires : goal.take_answer-value-requires
take_answer-value-requires c = reads_into_living c.args.self.now c.requires.sound c.requires.running c.args.link c.args.number c.in-Some.operation (sym c.in-Some.ensures.result)

pub resume-requires-clause-place : goal.resume-requires-clause-place
resume-requires-clause-place c = subst (λ (y : Running). HasPlace y.threads c.in-Some.operation.item) (sym c.note.ensures.same)
    (place_found c.args.self.now (c.requires.sound.places c.requires.running) (is_begun c.args.link c.args.number) c.in-Some.operation (sym c.in-Some.ensures.result))

pub returns : goal.returns
returns c =
    let told = to_z w64 (of_z w64 c.take_answer-value.result) in
    let same : told ≡ c.take_answer-value.result = search (rules, ints, to_z-of_z) in
    record {
      enters = reply_enters c.args.self.now c.note.new.self c.resume.new.self c.end_begun.new.self c.take_answer-value.new.frames c.note.new.self.journal c.args.link c.args.number
          c.args.stamp c.args.answer told c.in-Some.operation (sym c.in-Some.ensures.result) (same ∙ c.take_answer-value.ensures.value) c.note.ensures.same c.in-Some.ensures.operations
          c.take_answer-value.ensures.frames c.note.ensures.entries c.resume.ensures.flat c.resume.ensures.ended c.resume.ensures.keeps;
    }

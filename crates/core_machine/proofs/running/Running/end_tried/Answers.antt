use Rattle.std.proofs.Common.{Some, ap, sym, subst, ◌∙◌, w64}
use Rattle.std.proofs.lemmas.Int.{to_z-of_z}
use Rattle.work_item.specs.declared.cell.Cell.TheVariants as cell
use Rattle.code_meaning.specs.Machine.{resumed}
use Rattle.thread_table.specs.Table.{HasPlace}
use Rattle.core_machine.specs.declared.running.Running.{Running}
use Rattle.core_machine.specs.State.{flat_of}
use Rattle.core_machine.proofs.Decided.{makes_end}
use Rattle.core_machine.proofs.Places.{place_at}
use Rattle.core_machine.proofs.running.Running.end_tried.Goals as goal

pub resume-requires-clause-place : goal.resume-requires-clause-place
resume-requires-clause-place c = subst (λ (y : Running). HasPlace y.threads c.end_at-operation.result.item) (sym c.note.ensures.same)
    (place_at c.args.self.now c.requires.places c.args.place c.end_at-operation.result c.end_at-operation.ensures.result)

pub returns : goal.returns
returns c = record {
  makes = λ o there. makes_end c.args.self.now c.note.new.self c.args.block c.args.event c.args.stamp c.resume.new.self c.args.value c.args.place o c.end_at-operation.result
      c.end_at-operation.new.self c.mark_cancelled.new.self c.note.new.self.journal c.end_at-operation.ensures.result there c.note.ensures.same c.end_at-operation.ensures.operations
      c.mark_cancelled.ensures c.note.ensures.entries
      (c.resume.ensures.flat ∙ ap (λ v. resumed (flat_of c.note.new.self) (cell.Int v) (Some c.end_at-operation.result.item)) (to_z-of_z w64 c.args.value c.ranges.value)) c.resume.ensures.ended
      c.resume.ensures.keeps;
}

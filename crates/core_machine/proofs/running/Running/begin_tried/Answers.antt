use Rattle.std.specs.Prelude.{slice_set}
use Rattle.cancel_scope.specs.Outstanding.{as_begun}
use Rattle.core_machine.proofs.Decided.{makes_change}
use Rattle.core_machine.proofs.running.Running.begin_tried.Goals as goal

pub returns : goal.returns
returns c = record {
  makes = λ o there. makes_change c.args.self.now c.note.new.self c.args.block c.args.event c.args.stamp c.begin_at.new.self c.mark_cancelled.new.self c.note.new.self.journal
      (slice_set c.args.self.now.outstanding.operations c.args.place (as_begun o)) c.note.ensures.same (c.begin_at.ensures.operations o there) c.mark_cancelled.ensures c.note.ensures.entries;
}

use Rattle.std.proofs.Common.{[], ◌∷◌, ◌++◌, ◌∙◌, ap, sym}
use Rattle.ac_base.proofs.Storing.{take_next}
use Rattle.ac_base.proofs.journal.Journal.to_list.Goals as goal

pub loop-place-preserved : goal.loop-place-preserved
loop-place-preserved c =
    c.in_ok-push.ensures.ok ∙ (ap (λ xs. xs ++ c.in_ok-get.field-0 ∷ []) c.loop-place.invariant ∙ sym (take_next c.args.self.now.entries c.loop-place.place c.in_ok-get.field-0 c.in_ok-get.ensures))

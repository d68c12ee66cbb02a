use Rattle.std.proofs.Common.{ap, ◌∙◌, ◌++◌, ◌∷◌, []}
use Rattle.cancel_scope.proofs.Seen.{seen_more}
use Rattle.cancel_scope.proofs.outstanding.Outstanding.seen.Goals as goal

pub loop-place-preserved : goal.loop-place-preserved
loop-place-preserved c =
    seen_more c.args.self.now.operations c.loop-place.place c.get.result.now _ _ _ c.get.ensures c.loop-place.invariant
    (c.in_ok-push.ensures.ok ∙ ap (λ w. c.loop-place.seen ++ w ∷ []) c.seen.ensures)

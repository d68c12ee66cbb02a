use Rattle.std.proofs.Common.{length, sym, ◌∙◌, arith}
use Rattle.finish_block.proofs.Walk.{none_left, all_seen, found, goes_on, cancelled_means}
use Rattle.finish_block.proofs.blocks.Blocks.is_cancelled.Goals as goal

pub returns-in_default-clause-means : goal.returns-in_default-clause-means
returns-in_default-clause-means c = cancelled_means _ c.len-end.ensures.rooted c.args.block _ (none_left _ _ _ _ _ _ c.up.invariant c.in_default.is)

pub returns-then-is_marked-clause-means : goal.returns-then-is_marked-clause-means
returns-then-is_marked-clause-means c =
    cancelled_means _ c.len-end.ensures.rooted c.args.block _
    (found _ _ _ _ _ _ c.up.invariant c.in-Some.here (omega arith) c.in-Some.is (sym c.is_marked.ensures ∙ c.if-is_marked.true))

pub up-preserved : goal.up-preserved
up-preserved c =
    goes_on _ _ _ _ _ _ c.up.invariant c.in-Some.here (omega arith) c.in-Some.is (sym c.is_marked.ensures ∙ c.if-is_marked.false) _ c.parent_of-current.ensures

pub returns-clause-means : goal.returns-clause-means
returns-clause-means c = cancelled_means _ c.len-end.ensures.rooted c.args.block _ (all_seen _ _ (length c.args.self.now.blocks) c.up.counter _ _ c.up.invariant (omega arith))

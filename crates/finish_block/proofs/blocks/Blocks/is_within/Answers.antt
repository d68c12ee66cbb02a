use Rattle.std.proofs.Common.{length, sym, ◌∙◌, arith}
use Rattle.finish_block.proofs.Walk.{none_left, all_seen, found, goes_on, within_means}
use Rattle.finish_block.proofs.blocks.Blocks.is_within.Goals as goal

pub returns-in_default-clause-means : goal.returns-in_default-clause-means
returns-in_default-clause-means c = within_means _ c.len-end.ensures.rooted c.args.block c.args.outer _ (none_left _ _ _ _ _ _ c.up.invariant c.in_default.is)

pub returns-then-eq-clause-answer : goal.returns-then-eq-clause-answer
returns-then-eq-clause-answer c = found _ _ _ _ _ _ c.up.invariant c.in-Some.here (omega arith) c.in-Some.is (sym c.eq.ensures ∙ c.if-eq.true)

pub returns-then-eq-clause-means : goal.returns-then-eq-clause-means
returns-then-eq-clause-means c =
    within_means _ c.len-end.ensures.rooted c.args.block c.args.outer _
    (found _ _ _ _ _ _ c.up.invariant c.in-Some.here (omega arith) c.in-Some.is (sym c.eq.ensures ∙ c.if-eq.true))

pub up-preserved : goal.up-preserved
up-preserved c =
    goes_on _ _ _ _ _ _ c.up.invariant c.in-Some.here (omega arith) c.in-Some.is (sym c.eq.ensures ∙ c.if-eq.false) _ c.parent_of-current.ensures

pub returns-clause-means : goal.returns-clause-means
returns-clause-means c = within_means _ c.len-end.ensures.rooted c.args.block c.args.outer _ (all_seen _ _ (length c.args.self.now.blocks) c.up.counter _ _ c.up.invariant (omega arith))

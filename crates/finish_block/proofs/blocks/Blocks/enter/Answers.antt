use Rattle.finish_block.proofs.Rooted.{seen_made}
use Rattle.finish_block.proofs.blocks.Blocks.enter.Goals as goal

pub invariant_of-self : goal.invariant_of-self
invariant_of-self c =
    seen_made _ _ _ _ c.args.parent c.args.owner c.self.invariant c.self.view_is c.requires.parent c.push_reserved-number.ensures.items

use Rattle.std.proofs.Common.{refl}
use Rattle.finish_block.proofs.Rooted.{rooted_same}
use Rattle.finish_block.proofs.blocks.Blocks.mark_cancelled.Goals as goal

pub invariant_of-self : goal.invariant_of-self
invariant_of-self c = rooted_same _ c.args.block _ _ c.self.invariant c.value_mut.ensures.value refl

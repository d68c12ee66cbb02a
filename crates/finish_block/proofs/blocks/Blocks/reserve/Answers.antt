use Rattle.std.proofs.Common.{sym, subst}
use Rattle.finish_block.specs.Conditions.{IsRooted}
use Rattle.finish_block.proofs.blocks.Blocks.reserve.Goals as goal

pub invariant_of-self : goal.invariant_of-self
invariant_of-self c = subst IsRooted (sym c.reserve.ensures.items) c.self.invariant

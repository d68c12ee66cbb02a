use Rattle.std.proofs.Common.{subst}
use Rattle.finish_block.specs.Conditions.{IsRooted}
use Rattle.finish_block.proofs.blocks.Blocks.len.Goals as goal

pub returns-clause-rooted : goal.returns-clause-rooted
returns-clause-rooted c = subst (λ t. IsRooted t.blocks) c.self.view_is c.self.invariant

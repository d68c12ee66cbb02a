use Rattle.finish_block.proofs.Walk.{ancestors_live}
use Rattle.finish_block.proofs.blocks.Blocks.parent.Goals as goal

pub returns-clause-round : goal.returns-clause-round
returns-clause-round c = λ a r. ancestors_live _ a c.args.block c.kept.ensures.rooted c.requires r

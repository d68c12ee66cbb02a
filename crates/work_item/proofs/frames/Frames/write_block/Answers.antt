use Rattle.work_item.specs.declared.cell.Cell.TheVariants as cell
use Rattle.work_item.proofs.Whole.{whole_set}
use Rattle.work_item.proofs.frames.Frames.write_block.Goals as goal

pub invariant_of-self : goal.invariant_of-self
invariant_of-self c =
    whole_set _ _ _ c.args.frame.number c.args.slot (cell.Block c.args.block) c.set_block.result c.self.invariant c.set_block.ensures.ok c.set_block.ensures.err

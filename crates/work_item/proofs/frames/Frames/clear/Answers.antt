use Rattle.std.proofs.Common.{sym, subst}
use Rattle.work_item.specs.Table.{IsWhole}
use Rattle.work_item.proofs.Clearing.{length-cleared}
use Rattle.work_item.proofs.Whole.{whole_with}
use Rattle.work_item.proofs.frames.Frames.clear.Goals as goal

pub invariant_of-self : goal.invariant_of-self
invariant_of-self c =
    subst (IsWhole c.self.inside.globals.items) (sym c.clear.ensures) (whole_with _ _ _ _ c.self.invariant (length-cleared _ _ _))

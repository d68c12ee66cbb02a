use Rattle.std.proofs.Common.{sym, subst, length-set}
use Rattle.work_item.specs.Table.{IsWhole}
use Rattle.work_item.proofs.Whole.{whole_with}
use Rattle.work_item.proofs.frames.Frames.write_at.Goals as goal

pub invariant_of-self-then-has_cell : goal.invariant_of-self-then-has_cell
invariant_of-self-then-has_cell c =
    subst (IsWhole c.self.inside.globals.items) (sym c.set_int.ensures) (whole_with _ _ _ _ c.self.invariant (length-set _ _ _))

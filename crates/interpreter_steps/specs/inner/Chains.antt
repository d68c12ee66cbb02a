-- Chains, operator by operator.
use Rattle.std.specs.Prelude.{ℤ, pos, List, ◌∷◌, Option, Some, None}
use Rattle.ac_tree.specs.declared.expr.BinaryOp.{BinaryOp}
use Rattle.ac_tree.specs.declared.expr.BinaryOp.TheVariants as b
use Rattle.work_item.specs.declared.ids.FrameId.{FrameId}
use Rattle.work_item.specs.Store.{Store, int_in}
use Rattle.core_state.specs.Arithmetic.{at_zero}
use Rattle.ac_commands.specs.declared.value.ValueLink.{ValueLink}
use Rattle.ac_semantics.specs.Evaluation.{Goes, Right, operate, unless_decided, then_goes, then_int, comes_int, goes}

-- what the left operand of `||` and `&&` decides alone
abbrev pub decided : BinaryOp → ℤ → Option ℤ
decided b.Or x = at_zero x None (Some (pos 1))
decided b.And x = at_zero x (Some (pos 0)) None
decided _ x = None

-- one operator with its right operand, after the value on its left; these come behind it
abbrev pub joined : Store → FrameId → ℤ → ValueLink → List ValueLink → Goes
joined s frame x link others around =
    unless_decided link.op x comes_int
    (then_goes (goes s frame link.operand (Right x link.op others ∷ around)) (λ y. then_int (operate link.op x (int_in y)) comes_int))

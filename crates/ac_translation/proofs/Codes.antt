-- The code of an expression, by its form.
-- A fold does not compute on a whole expression; these equations say what its code is, form by form.
use Rattle.std.proofs.Common.{◌≡◌, ℤ, List, length, map, sym, ap, ◌∙◌}
use Rattle.ac_tree.specs.declared.expr.BinaryOp.{BinaryOp}
use Rattle.ac_commands.specs.declared.value.Array.{Array}
use Rattle.ac_commands.specs.declared.value.Action.{Action}
use Rattle.ac_commands.specs.declared.value.Value.{Value, fold-roll-Value}
use Rattle.ac_commands.specs.declared.value.Value.TheVariants as v
use Rattle.ac_commands.specs.declared.value.Value.TheOpen.{Value-F}
use Rattle.ac_commands.specs.declared.value.ValueLink.{ValueLink, fold-roll-ValueLink}
use Rattle.stack_code.specs.declared.instr.Instr.TheVariants as i
use Rattle.ac_translation.specs.Pieces.{Piece, one, ◌⨾◌, all}
use Rattle.ac_translation.specs.Translation.{action_code, chained_code, array_code, value_step, link_step, value_code, link_code}

pub number_code : (n : ℤ) → value_code (v.Number n) ≡ one (i.Push n)
number_code n = ap value_code (sym (v.rolls-Number n)) ∙ fold-roll-Value Piece (BinaryOp × Piece) value_step link_step (Value-F.Number n)

pub reference_code : (whole : Array) → value_code (v.Reference whole) ≡ one (array_code whole)
reference_code whole = ap value_code (sym (v.rolls-Reference whole)) ∙ fold-roll-Value Piece (BinaryOp × Piece) value_step link_step (Value-F.Reference whole)

pub chain_code : (first : Value) (rest : List ValueLink) → value_code (v.Chain first rest) ≡ value_code first ⨾ chained_code (map link_code rest)
chain_code first rest = ap value_code (sym (v.rolls-Chain first rest)) ∙ fold-roll-Value Piece (BinaryOp × Piece) value_step link_step (Value-F.Chain first rest)

pub act_code : (action : Action) (operands : List Value) →
    value_code (v.Act action operands) ≡ all (map value_code operands) ⨾ one (action_code action (length (map value_code operands)))
act_code action operands = ap value_code (sym (v.rolls-Act action operands)) ∙ fold-roll-Value Piece (BinaryOp × Piece) value_step link_step (Value-F.Act action operands)

pub link_is : (l : ValueLink) → link_code l ≡ (l.op, value_code l.operand)
link_is l = fold-roll-ValueLink Piece (BinaryOp × Piece) value_step link_step (record { op = l.op; operand = l.operand })

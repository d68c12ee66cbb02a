-- Each value has an instruction at least, so that numbers of 32 bits count the arguments of what has room.
-- By the form of a value, each of which has an instruction of its own or that of a part; then by induction over a list of them.
use Rattle.std.proofs.Common.{◌≤◌, List, [], ◌∷◌, length, sym, subst, arith}
use Rattle.ac_tree.specs.declared.expr.BinaryOp.{BinaryOp}
use Rattle.ac_commands.specs.declared.value.Value.{Value, map-Value, ind-Value, fold-roll-Value}
use Rattle.ac_commands.specs.declared.value.ValueLink.{ValueLink}
use Rattle.ac_commands.specs.declared.value.Value.TheOpen.{Value-F}
use Rattle.ac_translation.specs.Pieces.{Piece}
use Rattle.ac_translation.specs.Translation.{value_step, link_step, value_code, link_code, values_code}

abbrev IsSome : Piece → Type 0
IsSome p = 1 ≤ p.size

abbrev Value_ : Type 0
Value_ = (x : Value) × IsSome (value_code x)

abbrev Link_ : Type 0
Link_ = (l : ValueLink) × Unit {0}

layer : (y : Value-F Value_ Link_) → IsSome (value_step (map-Value Value ValueLink Piece (BinaryOp × Piece) value_code link_code (map-Value Value_ Link_ Value ValueLink (λ x. x.0) (λ l. l.0) y)))
layer (Value-F.Number value) = omega arith
layer (Value-F.Variable place) = omega arith
layer (Value-F.Reference array) = omega arith
layer (Value-F.Element array index) = omega arith
layer (Value-F.Part array index) = omega arith
layer (Value-F.Unary op operand) = omega arith
layer (Value-F.Chain first rest) = let some = first.1 in omega (arith, some)
layer (Value-F.Act action operands) = omega arith

value_some : (x : Value) → IsSome (value_code x)
value_some =
    ind-Value (λ x. IsSome (value_code x)) (λ l. Unit {0})
    (λ x y is. subst IsSome (sym (fold-roll-Value Piece (BinaryOp × Piece) value_step link_step x))
    (subst (λ z. IsSome (value_step (map-Value Value ValueLink Piece (BinaryOp × Piece) value_code link_code z))) is (layer y)))
    (λ x y is. tt)

pub few_values : (xs : List Value) → length xs ≤ (values_code xs).size
few_values [] = omega arith
few_values (x ∷ xs) = let more = few_values xs in let some = value_some x in omega (arith, more, some)

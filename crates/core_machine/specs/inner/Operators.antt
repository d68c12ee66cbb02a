-- Which operator an instruction applies.
use Rattle.std.specs.Prelude.{◌≡◌, ℤ, Bool, true, false, Option, Some, None, Ok, option_map, FitsSigned}
use Rattle.std.specs.Int.{w64}
use Rattle.core_state.specs.Arithmetic.{Computed, truth, negated, not_true, flipped, sum_of, difference_of}
use Rattle.core_state.specs.Arithmetic.{product_of, quotient, remainder, shifted_left, shifted_right, is_equal}
use Rattle.core_state.specs.Arithmetic.{is_not_equal, is_less, is_at_most, both_bits, either_bits, differing_bits}
use Rattle.stack_code.specs.declared.instr.Instr.{Instr}
use Rattle.stack_code.specs.declared.instr.Instr.TheVariants as i
use Rattle.code_meaning.specs.Machine.{always}

-- to one int
abbrev pub unary : Instr → Option (ℤ → ℤ)
unary i.Neg = Some negated
unary i.Not = Some not_true
unary i.Flip = Some flipped
unary i.Bool = Some truth
unary _ = None

-- to two ints, left and right
abbrev pub binary : Instr → Option (ℤ → ℤ → Computed)
binary i.BitOr = Some (always either_bits)
binary i.BitXor = Some (always differing_bits)
binary i.BitAnd = Some (always both_bits)
binary i.Eq = Some (always is_equal)
binary i.Ne = Some (always is_not_equal)
binary i.Less = Some (always is_less)
binary i.LessEq = Some (always is_at_most)
binary i.More = Some (always (λ x y. is_less y x))
binary i.MoreEq = Some (always (λ x y. is_at_most y x))
binary i.Shl = Some (always shifted_left)
binary i.Shr = Some (always shifted_right)
binary i.Add = Some (always sum_of)
binary i.Sub = Some (always difference_of)
binary i.Mul = Some (always product_of)
binary i.Div = Some quotient
binary i.Rem = Some remainder
binary _ = None

-- a comparison
abbrev pub is_comparison : Instr → Bool
is_comparison i.Eq = true
is_comparison i.Ne = true
is_comparison i.Less = true
is_comparison i.LessEq = true
is_comparison i.More = true
is_comparison i.MoreEq = true
is_comparison _ = false

-- a jump at 0
abbrev pub is_jump : Instr → Bool
is_jump (i.Jz to) = true
is_jump _ = false

-- ---- what a call of such a kind gives is what the instruction's operator gives

abbrev pub IsUnary : (ℤ → ℤ → Type 0) → Instr → Type 0
IsUnary gives instr = (x z : ℤ) → FitsSigned w64 x → gives x z → option_map (λ f. f x) (unary instr) ≡ Some z

abbrev pub IsBinary : (ℤ → ℤ → ℤ → Type 0) → Instr → Type 0
IsBinary gives instr =
    (x y z : ℤ) → FitsSigned w64 x → FitsSigned w64 y → gives x y z → option_map (λ f. f x y) (binary instr) ≡ Some (Ok z)

-- which may trap
abbrev pub IsPartial : (ℤ → ℤ → Computed → Type 0) → Instr → Type 0
IsPartial gives instr =
    (x y : ℤ) (r : Computed) → FitsSigned w64 x → FitsSigned w64 y → gives x y r → option_map (λ f. f x y) (binary instr) ≡ Some r

-- Numbers of 64 bits (the language's own choices; division as in the C standard's section on multiplicative operators).
use Rattle.std.specs.Prelude.{ℕ, zero, suc, ◌%◌, ℤ, pos, negsuc, Bool, true, false, not, int_lt, int_le, int_rem, Result, Ok, Err}
use Rattle.std.specs.Int.{w64, cast_unsigned, int_wrapping_add, int_wrapping_sub, int_wrapping_mul, int_wrapping_div}
use Rattle.std.specs.Int.{int_wrapping_neg, int_bit_and, int_bit_or, int_bit_xor, int_bit_not, int_shl, int_shr}
use Rattle.std.specs.Ordering.{int_eq}
use Rattle.ac_base.specs.declared.ends.Trap.{Trap}
use Rattle.ac_base.specs.declared.ends.Trap.TheVariants.{ZeroDivisor}

-- what is computed, or the trap that is met
abbrev pub Computed : Type 0
Computed = Result ℤ Trap

-- goes on from what is computed, and stays at a trap
abbrev pub bind : {A B : Type 0} → Result A Trap → (A → Result B Trap) → Result B Trap
bind (Ok x) f = f x
bind (Err trap) f = Err trap

-- the first at 0, and else the second
abbrev pub at_zero : {A : Type 0} → ℤ → A → A → A
at_zero (pos zero) a b = a
at_zero (pos (suc n)) a b = b
at_zero (negsuc n) a b = b

-- ---- truth

abbrev pub truth_of : Bool → ℤ
truth_of true = pos 1
truth_of false = pos 0

abbrev pub truth : ℤ → ℤ
truth x = at_zero x (pos 0) (pos 1)

-- ---- one operand

abbrev pub negated : ℤ → ℤ
negated x = int_wrapping_neg w64 x

abbrev pub not_true : ℤ → ℤ
not_true x = at_zero x (pos 1) (pos 0)

abbrev pub flipped : ℤ → ℤ
flipped x = int_bit_not w64 x

-- ---- two operands

abbrev pub sum_of : ℤ → ℤ → ℤ
sum_of x y = int_wrapping_add w64 x y

abbrev pub difference_of : ℤ → ℤ → ℤ
difference_of x y = int_wrapping_sub w64 x y

abbrev pub product_of : ℤ → ℤ → ℤ
product_of x y = int_wrapping_mul w64 x y

-- toward 0; the least value by -1 is the least value
abbrev pub quotient : ℤ → ℤ → Computed
quotient x y = at_zero y (Err ZeroDivisor) (Ok (int_wrapping_div w64 x y))

-- it has the sign of the dividend
abbrev pub remainder : ℤ → ℤ → Computed
remainder x y = at_zero y (Err ZeroDivisor) (Ok (int_rem x y))

-- a count is taken modulo 64
abbrev pub shift_count : ℤ → ℕ
shift_count y = cast_unsigned w64 y % 64

abbrev pub shifted_left : ℤ → ℤ → ℤ
shifted_left x y = int_shl w64 x (shift_count y)

abbrev pub shifted_right : ℤ → ℤ → ℤ
shifted_right x y = int_shr x (shift_count y)

abbrev pub is_equal : ℤ → ℤ → ℤ
is_equal x y = truth_of (int_eq x y)

abbrev pub is_not_equal : ℤ → ℤ → ℤ
is_not_equal x y = truth_of (not (int_eq x y))

abbrev pub is_less : ℤ → ℤ → ℤ
is_less x y = truth_of (int_lt x y)

abbrev pub is_at_most : ℤ → ℤ → ℤ
is_at_most x y = truth_of (int_le x y)

abbrev pub both_bits : ℤ → ℤ → ℤ
both_bits x y = int_bit_and w64 x y

abbrev pub either_bits : ℤ → ℤ → ℤ
either_bits x y = int_bit_or w64 x y

abbrev pub differing_bits : ℤ → ℤ → ℤ
differing_bits x y = int_bit_xor w64 x y

-- the low 8 bits
abbrev pub low_byte : ℤ → ℕ
low_byte x = cast_unsigned w64 x % 256

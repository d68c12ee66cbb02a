-- A value is read as it is written, with its sign: behind a dash stands a number that is not nought, and otherwise a number. No decimal
-- begins with a dash, so the two never meet.
use Rattle.std.proofs.Common.{◌≡◌, ℕ, suc, zero, ◌-◌, ◌≤◌, ◌^◌, List, ◌++◌, Some, codes, pos, refl, sym, ap, ◌∙◌, arith, false}
use Rattle.std.specs.Prelude.{ℤ, negsuc}
use Rattle.std.specs.Fmt.{decimal, signed_decimal}
use Rattle.trace_text.specs.Spelling.{IsValue}
use Rattle.trace_text.specs.inner.Reading.{is_digit, starts, number_at, positive_at, minus, negated_at, value_at, ◌>>=◌}
use Rattle.trace_text.proofs.Words.{bind_case, choice_case, parts_same}
use Rattle.trace_text.proofs.Numbers.{number_is, number_was, positive_was, no_dash}

-- a value that is written is read
pub value_is : (v : ℤ) (rest : List ℕ) → IsValue v → starts is_digit rest ≡ false → value_at (signed_decimal v ++ rest) ≡ Some (v, rest)
unfolding value_at
value_is (pos n) rest h s = rw (no_dash n rest (omega (arith, h)), number_is (2 ^ 63 - 1) n rest (omega (arith, h)) (omega (arith, h)) s) refl
value_is (negsuc n) rest h s = rw (number_is (2 ^ 63) (suc n) rest (omega (arith, h)) (omega (arith, h)) s) refl

-- a text is this value's, and the value has 64 bits
pub record WasValue (v : ℤ) (bs rest : List ℕ) : Type 0 where
  pub fits : IsValue v
  pub is : bs ≡ signed_decimal v ++ rest

negative_was : (n : ℕ) (v : ℤ) (bs behind after rest : List ℕ) → 1 ≤ n → n ≤ 2 ^ 63 → minus n ≡ v → after ≡ rest → bs ≡ codes "-" ++ behind → behind ≡ decimal n ++ after
    → WasValue v bs rest
negative_was zero v bs behind after rest least low e f i j = absurd (omega (arith, least))
negative_was (suc n) v bs behind after rest least low e f i j =
    rw (sym e, sym f) (record { fits = omega (arith, low); is = i ∙ ap (λ (cs : List ℕ). codes "-" ++ cs) j })

-- a value that is read was written so
pub value_was : (bs : List ℕ) (v : ℤ) (rest : List ℕ) → value_at bs ≡ Some (v, rest) → WasValue v bs rest
unfolding value_at
value_was bs v rest h =
    choice_case (codes "-") bs negated_at (number_at (2 ^ 63 - 1) bs >>= λ n. Some (pos n.0, n.1)) (v, rest) h
    (λ behind i g.
    bind_case (positive_at (2 ^ 63) behind) (λ n. Some (minus n.0, n.1)) (v, rest) g λ n first e.
    let q = parts_same (minus n.0) v n.1 rest e in
    let w = positive_was (2 ^ 63) n.0 behind n.1 (omega arith) first in
    negative_was n.0 v bs behind n.1 rest w.least w.was.low q.0 q.1 i w.was.is)
    (λ g.
    bind_case (number_at (2 ^ 63 - 1) bs) (λ n. Some (pos n.0, n.1)) (v, rest) g λ n first e.
    let q = parts_same (pos n.0) v n.1 rest e in
    let w = number_was (2 ^ 63 - 1) n.0 bs n.1 (omega arith) first in
    rw (sym q.0, sym q.1) (record { fits = omega (arith, w.low); is = w.is }))

-- Digits of a number, as the loop of `read_within` takes them: one more digit is ten times the value and the digit (`value_more`), and less than
-- seven digits write less than a million (`value_small`), so that the next step stays within the machine's numbers.
use Rattle.std.proofs.Common.{◌≡◌, ℕ, ◌+◌, ◌*◌, ◌^◌, ◌<◌, List, [], ◌∷◌, length, get_or, take, zero, suc, arith, subst, refl}
use Rattle.std.specs.Char.{digit_value}
use Rattle.std.specs.Str.Parse.{AllDigits, digits_value}
use Rattle.std.proofs.lemmas.Int.Digits.{digits_value-lt, digits_value_more}
use Rattle.std.proofs.lemmas.List.{length-take-le}

-- each byte of digits is one
pub digit_at : (word : List ℕ) (i : ℕ) → i < length word → AllDigits 10 word → digit_value (get_or word i 0) < 10
digit_at [] i l d = absurd (omega arith)
digit_at (x ∷ xs) zero l d = d.0
digit_at (x ∷ xs) (suc i) l d = digit_at xs i (omega arith) d.1

-- less than seven digits write less than a million
small : (i value : ℕ) → i < 7 → value < 10 ^ i → value < 1000000
small zero value l h = omega (arith, h)
small (suc zero) value l h = omega (arith, h)
small (suc (suc zero)) value l h = omega (arith, h)
small (suc (suc (suc zero))) value l h = omega (arith, h)
small (suc (suc (suc (suc zero)))) value l h = omega (arith, h)
small (suc (suc (suc (suc (suc zero))))) value l h = omega (arith, h)
small (suc (suc (suc (suc (suc (suc zero)))))) value l h = omega (arith, h)
small (suc (suc (suc (suc (suc (suc (suc i))))))) value l h = absurd (omega arith)

-- the value of some digits, of which there are less than seven
pub value_small : (word : List ℕ) (i : ℕ) → i < 7 → i < length word → AllDigits 10 (take i word) → digits_value 10 (take i word) < 1000000
value_small word i l within d =
    small i (digits_value 10 (take i word)) l (subst (λ k. digits_value 10 (take i word) < 10 ^ k) (length-take-le i word (omega arith)) (digits_value-lt 10 (take i word) d))

pub value_more : (word : List ℕ) (i value digit : ℕ) → i < length word → value ≡ digits_value 10 (take i word) → digit ≡ digit_value (get_or word i 0)
    → value * 10 + digit ≡ digits_value 10 (take (i + 1) word)
value_more word i value digit within e d = rw (digits_value_more 10 word i within, e, d) refl

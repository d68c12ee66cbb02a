-- Less than nine digits write less than a hundred millions, so that one more stays within the machine's numbers. Among the digits of a number
-- there is no comma, and one word is one number.
use Rattle.std.proofs.Common.{◌≡◌, ◌≢◌, ℕ, ◌^◌, ◌<◌, List, length, get_or, take, zero, suc, sym, ◌∙◌, arith, subst}
use Rattle.std.specs.Str.Parse.{AllDigits, digits_value}
use Rattle.std.proofs.lemmas.Int.Digits.{digits_value-lt}
use Rattle.std.proofs.lemmas.List.{length-take-le}
use Rattle.std.proofs.lemmas.Str.Parse.{digit_from_value}
use Rattle.ac_words.proofs.Digits.{digit_at}
use Rattle.order_words.specs.Words.{IsNumber}

small : (i value : ℕ) → i < 9 → value < 10 ^ i → value < 100000000
small zero value l h = omega (arith, h)
small (suc zero) value l h = omega (arith, h)
small (suc (suc zero)) value l h = omega (arith, h)
small (suc (suc (suc zero))) value l h = omega (arith, h)
small (suc (suc (suc (suc zero)))) value l h = omega (arith, h)
small (suc (suc (suc (suc (suc zero))))) value l h = omega (arith, h)
small (suc (suc (suc (suc (suc (suc zero)))))) value l h = omega (arith, h)
small (suc (suc (suc (suc (suc (suc (suc zero))))))) value l h = omega (arith, h)
small (suc (suc (suc (suc (suc (suc (suc (suc zero)))))))) value l h = omega (arith, h)
small (suc (suc (suc (suc (suc (suc (suc (suc (suc i))))))))) value l h = absurd (omega arith)

-- the value of some digits, of which there are less than nine
pub value_small : (word : List ℕ) (i : ℕ) → i < 9 → i < length word → AllDigits 10 (take i word) → digits_value 10 (take i word) < 100000000
value_small word i l within d =
    small i (digits_value 10 (take i word)) l (subst (λ k. digits_value 10 (take i word) < 10 ^ k) (length-take-le i word (omega arith)) (digits_value-lt 10 (take i word) d))

pub no_comma : (word : List ℕ) (number : ℕ) → IsNumber word number → (i : ℕ) → i < length word → get_or word i 0 ≢ 44
no_comma word number h i l e = let range = digit_from_value (get_or word i 0) (digit_at word i l h.digits) in omega (arith, range.0, range.1, e)

pub same_number : (word : List ℕ) (m n : ℕ) → IsNumber word m → IsNumber word n → m ≡ n
same_number word m n h k = h.value ∙ sym k.value

-- More digits never make a number less, so that the reader may stop at the first digit that takes it past its limit: the whole is past it
-- too.
use Rattle.std.proofs.Common.{◌≡◌, ℕ, suc, ◌+◌, ◌-◌, ◌*◌, ◌<◌, ◌≤◌, Bool, true, false, List, [], ◌∷◌, length, get_or, drop, drop-cons, refl, ap, ◌∙◌, arith}
use Rattle.std.specs.Prelude.{if◌then◌else◌}
use Rattle.trace_text.specs.inner.Reading.{is_digit, value_of}

grows_case : (n b : ℕ) (bs : List ℕ) (t : Bool) → n * 10 + (b - 48) ≤ value_of (n * 10 + (b - 48)) bs → n ≤ (if t then value_of (n * 10 + (b - 48)) bs else n)
grows_case n b bs true h = omega (arith, h)
grows_case n b bs false h = omega arith

value_grows : (n : ℕ) (bs : List ℕ) → n ≤ value_of n bs
value_grows n [] = omega arith
value_grows n (b ∷ bs) = grows_case n b bs (is_digit b) (value_grows (n * 10 + (b - 48)) bs)

next_value : (n i : ℕ) (bytes : List ℕ) → i < length bytes → is_digit (get_or bytes i 0) ≡ true
    → value_of n (drop i bytes) ≡ value_of (n * 10 + (get_or bytes i 0 - 48)) (drop (suc i) bytes)
next_value n i bytes within digit = ap (value_of n) (drop-cons bytes i 0 within) ∙ rw digit refl

-- a number that is too great with one digit more is too great with all of them
pub too_great : (most n i : ℕ) (bytes : List ℕ) → i < length bytes → is_digit (get_or bytes i 0) ≡ true → value_of n (drop i bytes) ≡ value_of 0 bytes
    → most < n * 10 + (get_or bytes i 0 - 48) → most < value_of 0 bytes
too_great most n i bytes within digit same great =
    omega (arith, great, value_grows (n * 10 + (get_or bytes i 0 - 48)) (drop (suc i) bytes), next_value n i bytes within digit, same)

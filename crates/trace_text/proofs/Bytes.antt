-- Bytes are read from their hexadecimal digits, and from no others. Each direction goes from one digit over the pairs to the whole word,
-- by cases of the tests that the reading functions make; a single dash stands for no bytes, and no digits begin with one.
use Rattle.std.proofs.Common.{◌≡◌, ℕ, ◌+◌, ◌-◌, ◌*◌, ◌/◌, ◌%◌, ◌<◌, ◌≤◌, Bool, true, false, List, [], ◌∷◌, Some, None, codes, refl, sym, arith}
use Rattle.std.specs.Prelude.{if◌then◌else◌, ◌&&◌, nat_lt, nat_le}
use Rattle.std.specs.Str.{bytes_eq}
use Rattle.std.proofs.lemmas.Slice.Eq.{bytes_eq-Decides}
use Rattle.std.proofs.lemmas.Bool.Decides.{nat_tests}
use Rattle.std.proofs.lemmas.List.Elements.{All-nil, All-cons, All-head, All-tail}
use Rattle.ac_base.specs.Hexadecimal.{hex_digit, hex_digits, hex_of}
use Rattle.trace_text.specs.Spelling.{AreBytes}
use Rattle.trace_text.specs.inner.Reading.{is_digit, digit_of, byte_of, pairs_of, some_pairs, bytes_to_end, ◌>>=◌}
use Rattle.trace_text.proofs.Words.{bind_case, some_same, not_none}

-- ---- one digit

digit_case : (n : ℕ) (t : Bool) → nat_lt n 10 ≡ t → n < 16 → digit_of (if t then 48 + n else 97 + (n - 10)) ≡ Some n
digit_case n true h lt =
    let d : is_digit (48 + n) ≡ true = grind (arith, nat_tests) in
    let e : 48 + n - 48 ≡ n = omega arith in
    rw (d, e) refl
digit_case n false h lt =
    let ten : 10 ≤ n = grind (arith, nat_tests) in
    let d : is_digit (97 + (n - 10)) ≡ false = grind (arith, nat_tests) in
    let l : (nat_le 97 (97 + (n - 10)) && nat_le (97 + (n - 10)) 102) ≡ true = grind (arith, nat_tests) in
    let e : 97 + (n - 10) - 87 ≡ n = omega arith in
    rw (d, l, e) refl

pub digit_is : (n : ℕ) → n < 16 → digit_of (hex_digit n) ≡ Some n
digit_is n lt = digit_case n (nat_lt n 10) refl lt

-- a byte that is a digit, and the number that it stands for
record WasDigit (b n : ℕ) : Type 0 where
  low : n < 16
  is : b ≡ hex_digit n

was_case : (b n : ℕ) (t u : Bool) → is_digit b ≡ t → (nat_le 97 b && nat_le b 102) ≡ u → (if t then Some (b - 48) else (if u then Some (b - 87) else None)) ≡ Some n → WasDigit b n
was_case b n true u d l h =
    let e : b - 48 ≡ n = some_same (b - 48) n h in
    let low : nat_lt n 10 ≡ true = grind (arith, nat_tests) in
    let is : b ≡ 48 + n = grind (arith, nat_tests) in
    record { low = grind (arith, nat_tests); is = rw low is }
was_case b n false true d l h =
    let e : b - 87 ≡ n = some_same (b - 87) n h in
    let low : nat_lt n 10 ≡ false = grind (arith, nat_tests) in
    let is : b ≡ 97 + (n - 10) = grind (arith, nat_tests) in
    record { low = grind (arith, nat_tests); is = rw low is }
was_case b n false false d l h = not_none n h

digit_was : (b n : ℕ) → digit_of b ≡ Some n → WasDigit b n
digit_was b n h = was_case b n (is_digit b) (nat_le 97 b && nat_le b 102) refl refl h

-- ---- pairs

pub pairs_are : (bytes : List ℕ) → AreBytes bytes → pairs_of (hex_digits bytes) ≡ Some bytes
pairs_are [] all = refl
pairs_are (b ∷ bs) all =
    let low : b < 256 = All-head (λ b. b < 256) b bs all in
    let h : digit_of (hex_digit (b / 16)) ≡ Some (b / 16) = digit_is (b / 16) (omega arith) in
    let l : digit_of (hex_digit (b % 16)) ≡ Some (b % 16) = digit_is (b % 16) (omega arith) in
    let e : b / 16 * 16 + b % 16 ≡ b = omega arith in
    rw (h, l, pairs_are bs (All-tail (λ b. b < 256) b bs all), e) refl

-- bytes that those digits spell
pub record WereBytes (bytes digits : List ℕ) : Type 0 where
  pub are : AreBytes bytes
  pub is : digits ≡ hex_digits bytes

pair_was : (a b h l : ℕ) (rest digits : List ℕ) → WasDigit a h → WasDigit b l → WereBytes rest digits → WereBytes ((h * 16 + l) ∷ rest) (a ∷ b ∷ digits)
pair_was a b h l rest digits high low more =
    let up : (h * 16 + l) / 16 ≡ h = omega (arith, high.low, low.low) in
    let down : (h * 16 + l) % 16 ≡ l = omega (arith, high.low, low.low) in
    record { are = All-cons (λ b. b < 256) (h * 16 + l) rest (omega (arith, high.low, low.low)) more.are; is = rw (up, down, high.is, low.is, more.is) refl }

no_bytes : AreBytes []
no_bytes = All-nil (λ b. b < 256)

pub pairs_were : (digits bytes : List ℕ) → pairs_of digits ≡ Some bytes → WereBytes bytes digits
pairs_were [] bytes h = rw (sym (some_same [] bytes h)) (record { are = no_bytes; is = refl })
pairs_were (a ∷ []) bytes h = not_none bytes h
pairs_were (a ∷ b ∷ digits) bytes e =
    bind_case (byte_of (digit_of a) (digit_of b)) (λ v. pairs_of digits >>= λ bs. Some (v ∷ bs)) bytes e λ v byte more.
    bind_case (pairs_of digits) (λ bs. Some (v ∷ bs)) bytes more λ bs rest whole.
    bind_case (digit_of a) (λ h. digit_of b >>= λ l. Some (h * 16 + l)) v byte λ h high lower.
    bind_case (digit_of b) (λ l. Some (h * 16 + l)) v lower λ l low value.
    rw (sym (some_same (v ∷ bs) bytes whole), sym (some_same (h * 16 + l) v value))
    (pair_was a b h l bs digits (digit_was a h high) (digit_was b l low) (pairs_were digits bs rest))

-- ---- to the end of the line

-- digits are no dash
and_false : (t : Bool) → (t && false) ≡ false
and_false true = refl
and_false false = refl

no_dash : (b : ℕ) (bs : List ℕ) → bytes_eq (hex_digits (b ∷ bs)) (codes "-") ≡ false
no_dash b bs = and_false _

pub bytes_are : (bytes : List ℕ) → AreBytes bytes → bytes_to_end (hex_of bytes) ≡ Some bytes
unfolding bytes_to_end
bytes_are [] all = refl
bytes_are (b ∷ bs) all = rw (no_dash b bs) (pairs_are (b ∷ bs) all)

-- bytes that this word spells
pub record WereSpelled (bytes word : List ℕ) : Type 0 where
  pub are : AreBytes bytes
  pub is : word ≡ hex_of bytes

whole_were : (b : ℕ) (bs bytes : List ℕ) → WereBytes bytes (b ∷ bs) → WereSpelled bytes (b ∷ bs)
whole_were b bs [] w = cc
whole_were b bs (c ∷ cs) w = record { are = w.are; is = w.is }

end_case : (word bytes : List ℕ) (t : Bool) → bytes_eq word (codes "-") ≡ t → (if t then Some [] else some_pairs word) ≡ Some bytes → WereSpelled bytes word
end_case word bytes true d h = rw (sym (some_same [] bytes h)) (record { are = no_bytes; is = (bytes_eq-Decides word (codes "-")).0 d })
end_case [] bytes false d h = not_none bytes h
end_case (b ∷ bs) bytes false d h = whole_were b bs bytes (pairs_were (b ∷ bs) bytes h)

pub bytes_were : (word bytes : List ℕ) → bytes_to_end word ≡ Some bytes → WereSpelled bytes word
unfolding bytes_to_end
bytes_were word bytes h = end_case word bytes (bytes_eq word (codes "-")) refl h

-- A number is read as it is written, and no other way. A text is parted into the digits in front and the rest; digits without a leading
-- zero are the decimal text of their value, by the library's model of numerals.
use Rattle.std.proofs.Common.{◌≡◌, ℕ, zero, suc, ◌+◌, ◌-◌, ◌*◌, ◌<◌, ◌≤◌, ◌^◌, Bool, true, false, List, [], ◌∷◌, ◌++◌, length, get_or, drop, Option, Some, None}
use Rattle.std.proofs.Common.{refl, sym, ap, ◌∙◌, codes, arith}
use Rattle.std.specs.Prelude.{if◌then◌else◌, not, ◌&&◌, ◌==◌, nat_lt, nat_le}
use Rattle.std.specs.Int.{IsInRange}
use Rattle.std.specs.Fmt.{decimal}
use Rattle.std.proofs.lemmas.Bool.Decides.{nat_tests}
use Rattle.std.proofs.lemmas.Fmt.{digits_decimal, digits_value-decimal, decimal-digits_value, decimal_nonempty, first_decimal, decimal_digit}
use Rattle.std.proofs.lemmas.Str.Parse.{IsNumeralModel, IsDigitsTest, numerals_by_fold}
use Rattle.trace_text.specs.inner.Reading.{is_digit, digit_run, value_of, starts, is_numeral, number_at, positive_at, not_nought, word_at}
use Rattle.trace_text.proofs.Words.{drop_front, pair, parts_same, parts_are, not_none, bind_case}

-- ---- runs of digits

abbrev pub AreDigits : List ℕ → Type 0
AreDigits [] = Unit {0}
AreDigits (b ∷ bs) = (is_digit b ≡ true) × AreDigits bs

in_range : (c : ℕ) → is_digit c ≡ true → IsInRange 48 57 c
in_range c h = (grind (arith, nat_tests), grind (arith, nat_tests))

is_in_range : (c : ℕ) → IsInRange 48 57 c → is_digit c ≡ true
is_in_range c h = grind (arith, nat_tests, h.0, h.1)

tells : IsDigitsTest AreDigits
tells = record { empty = tt; parts = λ c cs h. (in_range c h.0, h.1); more = λ c cs r h. (is_in_range c r, h) }

-- texts of digits, and their value
own : IsNumeralModel AreDigits (value_of 0)
own = numerals_by_fold AreDigits tells value_of (record { empty = λ n. refl; more = λ n c cs r. rw (is_in_range c r) refl })

run_of : (a rest : List ℕ) → AreDigits a → starts is_digit rest ≡ false → digit_run (a ++ rest) ≡ length a
run_of [] [] e s = refl
run_of [] (b ∷ bs) e s = rw s refl
run_of (b ∷ a) rest e s = rw (e.0, run_of a rest e.1 s) (omega arith)

value_of_run : (n : ℕ) (a rest : List ℕ) → AreDigits a → starts is_digit rest ≡ false → value_of n (a ++ rest) ≡ value_of n a
value_of_run n [] [] e s = refl
value_of_run n [] (b ∷ bs) e s = rw s refl
value_of_run n (b ∷ a) rest e s = rw e.0 (value_of_run (n * 10 + (b - 48)) a rest e.1 s)

record Splits (bs : List ℕ) : Type 0 where
  front : List ℕ
  rest : List ℕ
  is : bs ≡ front ++ rest
  each : AreDigits front
  stops : starts is_digit rest ≡ false

split_case : (b : ℕ) (bs : List ℕ) (t : Bool) → is_digit b ≡ t → Splits bs → Splits (b ∷ bs)
split_case b bs true h s = record { front = b ∷ s.front; rest = s.rest; is = ap (λ (cs : List ℕ). b ∷ cs) s.is; each = (h, s.each); stops = s.stops }
split_case b bs false h s = record { front = []; rest = b ∷ bs; is = refl; each = tt; stops = h }

-- each list is a run of digits and what follows it
splits : (bs : List ℕ) → Splits bs
splits [] = record { front = []; rest = []; is = refl; each = tt; stops = refl }
splits (b ∷ bs) = split_case b bs (is_digit b) refl (splits bs)

pub decimal_digits : (n : ℕ) → n < 2 ^ 64 → AreDigits (decimal n)
decimal_digits n lt = digits_decimal own n lt

-- ---- numerals

-- digits that may stand for a number: some, and no 0 in front of others
abbrev pub IsPlain : List ℕ → Type 0
IsPlain ds = (0 < length ds) × (get_or ds 0 0 ≡ 48 → length ds ≡ 1)

front_case : (b : ℕ) (ds rest : List ℕ) (t : Bool) → (b == 48) ≡ t → (b ≡ 48 → length (b ∷ ds) ≡ 1) → (t && nat_lt 1 (length (b ∷ ds))) ≡ false
front_case b ds rest false h g = refl
front_case b ds rest true h g = let one : length (b ∷ ds) ≡ 1 = g (grind (arith, nat_tests)) in rw one refl

plain_is : (ds rest : List ℕ) → AreDigits ds → starts is_digit rest ≡ false → IsPlain ds → is_numeral (ds ++ rest) ≡ true
plain_is [] rest e s p = absurd (omega (arith, p.0))
plain_is (b ∷ ds) rest e s p =
    let run : digit_run (b ∷ (ds ++ rest)) ≡ length (b ∷ ds) = run_of (b ∷ ds) rest e s in
    let low : nat_lt 0 (length (b ∷ ds)) ≡ true = grind (arith, nat_tests) in
    let front : ((b == 48) && nat_lt 1 (length (b ∷ ds))) ≡ false = front_case b ds rest (b == 48) refl p.1 in
    rw (run, low, front) refl

false_true : {A : Type 0} → false ≡ true → A
false_true h = cc

one_digit : (b : ℕ) (ds : List ℕ) (t : Bool) → nat_lt 1 (length (b ∷ ds)) ≡ t → (b == 48) ≡ true → (not ((b == 48) && t)) ≡ true → length (b ∷ ds) ≡ 1
one_digit b ds false h z g = let k : length (b ∷ ds) ≤ 1 = grind (arith, nat_tests) in omega (arith, k)
one_digit b ds true h z g = let k : not ((b == 48) && true) ≡ true = g in false_true (rw z at k)

-- ---- both directions

-- the number behind the tests
told : (t : Bool) (n : ℕ) (rest : List ℕ) → Option (ℕ × List ℕ)
told t n rest = if t then Some (n, rest) else None

plain_decimal : (n : ℕ) → n < 2 ^ 64 → IsPlain (decimal n)
plain_decimal zero h = rw (decimal_digit 0 (omega arith)) (omega arith, λ _. refl)
plain_decimal (suc n) h = (decimal_nonempty (suc n) h, λ e. absurd (omega (arith, e, first_decimal (suc n) (omega arith) h)))

-- a number that is written is read
pub number_is : (most n : ℕ) (rest : List ℕ) → n ≤ most → n < 2 ^ 64 → starts is_digit rest ≡ false → number_at most (decimal n ++ rest) ≡ Some (n, rest)
unfolding number_at
number_is most n rest le lt s =
    let digits : AreDigits (decimal n) = digits_decimal own n lt in
    let value : value_of 0 (decimal n ++ rest) ≡ n = value_of_run 0 (decimal n) rest digits s ∙ digits_value-decimal own n lt in
    let plain : is_numeral (decimal n ++ rest) ≡ true = plain_is (decimal n) rest digits s (plain_decimal n lt) in
    let low : nat_le n most ≡ true = grind (arith, nat_tests) in
    let run : digit_run (decimal n ++ rest) ≡ length (decimal n) = run_of (decimal n) rest digits s in
    rw (value, plain, low, run, drop_front (decimal n) rest) refl

-- ---- what was read

-- a text is this number's, and the number is low
pub record WasNumber (most n : ℕ) (bs rest : List ℕ) : Type 0 where
  pub low : n ≤ most
  pub is : bs ≡ decimal n ++ rest

plain_was : (ds rest : List ℕ) → AreDigits ds → starts is_digit rest ≡ false → is_numeral (ds ++ rest) ≡ true → IsPlain ds
plain_was [] [] e s h = false_true h
plain_was [] (c ∷ rest) e s h = false_true (rw s at h)
plain_was (b ∷ ds) rest e s h =
    let run : digit_run (b ∷ (ds ++ rest)) ≡ length (b ∷ ds) = run_of (b ∷ ds) rest e s in
    let low : nat_lt 0 (length (b ∷ ds)) ≡ true = grind (arith, nat_tests) in
    let kept : not ((b == 48) && nat_lt 1 (length (b ∷ ds))) ≡ true = rw (run, low) at h in
    (omega arith, λ z. one_digit b ds (nat_lt 1 (length (b ∷ ds))) refl (grind (arith, nat_tests, z)) kept)

read_case : (most n : ℕ) (bs rest : List ℕ) (s : Splits bs) (t u : Bool) → most < 2 ^ 64 → is_numeral bs ≡ t → nat_le (value_of 0 bs) most ≡ u
    → (if t && u then Some (pair (value_of 0 bs) (drop (digit_run bs) bs)) else None) ≡ Some (n, rest) → WasNumber most n bs rest
read_case most n bs rest s true true lt a b h =
    let q = parts_same (value_of 0 bs) n (drop (digit_run bs) bs) rest h in
    let each : AreDigits s.front = s.each in
    let value : value_of 0 bs ≡ value_of 0 s.front = ap (λ (cs : List ℕ). value_of 0 cs) s.is ∙ value_of_run 0 s.front s.rest each s.stops in
    let run : digit_run bs ≡ length s.front = ap (λ (cs : List ℕ). digit_run cs) s.is ∙ run_of s.front s.rest each s.stops in
    let behind : drop (digit_run bs) bs ≡ s.rest = ap (λ (k : ℕ). drop k bs) run ∙ (ap (λ (cs : List ℕ). drop (length s.front) cs) s.is ∙ drop_front s.front s.rest) in
    let le : value_of 0 bs ≤ most = grind (arith, nat_tests) in
    let plain : IsPlain s.front = plain_was s.front s.rest each s.stops (sym (ap (λ (cs : List ℕ). is_numeral cs) s.is) ∙ a) in
    let text : decimal (value_of 0 s.front) ≡ s.front = decimal-digits_value own s.front each plain.0 plain.1 (omega (arith, le, value, lt)) in
    let front : decimal n ≡ s.front = ap decimal (sym q.0 ∙ value) ∙ text in
    record { low = omega (arith, le, q.0); is = s.is ∙ (ap (λ (cs : List ℕ). cs ++ s.rest) (sym front) ∙ ap (λ (cs : List ℕ). decimal n ++ cs) (sym behind ∙ q.1)) }
read_case most n bs rest s true false lt a b h = not_none (pair n rest) h
read_case most n bs rest s false u lt a b h = not_none (pair n rest) h

-- a number that is read was written so
pub number_was : (most n : ℕ) (bs rest : List ℕ) → most < 2 ^ 64 → number_at most bs ≡ Some (n, rest) → WasNumber most n bs rest
unfolding number_at
number_was most n bs rest lt h = read_case most n bs rest (splits bs) (is_numeral bs) (nat_le (value_of 0 bs) most) lt refl refl h

-- a number that is not nought
pub record WasPositive (most n : ℕ) (bs rest : List ℕ) : Type 0 where
  pub least : 1 ≤ n
  pub was : WasNumber most n bs rest

nought_case : (m n : ℕ) (behind rest : List ℕ) → not_nought m behind ≡ Some (n, rest) → (1 ≤ n) × (m ≡ n) × (behind ≡ rest)
nought_case zero n behind rest h = not_none (pair n rest) h
nought_case (suc m) n behind rest h =
    let q = parts_same (suc m) n behind rest h in
    (omega (arith, q.0), q.0, q.1)

pub positive_was : (most n : ℕ) (bs rest : List ℕ) → most < 2 ^ 64 → positive_at most bs ≡ Some (n, rest) → WasPositive most n bs rest
positive_was most n bs rest lt h =
    bind_case (number_at most bs) (λ m. not_nought m.0 m.1) (n, rest) h λ m first g.
    let q = nought_case m.0 n m.1 rest g in
    record { least = q.0; was = number_was most n bs rest lt (first ∙ parts_are m.0 n m.1 rest q.1 q.2) }

pub positive_is : (most n : ℕ) (rest : List ℕ) → 1 ≤ n → n ≤ most → n < 2 ^ 64 → starts is_digit rest ≡ false → positive_at most (decimal n ++ rest) ≡ Some (n, rest)
positive_is most zero rest least le lt s = absurd (omega (arith, least))
positive_is most (suc n) rest least le lt s = rw (number_is most (suc n) rest le lt s) refl

-- a decimal begins with no dash
dash_case : (ds rest : List ℕ) → AreDigits ds → 0 < length ds → word_at (codes "-") (ds ++ rest) ≡ None
dash_case [] rest e p = absurd (omega (arith, p))
dash_case (b ∷ ds) rest e p = let d : (b == 45) ≡ false = grind (arith, nat_tests, e.0) in rw d refl

pub no_dash : (n : ℕ) (rest : List ℕ) → n < 2 ^ 64 → word_at (codes "-") (decimal n ++ rest) ≡ None
no_dash n rest lt = dash_case (decimal n) rest (digits_decimal own n lt) (decimal_nonempty n lt)

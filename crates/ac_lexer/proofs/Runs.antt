-- Lists of bytes, and runs of bytes that pass a test: each list is a run and what follows it (`splits`), and `run` counts that run (`run_of`).
-- By induction on the bytes. Then classes of bytes that exclude each other, and the rest of a text behind a place, as `tokens_of` cuts it.
use Rattle.std.proofs.Common.{◌≡◌, ℕ, zero, suc, ◌+◌, ◌-◌, ◌*◌, ◌<◌, ◌≤◌, Bool, true, false, List, [], ◌∷◌, ◌++◌, length, take, drop, length-drop, refl, ap, arith}
use Rattle.std.specs.Prelude.{◌==◌}
use Rattle.std.proofs.lemmas.Bool.Decides.{nat_tests}
use Rattle.ac_lexer.specs.Spelling.{Each, starts, value_of, is_digit, is_letter, is_name, is_blank, is_zero}
use Rattle.ac_lexer.specs.inner.Reading.{run}

pub drop_front : (a rest : List ℕ) → drop (length a) (a ++ rest) ≡ rest
drop_front [] rest = refl
drop_front (b ∷ a) rest = drop_front a rest

pub take_front : (a rest : List ℕ) → take (length a) (a ++ rest) ≡ a
take_front [] rest = refl
take_front (b ∷ a) rest = ap (λ (bs : List ℕ). b ∷ bs) (take_front a rest)

pub same_tail : {a b : ℕ} {x y : List ℕ} → a ∷ x ≡ b ∷ y → x ≡ y
same_tail h = cc

pub same_head : {a b : ℕ} {x y : List ℕ} → a ∷ x ≡ b ∷ y → a ≡ b
same_head h = cc

pub no_byte : (c : ℕ) (cs : List ℕ) → [] ≡ c ∷ cs → ⊥
no_byte c cs e = cc

pub differ : (t : Bool) → t ≡ true → t ≡ false → ⊥
differ t h g = cc

pub false_if : (t : Bool) → (t ≡ true → ⊥) → t ≡ false
false_if true h = absurd (h refl)
false_if false h = refl

pub eq_of : (a b : ℕ) → (a == b) ≡ true → a ≡ b
eq_of a b h = grind (arith, nat_tests)

pub not_eq : (b c : ℕ) → (b == c) ≡ false → b ≡ c → ⊥
not_eq b c h e = grind (arith, nat_tests)

pub run_of : (p : ℕ → Bool) (a rest : List ℕ) → Each p a → starts p rest ≡ false → run p (a ++ rest) ≡ length a
run_of p [] [] e s = refl
run_of p [] (b ∷ bs) e s = rw s refl
run_of p (b ∷ a) rest e s = rw (e.0, run_of p a rest e.1 s) (omega arith)

-- a run is at least as long as what passes at the front
pub run_least : (p : ℕ → Bool) (a rest : List ℕ) → Each p a → length a ≤ run p (a ++ rest)
run_least p [] rest e = omega arith
run_least p (b ∷ a) rest e = rw e.0 (let h : length a ≤ run p (a ++ rest) = run_least p a rest e.1 in omega arith)

pub value_of_run : (n : ℕ) (a rest : List ℕ) → Each is_digit a → starts is_digit rest ≡ false → value_of n (a ++ rest) ≡ value_of n a
value_of_run n [] [] e s = refl
value_of_run n [] (b ∷ bs) e s = rw s refl
value_of_run n (b ∷ a) rest e s = rw e.0 (value_of_run (n * 10 + (b - 48)) a rest e.1 s)

pub record Splits (p : ℕ → Bool) (bs : List ℕ) : Type 0 where
  pub front : List ℕ
  pub rest : List ℕ
  pub is : bs ≡ front ++ rest
  pub each : Each p front
  pub stops : starts p rest ≡ false

split_case : (p : ℕ → Bool) (b : ℕ) (bs : List ℕ) (t : Bool) → p b ≡ t → Splits p bs → Splits p (b ∷ bs)
split_case p b bs true h s = record { front = b ∷ s.front; rest = s.rest; is = ap (λ (cs : List ℕ). b ∷ cs) s.is; each = (h, s.each); stops = s.stops }
split_case p b bs false h s = record { front = []; rest = b ∷ bs; is = refl; each = tt; stops = h }

-- each list is a run and what follows it
pub splits : (p : ℕ → Bool) (bs : List ℕ) → Splits p bs
splits p [] = record { front = []; rest = []; is = refl; each = tt; stops = refl }
splits p (b ∷ bs) = split_case p b bs (p b) refl (splits p bs)

pub each_more : (p : ℕ → Bool) (a : List ℕ) (c : ℕ) → Each p a → p c ≡ true → Each p (a ++ c ∷ [])
each_more p [] c e h = (h, tt)
each_more p (b ∷ a) c e h = (e.0, each_more p a c e.1 h)

-- ---- classes of bytes

pub letter_no_digit : (c : ℕ) → is_letter c ≡ true → is_digit c ≡ false
letter_no_digit c h = grind (arith, nat_tests)

pub digit_no_letter : (c : ℕ) → is_digit c ≡ true → is_letter c ≡ false
digit_no_letter c h = grind (arith, nat_tests)

pub letter_no_blank : (b : ℕ) → is_letter b ≡ true → is_blank b ≡ false
letter_no_blank b h = grind (arith, nat_tests)

pub digit_no_blank : (b : ℕ) → is_digit b ≡ true → is_blank b ≡ false
digit_no_blank b h = grind (arith, nat_tests)

pub letter_name : (b : ℕ) → is_letter b ≡ true → is_name b ≡ true
letter_name b h = rw h refl

pub zero_is : (b : ℕ) → is_zero b ≡ true → b ≡ 48
zero_is b h = grind (arith, nat_tests)

-- ---- the rest of a text

take_whole : (n : ℕ) (bs : List ℕ) → length bs ≤ n → take n bs ≡ bs
take_whole zero [] h = refl
take_whole zero (b ∷ bs) h = absurd (omega arith)
take_whole (suc n) [] h = refl
take_whole (suc n) (b ∷ bs) h = ap (λ (cs : List ℕ). b ∷ cs) (take_whole n bs (omega arith))

pub rest_is : (at : ℕ) (text : List ℕ) → take (length text - at) (drop at text) ≡ drop at text
rest_is at text = take_whole (length text - at) (drop at text) (omega (arith, length-drop at text))

pub rest_long : (at : ℕ) (text : List ℕ) → at < length text → 0 < length (drop at text)
rest_long at text lt = rw (length-drop at text) (omega arith)

pub rest_within : (at n : ℕ) (text : List ℕ) → at ≤ length text → n ≤ length (take (length text - at) (drop at text)) → at + n ≤ length text
rest_within at n text h le = omega (arith, le, length-drop at text, ap (λ (bs : List ℕ). length bs) (rest_is at text))

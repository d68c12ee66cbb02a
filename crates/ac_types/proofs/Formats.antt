-- The rule on formats holds exactly where the text is a format with as many holes as there are arguments. One way is by recursion on
-- the text, with whether a `%` is before; the other by recursion on the format as a row of bytes and holes.
use Rattle.std.proofs.Common.{◌≡◌, ℕ, suc, ◌+◌, Bool, true, false, List, [], ◌∷◌, Option, None, Some, refl, ap, ◌∙◌, subst, arith}
use Rattle.std.specs.Prelude.{nat_eq, if◌then◌else◌}
use Rattle.std.proofs.lemmas.Bool.Decides.{nat_tests}
use Rattle.ac_types.specs.Formats.{HasHoles, no_more, a_byte, a_percent_sign, a_number, a_letter}
use Rattle.ac_types.specs.Judged.{holes, is_misprinted}

-- ---- what is counted is a format

-- by whether a `%` is before
abbrev text_of : Bool → List ℕ → List ℕ
text_of true bs = 37 ∷ bs
text_of false bs = bs

record Counted (bs : List ℕ) (count n : ℕ) : Type 0 where
  more : ℕ
  is : HasHoles bs more
  sum : n ≡ count + more

abbrev Counts : Bool → List ℕ → Type 0
Counts after bs = (count n : ℕ) → holes after count bs ≡ Some n → Counted (text_of after bs) count n

is_byte : (b : ℕ) → nat_eq b 37 ≡ false → b ≡ 37 → ⊥
is_byte b e f = grind (arith, nat_tests, e, f)

is_that : (b c : ℕ) → nat_eq b c ≡ true → c ≡ b
is_that b c e = grind (arith, nat_tests, e)

plain_byte : (b : ℕ) (bs : List ℕ) → Counts true bs → Counts false bs → (t : Bool) → nat_eq b 37 ≡ t → (count n : ℕ) → (if t then holes true count bs else holes false count bs) ≡ Some n
    → Counted (b ∷ bs) count n
plain_byte b bs f g true e count n h = subst (λ x. Counted (x ∷ bs) count n) (is_that b 37 e) (f count n h)
plain_byte b bs f g false e count n h = let c = g count n h in record { more = c.more; is = a_byte b bs c.more (is_byte b e) c.is; sum = c.sum }

after_percent : (b : ℕ) (bs : List ℕ) → Counts false bs → (d c p : Bool) → nat_eq b 100 ≡ d → nat_eq b 99 ≡ c → nat_eq b 37 ≡ p → (count n : ℕ) →
    (if d then holes false (count + 1) bs else (if c then holes false (count + 1) bs else (if p then holes false count bs else None))) ≡ Some n → Counted (37 ∷ b ∷ bs) count n
after_percent b bs g true c p e e2 e3 count n h =
    let k = g (count + 1) n h in
    let s = k.sum in
    subst (λ x. Counted (37 ∷ x ∷ bs) count n) (is_that b 100 e) (record { more = suc k.more; is = a_number bs k.more k.is; sum = omega (arith, s) })
after_percent b bs g false true p e e2 e3 count n h =
    let k = g (count + 1) n h in
    let s = k.sum in
    subst (λ x. Counted (37 ∷ x ∷ bs) count n) (is_that b 99 e2) (record { more = suc k.more; is = a_letter bs k.more k.is; sum = omega (arith, s) })
after_percent b bs g false false true e e2 e3 count n h =
    let k = g count n h in subst (λ x. Counted (37 ∷ x ∷ bs) count n) (is_that b 37 e3) (record { more = k.more; is = a_percent_sign bs k.more k.is; sum = k.sum })
after_percent b bs g false false false e e2 e3 count n h = cc

counted : (after : Bool) (bs : List ℕ) → Counts after bs
counted true [] count n h = cc
counted false [] count n h = let same : count ≡ n = cc in record { more = 0; is = no_more; sum = omega (arith, same) }
counted false (b ∷ bs) count n h = plain_byte b bs (counted true bs) (counted false bs) (nat_eq b 37) refl count n h
counted true (b ∷ bs) count n h = after_percent b bs (counted false bs) (nat_eq b 100) (nat_eq b 99) (nat_eq b 37) refl refl refl count n h

-- ---- a format is counted

no_percent : (b : ℕ) → (b ≡ 37 → ⊥) → nat_eq b 37 ≡ false
no_percent b e = grind (arith, nat_tests, e)

counts : (bs : List ℕ) (n : ℕ) → HasHoles bs n → (count : ℕ) → holes false count bs ≡ Some (count + n)
counts _ _ no_more count = ap Some (omega arith)
counts _ _ (a_byte b bs n e h) count = ap (λ t. if t then holes true count bs else holes false count bs) (no_percent b e) ∙ counts bs n h count
counts _ _ (a_percent_sign bs n h) count = counts bs n h count
counts _ _ (a_number bs n h) count = counts bs n h (count + 1) ∙ ap Some (omega arith)
counts _ _ (a_letter bs n h) count = counts bs n h (count + 1) ∙ ap Some (omega arith)

-- ---- both ways

by_count : (o : Option ℕ) (format : List ℕ) (args : ℕ) → ((n : ℕ) → o ≡ Some n → Counted format 0 n) → is_misprinted o args ≡ false → HasHoles format args
by_count None format args c e = cc
by_count (Some n) format args c e =
    let k = c n refl in
    let s = k.sum in
    let same : n ≡ args = grind (arith, nat_tests, e) in
    let all : k.more ≡ args = omega (arith, s, same) in
    subst (λ m. HasHoles format m) all k.is

right : (args : ℕ) → is_misprinted (Some args) args ≡ false
right args = grind (arith, nat_tests)

from_none : (args : ℕ) → 0 + args ≡ args
from_none args = omega arith

right_count : (o : Option ℕ) (args : ℕ) → o ≡ Some (0 + args) → is_misprinted o args ≡ false
right_count o args e = ap (λ k. is_misprinted k args) (e ∙ ap (λ (n : ℕ). Some n) (from_none args)) ∙ right args

pub formats_are_printed : (format : List ℕ) (args : ℕ) →
    (is_misprinted (holes false 0 format) args ≡ false → HasHoles format args) × (HasHoles format args → is_misprinted (holes false 0 format) args ≡ false)
formats_are_printed format args =
    (by_count (holes false 0 format) format args (λ n e. counted false format 0 n e), λ h. right_count (holes false 0 format) args (counts format args h 0))

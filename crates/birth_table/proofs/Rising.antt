-- Numbers that rise strictly.
-- From one place to the next a number rises by 1 at least. So a number has one slot at most, and what a slot holds at a place is all that
-- is told of its number.
use Rattle.std.proofs.Common.{◌≡◌, ℕ, zero, suc, ◌+◌, ◌-◌, ◌<◌, ◌≤◌, List, [], ◌∷◌, length, Some, None, Bool, true, false, ◌&&◌, nat_eq, nat_lt, if◌then◌else◌}
use Rattle.std.proofs.Common.{sym, ap, ◌∙◌, refl, subst, arith, ◌⊎◌, inl, inr, get_or}
use Rattle.std.specs.Prelude.{slice_get}
use Rattle.std.proofs.lemmas.Bool.Decides.{nat_tests}
use Rattle.std.proofs.lemmas.Option.{slice_get_within, slice_get-get_or}
use Rattle.birth_table.specs.declared.index.Slot.{Slot}
use Rattle.birth_table.specs.Keys.{lives, is_of, key_of, Rises}
use Rattle.birth_table.specs.inner.Slots.{IsRising, LiesBetween}

abbrev pub entry_at : List Slot → ℕ → Slot
entry_at slots place = get_or slots place (record { number = 0; key = 0 })

pub read : (slots : List Slot) (place : ℕ) → place < length slots → slice_get slots place ≡ Some (entry_at slots place)
read slots place lt = slice_get-get_or slots place (record { number = 0; key = 0 }) lt

pub same_number : (s t : Slot) → Some s ≡ Some t → s.number ≡ t.number
same_number s t e = let one : s ≡ t = cc in ap (λ (u : Slot). u.number) one

pub rises_long : (low : ℕ) (slots : List Slot) (high : ℕ) → Rises low slots high → low + length slots ≤ high
rises_long low [] high r = omega (arith, r)
rises_long low (x ∷ xs) high r = omega (arith, r.0, rises_long (suc x.number) xs high r.1)

-- a slot at a place is so far above the first, and below the end
pub rises_at : (low : ℕ) (slots : List Slot) (high : ℕ) → Rises low slots high → (i : ℕ) (s : Slot) → slice_get slots i ≡ Some s
    → (low + i ≤ s.number) × (s.number + length slots ≤ high + i)
rises_at low [] high r i s e = absurd (cc)
rises_at low (x ∷ xs) high r zero s e =
    let long = rises_long (suc x.number) xs high r.1 in
    let n = same_number x s e in
    (omega (arith, r.0), omega (arith, long))
rises_at low (x ∷ xs) high r (suc i) s e =
    let h = rises_at (suc x.number) xs high r.1 i s e in
    (omega (arith, r.0, h.0), omega (arith, h.1))

-- two places
pub rises_apart : (low : ℕ) (slots : List Slot) (high : ℕ) → Rises low slots high → (i j : ℕ) (s t : Slot) → slice_get slots i ≡ Some s
    → slice_get slots j ≡ Some t → i ≤ j → s.number + (j - i) ≤ t.number
rises_apart low [] high r i j s t e f h = absurd (cc)
rises_apart low (x ∷ xs) high r zero zero s t e f h =
    let n = same_number s t (sym e ∙ f) in omega arith
rises_apart low (x ∷ xs) high r zero (suc j) s t e f h =
    let n = same_number x s e in
    omega (arith, (rises_at (suc x.number) xs high r.1 j t f).0)
rises_apart low (x ∷ xs) high r (suc i) zero s t e f h = absurd (omega arith)
rises_apart low (x ∷ xs) high r (suc i) (suc j) s t e f h =
    omega (arith, rises_apart (suc x.number) xs high r.1 i j s t e f (omega arith))

-- ---- the key of a number

pub is_of_other : (number : ℕ) (s : Slot) → (s.number ≡ number → ⊥) → is_of number s ≡ false
is_of_other number s ne = go (nat_eq s.number number) refl
  where
    go : (test : Bool) → nat_eq s.number number ≡ test → (test && lives s) ≡ false
    go true q = absurd (ne (grind (arith, nat_tests)))
    go false q = refl

pub is_of_same : (number : ℕ) (s : Slot) → s.number ≡ number → is_of number s ≡ lives s
is_of_same number s e = let q : nat_eq s.number number ≡ true = grind (arith, nat_tests) in ap (λ b. b && lives s) q

-- no slot has that number
pub no_key : (slots : List Slot) (number : ℕ) → ((i : ℕ) (s : Slot) → slice_get slots i ≡ Some s → s.number ≡ number → ⊥) → key_of slots number ≡ None
no_key [] number h = refl
no_key (x ∷ xs) number h =
    ap (λ b. if b then Some x.key else key_of xs number) (is_of_other number x (h 0 x refl))
    ∙ no_key xs number (λ i s e. h (suc i) s e)

-- ---- where a number can lie

-- between the places that its distances from both ends leave
pub by_ends : (slots : List Slot) (number : ℕ) → IsRising slots → (end : ℕ) (first last : Slot) → slice_get slots 0 ≡ Some first → slice_get slots end ≡ Some last
    → end + 1 ≡ length slots → (low high : ℕ) → low ≤ end - (last.number - number) → ((high ≡ end) ⊎ (high ≡ number - first.number)) → LiesBetween slots number low high
by_ends slots number r end first last f l long low high a b place s e is =
    let within = slice_get_within slots place s e in
    let up = rises_apart 0 slots r.0 r.1 0 place first s f e (omega arith) in
    let down = rises_apart 0 slots r.0 r.1 place end s last e l (omega arith) in
    (omega arith, elim b as (λ _. place ≤ high) [ inl h ↦ omega (arith, h) | inr h ↦ omega (arith, h) ])

-- behind the ends there are none
pub outside : (slots : List Slot) (number : ℕ) → IsRising slots → (end : ℕ) (first last : Slot) → slice_get slots 0 ≡ Some first → slice_get slots end ≡ Some last
    → end + 1 ≡ length slots → ((number < first.number) ⊎ (last.number < number)) → key_of slots number ≡ None
outside slots number r end first last f l long b = no_key slots number none
  where
    none : (place : ℕ) (s : Slot) → slice_get slots place ≡ Some s → s.number ≡ number → ⊥
    none place s e is =
        let within = slice_get_within slots place s e in
        let up = rises_apart 0 slots r.0 r.1 0 place first s f e (omega arith) in
        let down = rises_apart 0 slots r.0 r.1 place end s last e l (omega arith) in
        elim b as (λ _. ⊥) [ inl h ↦ omega (arith, h) | inr h ↦ omega (arith, h) ]

pub above : (slots : List Slot) (number low high : ℕ) → IsRising slots → LiesBetween slots number low high → (middle : ℕ) (s : Slot)
    → slice_get slots middle ≡ Some s → s.number < number → LiesBetween slots number (middle + 1) high
above slots number low high r b middle s m lt place t e is =
    let h = b place t e is in
    (go (nat_lt middle place) refl, h.1)
  where
    go : (test : Bool) → nat_lt middle place ≡ test → middle + 1 ≤ place
    go true q = let lt : middle < place = grind (arith, nat_tests) in omega arith
    go false q =
        let le : place ≤ middle = grind (arith, nat_tests) in
        absurd (omega (arith, rises_apart 0 slots r.0 r.1 place middle t s e m le))

pub below : (slots : List Slot) (number low high : ℕ) → IsRising slots → LiesBetween slots number low high → (middle : ℕ) (s : Slot)
    → slice_get slots middle ≡ Some s → number ≤ s.number → LiesBetween slots number low middle
below slots number low high r b middle s m le place t e is =
    let h = b place t e is in
    (h.0, go (nat_lt middle place) refl)
  where
    go : (test : Bool) → nat_lt middle place ≡ test → place ≤ middle
    go true q =
        let lt : middle < place = grind (arith, nat_tests) in
        absurd (omega (arith, rises_apart 0 slots r.0 r.1 middle place s t m e (omega arith)))
    go false q = grind (arith, nat_tests)

-- it lies nowhere but at one place, and not there
pub not_there : (slots : List Slot) (number place : ℕ) → LiesBetween slots number place place → (s : Slot) → slice_get slots place ≡ Some s → (s.number ≡ number → ⊥)
    → key_of slots number ≡ None
not_there slots number place b s e ne = no_key slots number (λ i t f is. here i t f is (b i t f is))
  where
    here : (i : ℕ) (t : Slot) → slice_get slots i ≡ Some t → t.number ≡ number → (place ≤ i) × (i ≤ place) → ⊥
    here i t f is w =
        let same : i ≡ place = omega arith in
        let there : slice_get slots place ≡ Some t = subst (λ k. slice_get slots k ≡ Some t) same f in
        ne (same_number s t (sym e ∙ there) ∙ is)

pub key_there : (low : ℕ) (slots : List Slot) (high : ℕ) → Rises low slots high → (i number : ℕ) (s : Slot) → slice_get slots i ≡ Some s → s.number ≡ number
    → key_of slots number ≡ (if lives s then Some s.key else None)
key_there low [] high r i number s e is = absurd (cc)
key_there low (x ∷ xs) high r zero number s e is =
    let one : x ≡ s = cc in
    let none : key_of xs number ≡ None = no_key xs number (λ i t f n. omega (arith, (rises_at (suc x.number) xs high r.1 i t f).0, ap (λ (u : Slot). u.number) one)) in
    ap (λ b. if b then Some x.key else key_of xs number) (is_of_same number x (ap (λ (u : Slot). u.number) one ∙ is))
    ∙ ap (λ o. if lives x then Some x.key else o) none ∙ ap (λ (u : Slot). if lives u then Some u.key else None) one
key_there low (x ∷ xs) high r (suc i) number s e is =
    let far = (rises_at (suc x.number) xs high r.1 i s e).0 in
    ap (λ b. if b then Some x.key else key_of xs number) (is_of_other number x (λ q. omega (arith, far)))
    ∙ key_there (suc x.number) xs high r.1 i number s e is

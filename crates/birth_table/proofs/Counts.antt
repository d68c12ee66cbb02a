-- How often a key is told.
-- A number that lives tells its key, so its slot is counted; two numbers of one key are counted twice, and so are a number below a place and
-- the slot at that place. A slot that is written changes the count by what it told before and tells now.
use Rattle.std.proofs.Common.{◌≡◌, ℕ, ◌+◌, ◌<◌, ◌≤◌, List, [], ◌∷◌, ◌++◌, length, take, Some, None, Bool, true, false, ◌&&◌, nat_eq, nat_lt, cond, if◌then◌else◌}
use Rattle.std.proofs.Common.{sym, ap, ◌∙◌, refl, arith, set, count_by}
use Rattle.std.specs.Prelude.{filter}
use Rattle.std.proofs.lemmas.Bool.Decides.{nat_tests}
use Rattle.std.proofs.lemmas.List.{get_or_past}
use Rattle.std.proofs.lemmas.List.Sums.{sum_by-cons, sum_by_push, sum_by-set, sum_by-take-le, sum_by_more}
use Rattle.birth_table.specs.declared.index.Slot.{Slot}
use Rattle.birth_table.specs.Keys.{lives, is_of, is_under, told, slot_at, key_of}

abbrev pub under : ℕ → List Slot → ℕ
under key slots = count_by (is_under key) slots

-- what a slot adds to that
abbrev pub once : ℕ → Slot → ℕ
once key s = cond (is_under key s) 1 0

pub once_same : (key : ℕ) (s : Slot) → s.key ≡ key → once key s ≡ 1
once_same key s e = let q : nat_eq s.key key ≡ true = grind (arith, nat_tests) in ap (λ (b : Bool). cond b 1 0) q

pub once_other : (key : ℕ) (s : Slot) → (s.key ≡ key → ⊥) → once key s ≡ 0
once_other key s ne = go (nat_eq s.key key) refl
  where
    go : (b : Bool) → nat_eq s.key key ≡ b → ◌≡◌ {A = ℕ} (cond b 1 0) 0
    go true q = absurd (ne (grind (arith, nat_tests)))
    go false q = refl

pub under_cons : (key : ℕ) (x : Slot) (xs : List Slot) → under key (x ∷ xs) ≡ once key x + under key xs
under_cons key x xs = sum_by-cons (once key) x xs

pub under_push : (key : ℕ) (slots : List Slot) (s : Slot) → under key (slots ++ s ∷ []) ≡ under key slots + once key s
under_push key slots s = sum_by_push (once key) slots s

pub under_set : (key : ℕ) (slots : List Slot) (i : ℕ) (t : Slot) → i < length slots → under key (set slots i t) + once key (slot_at slots i) ≡ under key slots + once key t
under_set key slots i t lt = sum_by-set (once key) slots i t (record { number = 0; key = 18446744073709551615 }) lt

pub under_take : (key : ℕ) (slots : List Slot) (n : ℕ) → under key (take n slots) ≤ under key slots
under_take key slots n = sum_by-take-le (once key) slots n

-- the slot at a place and those below it
pub under_here : (key : ℕ) (slots : List Slot) (i : ℕ) → i < length slots → under key (take i slots) + once key (slot_at slots i) ≤ under key slots
under_here key slots i lt =
    omega (arith, sum_by_more (once key) slots i (record { number = 0; key = 18446744073709551615 }) lt, sum_by-take-le (once key) slots (i + 1))

-- a slot that tells a key is there
pub there : (slots : List Slot) (place : ℕ) → lives (slot_at slots place) ≡ true → place < length slots
there slots place e = go (nat_lt place (length slots)) refl
  where
    go : (b : Bool) → nat_lt place (length slots) ≡ b → place < length slots
    go true q = grind (arith, nat_tests)
    go false q =
        let past : slot_at slots place ≡ record { number = 0; key = 18446744073709551615 } =
        get_or_past slots place (record { number = 0; key = 18446744073709551615 }) (grind (arith, nat_tests)) in
        let wrong : false ≡ true = sym (ap lives past) ∙ e in
        absurd (cc)

pub under_filter : (key : ℕ) (slots : List Slot) → under key (filter lives slots) ≤ under key slots
under_filter key [] = omega arith
under_filter key (x ∷ xs) = go (under_filter key xs) (lives x)
  where
    go : under key (filter lives xs) ≤ under key xs → (b : Bool) → under key (cond b (x ∷ filter lives xs) (filter lives xs)) ≤ under key (x ∷ xs)
    go h true = omega (arith, h, under_cons key x (filter lives xs), under_cons key x xs)
    go h false = omega (arith, h, under_cons key x xs)

-- ---- the keys of numbers

pub lives_of : (number : ℕ) (s : Slot) → is_of number s ≡ true → (s.number ≡ number) × (lives s ≡ true)
lives_of number s e = go (nat_eq s.number number) refl e
  where
    go : (b : Bool) → nat_eq s.number number ≡ b → (b && lives s) ≡ true → (s.number ≡ number) × (lives s ≡ true)
    go true q f = (grind (arith, nat_tests), f)
    go false q f = absurd (cc)

pub below_gone : (s : Slot) → lives s ≡ true → s.key < 18446744073709551615
below_gone s e = grind (arith, nat_tests)

pub told_lives : (s : Slot) → lives s ≡ true → told s ≡ Some s.key
told_lives s e = ap (λ (b : Bool). if b then Some s.key else None) e

pub told_gone : (s : Slot) → lives s ≡ false → told s ≡ None
told_gone s e = ap (λ (b : Bool). if b then Some s.key else None) e

pub under_of : (slots : List Slot) (number key : ℕ) → key_of slots number ≡ Some key → (key < 18446744073709551615) × (0 < under key slots)
under_of [] number key e = absurd (cc)
under_of (x ∷ xs) number key e = go (λ f. under_of xs number key f) (is_of number x) refl e
  where
    go : (key_of xs number ≡ Some key → (key < 18446744073709551615) × (0 < under key xs)) → (b : Bool) → is_of number x ≡ b → (if b then Some x.key else key_of xs number) ≡ Some key →
        (key < 18446744073709551615) × (0 < under key (x ∷ xs))
    go rest true q f =
        let same : x.key ≡ key = cc in
        let small = below_gone x (lives_of number x q).1 in
        (omega arith, omega (arith, under_cons key x xs, once_same key x same))
    go rest false q f = let h = rest f in (h.0, omega (arith, h.1, under_cons key x xs))

pub under_two : (slots : List Slot) (n m key : ℕ) → key_of slots n ≡ Some key → key_of slots m ≡ Some key → (n ≡ m → ⊥) → 1 < under key slots
under_two [] n m key e f ne = absurd (cc)
under_two (x ∷ xs) n m key e f ne = go (λ e f. under_two xs n m key e f ne) (is_of n x) refl (is_of m x) refl e f
  where
    go : (key_of xs n ≡ Some key → key_of xs m ≡ Some key → 1 < under key xs) → (a : Bool) → is_of n x ≡ a → (b : Bool) → is_of m x ≡ b → (if a then Some x.key else key_of xs n) ≡ Some key
        → (if b then Some x.key else key_of xs m) ≡ Some key → 1 < under key (x ∷ xs)
    go rest true p true q e f = absurd (ne (sym (lives_of n x p).0 ∙ (lives_of m x q).0))
    go rest true p false q e f =
        let same : x.key ≡ key = cc in
        omega (arith, under_cons key x xs, once_same key x same, (under_of xs m key f).1)
    go rest false p true q e f =
        let same : x.key ≡ key = cc in
        omega (arith, under_cons key x xs, once_same key x same, (under_of xs n key e).1)
    go rest false p false q e f = omega (arith, rest e f, under_cons key x xs)

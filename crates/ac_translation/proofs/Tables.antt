-- Tables by number that differ in one place, sums over them, and how often a number stands in a list.
-- `Changed` says what is there, what stays, and what a sum over the table gains and loses: all that the proofs on threads and blocks ask of
-- a change.
use Rattle.std.proofs.Common.{◌≡◌, ◌≢◌, ℕ, zero, suc, ◌+◌, ◌<◌, ◌≤◌, List, [], ◌∷◌, ◌++◌, length, get_or, set, Option, Some, None, Bool}
use Rattle.std.proofs.Common.{true, false, ◌⊎◌, inl, inr, refl, sym, ap, ◌∙◌, subst, arith, nat_eq, if◌then◌else◌, length-append}
use Rattle.std.specs.List.{sum_by}
use Rattle.std.proofs.lemmas.Bool.{cases_eq, cases_lt, eqb-true, eq-eqb}
use Rattle.std.proofs.lemmas.List.{get_or-set_same, get_or-set_other, get_or_past, length-set, set-set}
use Rattle.std.proofs.lemmas.List.Sums.{sum_by-cons, sum_by-set, sum_by_push, get_or-le-sum_by}
use Rattle.std.proofs.Math.ListN.{get_or-append}
use Rattle.std.proofs.Math.Seq.{get_or-append_seam}

-- ---- a table that differs from another in one place, which reads as the default where nothing stands

pub record Changed {A : Type 0} (d : A) (xs ys : List A) (t : ℕ) (a : A) : Type 0 where
  pub here : get_or ys t d ≡ a
  pub there : (u : ℕ) → t ≢ u → get_or ys u d ≡ get_or xs u d
  pub sums : (w : A → ℕ) → w d ≡ 0 → sum_by w ys + w (get_or xs t d) ≡ sum_by w xs + w a

pub set_changed : {A : Type 0} (d : A) (xs : List A) (t : ℕ) (a : A) → t < length xs → Changed d xs (set xs t a) t a
set_changed d xs t a lt = record {
  here = get_or-set_same xs t a d lt;
  there = λ u ne. get_or-set_other xs t u a d (λ e. ne (sym e));
  sums = λ w z. sum_by-set w xs t a d lt;
}

pub pushed_changed : {A : Type 0} (d : A) (xs : List A) (a : A) → Changed d xs (xs ++ a ∷ []) (length xs) a
pushed_changed d xs a = record {
  here = get_or-append_seam xs a [] d;
  there = other;
  sums = λ w z. let p = sum_by_push w xs a in let q = ap w (get_or_past xs (length xs) d (omega arith)) in omega (arith, p, q, z);
}
  where
    other : (u : ℕ) → length xs ≢ u → get_or (xs ++ a ∷ []) u d ≡ get_or xs u d
    other u ne =
        elim (cases_lt u (length xs)) as (λ _. get_or (xs ++ a ∷ []) u d ≡ get_or xs u d) [
          | inl lt ↦ get_or-append xs (a ∷ []) d u lt
          | inr le ↦
              let far : length (xs ++ a ∷ []) ≤ u = omega (arith, ne, length-append xs (a ∷ [])) in
              get_or_past (xs ++ a ∷ []) u d far ∙ sym (get_or_past xs u d le)
        ]

pub found : {A : Type 0} (d : A) (xs ys : List A) (t : ℕ) (a : A) → Changed d xs ys t a → (u : ℕ) → ((t ≡ u) × (get_or ys u d ≡ a)) ⊎ ((t ≢ u) × (get_or ys u d ≡ get_or xs u d))
found d xs ys t a c u =
    elim (cases_eq t u) as (λ _. ((t ≡ u) × (get_or ys u d ≡ a)) ⊎ ((t ≢ u) × (get_or ys u d ≡ get_or xs u d))) [
      | inl e ↦ inl (e, subst (λ z. get_or ys z d ≡ a) e c.here)
      | inr ne ↦ inr (ne, c.there u ne)
    ]

-- what the default is not, stands in the table
pub in_table : {A : Type 0} (P : A → Type 0) (d : A) (xs : List A) (t : ℕ) → (P d → ⊥) → P (get_or xs t d) → t < length xs
in_table P d xs t never h =
    elim (cases_lt t (length xs)) as (λ _. t < length xs) [
      | inl lt ↦ lt
      | inr le ↦ absurd (never (subst P (get_or_past xs t d le) h))
    ]

-- ---- sums

module _ {A : Type 0} (d : A) (w : A → ℕ) (nothing : w d ≡ 0) where
  pub total_one : (xs : List A) (t : ℕ) → w (get_or xs t d) ≤ sum_by w xs
  total_one xs t =
      elim (cases_lt t (length xs)) as (λ _. w (get_or xs t d) ≤ sum_by w xs) [
        | inl lt ↦ get_or-le-sum_by w xs t d lt
        | inr le ↦ let e = ap w (get_or_past xs t d le) in omega (arith, e, nothing)
      ]

  pub total_two : (xs : List A) (t u : ℕ) → t ≢ u → w (get_or xs t d) + w (get_or xs u d) ≤ sum_by w xs
  total_two [] t u ne = omega (arith, nothing)
  total_two (x ∷ xs) zero zero ne = absurd (ne refl)
  total_two (x ∷ xs) zero (suc u) ne = let h = total_one xs u in let s = sum_by-cons w x xs in omega (arith, h, s)
  total_two (x ∷ xs) (suc t) zero ne = let h = total_one xs t in let s = sum_by-cons w x xs in omega (arith, h, s)
  total_two (x ∷ xs) (suc t) (suc u) ne = let h = total_two xs t u (λ e. ne (ap suc e)) in let s = sum_by-cons w x xs in omega (arith, h, s)

  pub total_some : (xs : List A) → 0 < sum_by w xs → (u : ℕ) × (0 < w (get_or xs u d))
  total_some [] h = absurd (omega (arith, h))
  total_some (x ∷ xs) h =
      let s = sum_by-cons w x xs in
      elim (cases_lt 0 (w x)) as (λ _. (u : ℕ) × (0 < w (get_or (x ∷ xs) u d))) [
        | inl p ↦ (0, p)
        | inr p ↦ let r = total_some xs (omega (arith, h, p, s)) in (suc r.0, r.1)
      ]

-- ---- lists

abbrev pub first : {A : Type 0} → List A → Option A
first [] = None
first (x ∷ xs) = Some x

-- 1 where they are equal, and else 0
abbrev pub one : ℕ → ℕ → ℕ
one b x = if nat_eq b x then 1 else 0

-- how many have this number
abbrev pub occ : {A : Type 0} → (A → ℕ) → ℕ → List A → ℕ
occ key b [] = 0
occ key b (x ∷ xs) = one b (key x) + occ key b xs

pub one_same : (b : ℕ) → one b b ≡ 1
one_same b = let e = eq-eqb b b refl in rw e refl

pub one_other : (b x : ℕ) → b ≢ x → one b x ≡ 0
one_other b x ne = go (nat_eq b x) refl
  where
    go : (t : Bool) → nat_eq b x ≡ t → one b x ≡ 0
    go true e = absurd (ne (eqb-true b x e))
    go false e = rw e refl

pub one_is : (b x : ℕ) → 0 < one b x → b ≡ x
one_is b x h =
    elim (cases_eq b x) as (λ _. b ≡ x) [ inl e ↦ e | inr ne ↦ absurd (let z = one_other b x ne in omega (arith, h, z)) ]

pub occ_append : {A : Type 0} (key : A → ℕ) (b : ℕ) (xs ys : List A) → occ key b (xs ++ ys) ≡ occ key b xs + occ key b ys
occ_append key b [] ys = omega arith
occ_append key b (x ∷ xs) ys = let h = occ_append key b xs ys in omega (arith, h)

-- a place that is written twice
pub set_again : {A : Type 0} (d : A) (xs : List A) (t : ℕ) (a b : A) → t < length xs → Changed d (set xs t a) (set xs t b) t b
set_again d xs t a b lt =
    let within : t < length (set xs t a) = omega (arith, lt, length-set xs t a) in
    subst (λ ys. Changed d (set xs t a) ys t b) (set-set xs t a b) (set_changed d (set xs t a) t b within)

-- The lives of the threads at their numbers, and sums over them.
-- A block's count is the sum of `starts_in` over all lives, so each law says what one life that is set or added changes of a sum; a sum
-- above 0 has a thread that gives it.
use Rattle.std.proofs.Common.{◌≡◌, ◌⊎◌, ℕ, zero, suc, ◌+◌, ◌≤◌, ◌<◌, List, [], ◌∷◌, ◌++◌, length, Option, Some, None, Bool, true, false, refl, sym, ap, ◌∙◌, subst, inl, inr, arith}
use Rattle.std.specs.Prelude.{slice_index_or, slice_set, nat_eq, if◌then◌else◌}
use Rattle.std.proofs.lemmas.Bool.{cases_eq, cases_lt, eqb-true, eq-eqb}
use Rattle.std.proofs.lemmas.List.{get_or-set_same, get_or-set_other, get_or_past}
use Rattle.work_item.specs.declared.ids.Item.{Item}
use Rattle.work_item.specs.declared.ids.BlockId.{BlockId}
use Rattle.code_safety.specs.Fit.{Life, no_life, life_at, Phase, Gone, Going, AtFinish, is_living, is_going, one_if, occurs, total, is_at, starts_in}

-- ---- sums

module _ {A : Type 0} (f : A → ℕ) where
  pub total_set : (xs : List A) (n : ℕ) (x d : A) → n < length xs → total f (slice_set xs n x) + f (slice_index_or xs n d) ≡ total f xs + f x
  total_set [] n x d lt = absurd (omega (arith, lt))
  total_set (y ∷ xs) zero x d lt = omega arith
  total_set (y ∷ xs) (suc n) x d lt = let h = total_set xs n x d (omega (arith, lt)) in omega (arith, h)

  pub total_same : (xs : List A) (n : ℕ) (x d : A) → n < length xs → f x ≡ f (slice_index_or xs n d) → total f (slice_set xs n x) ≡ total f xs
  total_same xs n x d lt e = let h = total_set xs n x d lt in omega (arith, h, e)

  pub total_append : (xs ys : List A) → total f (xs ++ ys) ≡ total f xs + total f ys
  total_append [] ys = omega arith
  total_append (x ∷ xs) ys = let h = total_append xs ys in omega (arith, h)

  pub total_one : (xs : List A) (n : ℕ) (d : A) → n < length xs → f (slice_index_or xs n d) ≤ total f xs
  total_one [] n d lt = absurd (omega (arith, lt))
  total_one (x ∷ xs) zero d lt = omega arith
  total_one (x ∷ xs) (suc n) d lt = let h = total_one xs n d (omega (arith, lt)) in omega (arith, h)

  pub total_some : (xs : List A) (d : A) → 0 < total f xs → (n : ℕ) × ((n < length xs) × (0 < f (slice_index_or xs n d)))
  total_some [] d h = absurd (omega (arith, h))
  total_some (x ∷ xs) d h = elim (cases_lt 0 (f x)) as (λ _. (n : ℕ) × ((n < length (x ∷ xs)) × (0 < f (slice_index_or (x ∷ xs) n d)))) [
    | inl p ↦ (0, (omega arith, p))
    | inr p ↦ let r = total_some xs d (omega (arith, h, p)) in (suc r.0, (omega (arith, r.1.0), r.1.1))
  ]

-- ---- numbers

pub same_item : (t u : Item) → t.number ≡ u.number → t ≡ u
same_item t u e = let make : ℕ → Item = λ n. record { number = n } in ap make e

pub same_block : (a b : BlockId) → a.number ≡ b.number → a ≡ b
same_block a b e = let make : ℕ → BlockId = λ n. record { number = n } in ap make e

pub one_same : (n : ℕ) → one_if (nat_eq n n) ≡ 1
one_same n = ap one_if (eq-eqb n n refl)

pub one_other : (n k : ℕ) → (n ≡ k → ⊥) → one_if (nat_eq n k) ≡ 0
one_other n k ne = go (nat_eq n k) refl
  where
    go : (b : Bool) → nat_eq n k ≡ b → one_if b ≡ 0
    go true e = absurd (ne (eqb-true n k e))
    go false e = refl

pub one_is : (n k : ℕ) → 0 < one_if (nat_eq n k) → n ≡ k
one_is n k h = elim (cases_eq n k) as (λ _. n ≡ k) [ inl e ↦ e | inr ne ↦ absurd (let z = one_other n k ne in omega (arith, h, z)) ]

pub one_true : (b : Bool) → one_if b ≡ 1 → b ≡ true
one_true true e = refl
one_true false e = absurd (omega (arith, e))

pub one_at_most : (b : Bool) → one_if b ≤ 1
one_at_most true = omega arith
one_at_most false = omega arith

pub occurs_append : (u : ℕ) (xs ys : List Item) → occurs u (xs ++ ys) ≡ occurs u xs + occurs u ys
occurs_append u [] ys = omega arith
occurs_append u (x ∷ xs) ys = let h = occurs_append u xs ys in omega (arith, h)

-- ---- one life

-- the life at a number after one is set
pub life_cases : (lives : List Life) (t u : Item) (l : Life) → t.number < length lives →
    ((t ≡ u) × (life_at (slice_set lives t.number l) u ≡ l)) ⊎ ((t ≡ u → ⊥) × (life_at (slice_set lives t.number l) u ≡ life_at lives u))
life_cases lives t u l lt = elim (cases_eq t.number u.number) as
    (λ _. ((t ≡ u) × (life_at (slice_set lives t.number l) u ≡ l)) ⊎ ((t ≡ u → ⊥) × (life_at (slice_set lives t.number l) u ≡ life_at lives u))) [
      | inl e ↦ inl (same_item t u e, subst (λ n. slice_index_or (slice_set lives t.number l) n no_life ≡ l) e (get_or-set_same lives t.number l no_life lt))
      | inr ne ↦ inr (λ e. ne (ap (λ (x : Item). x.number) e), get_or-set_other lives t.number u.number l no_life (λ e. ne (sym e)))
    ]

pub living_within : (lives : List Life) (t : Item) → is_living (life_at lives t).phase ≡ true → t.number < length lives
living_within lives t h = elim (cases_lt t.number (length lives)) as (λ _. t.number < length lives) [
  | inl lt ↦ lt
  | inr le ↦ absurd (let e = get_or_past lives t.number no_life le in let no : false ≡ true = sym (ap (λ (l : Life). is_living l.phase) e) ∙ h in cc)
]

pub going_is : (p : Phase) → is_going p ≡ true → p ≡ Going
going_is Gone h = let no : false ≡ true = h in cc
going_is Going h = refl
going_is (AtFinish b) h = let no : false ≡ true = h in cc

pub going_lives : (p : Phase) → p ≡ Going → is_living p ≡ true
going_lives p e = ap is_living e

-- what each life says of a thread that does not change
pub life_same : {A : Type 0} (lives : List Life) (t : Item) (l : Life) → t.number < length lives → (f : Life → A) → f l ≡ f (life_at lives t) → (u : Item)
    → f (life_at (slice_set lives t.number l) u) ≡ f (life_at lives u)
life_same lives t l lt f e u = elim (life_cases lives t u l lt) as (λ _. f (life_at (slice_set lives t.number l) u) ≡ f (life_at lives u)) [
  | inl p ↦ ap f p.1 ∙ e ∙ ap (λ x. f (life_at lives x)) p.0
  | inr p ↦ ap f p.1
]

at_is : (o : Option BlockId) (b : BlockId) → is_at o b ≡ true → o ≡ Some b
at_is None b e = let no : false ≡ true = e in cc
at_is (Some a) b e = ap (λ x. Some x) (same_block a b (eqb-true a.number b.number e))

pub starts_is : (b : BlockId) (l : Life) → 0 < starts_in b l → (is_living l.phase ≡ true) × (l.start ≡ Some b)
starts_is b l h = go (is_living l.phase) (is_at l.start b) refl refl h
  where
    go : (p q : Bool) → is_living l.phase ≡ p → is_at l.start b ≡ q → 0 < (if p then one_if q else 0) → (is_living l.phase ≡ true) × (l.start ≡ Some b)
    go true true e f h = (e, at_is l.start b f)
    go true false e f h = absurd (omega (arith, h))
    go false q e f h = absurd (omega (arith, h))

pub starts_one : (b : BlockId) (l : Life) → is_living l.phase ≡ true → l.start ≡ Some b → starts_in b l ≡ 1
starts_one b l e f = rw (e, f) (one_same b.number)

pub starts_none : (b : BlockId) (l : Life) → (is_living l.phase ≡ true → l.start ≡ Some b → ⊥) → starts_in b l ≡ 0
starts_none b l h = elim (cases_lt 0 (starts_in b l)) as (λ _. starts_in b l ≡ 0) [
  | inl p ↦ absurd (let r = starts_is b l p in h r.0 r.1)
  | inr p ↦ omega (arith, p)
]

-- where none of them was started in the block, and the other way round
pub total_none : (b : BlockId) (lives : List Life) → ((u : Item) → is_living (life_at lives u).phase ≡ true → (life_at lives u).start ≡ Some b → ⊥) → total (starts_in b) lives ≡ 0
total_none b lives h = elim (cases_lt 0 (total (starts_in b) lives)) as (λ _. total (starts_in b) lives ≡ 0) [
  | inl p ↦ absurd (let s = total_some (starts_in b) lives no_life p in let r = starts_is b (life_at lives (record { number = s.0 })) s.1.1 in h (record { number = s.0 }) r.0 r.1)
  | inr p ↦ omega (arith, p)
]

pub one_counts : (b : BlockId) (lives : List Life) (u : Item) → is_living (life_at lives u).phase ≡ true → (life_at lives u).start ≡ Some b → 1 ≤ total (starts_in b) lives
one_counts b lives u e f =
    let one = starts_one b (life_at lives u) e f in
    let le = total_one (starts_in b) lives u.number no_life (living_within lives u e) in
    let l : starts_in b (life_at lives u) ≤ total (starts_in b) lives = le in
    omega (arith, one, l)

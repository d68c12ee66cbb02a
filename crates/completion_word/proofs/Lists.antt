-- Lists read by an index, where an item comes or is changed: what holds of each is shown of the old ones and of the new one alone. And the
-- places of two numbers that are less than a turn apart, so that a write in the word of one offer leaves those of the others.
use Rattle.std.proofs.Common.{◌≡◌, ◌≢◌, ℕ, zero, suc, ◌+◌, ◌%◌, ◌<◌, ◌≤◌, ◌⊎◌, List, [], ◌∷◌, ◌++◌, length, get_or, inl, inr, ⊎_elim}
use Rattle.std.proofs.Common.{sym, refl, ap, subst, arith, length-append, length-set, get_or-set_other, get_or-set_same, set}
use Rattle.std.proofs.lemmas.List.{get_or_append_left, get_or_push}
use Rattle.std.proofs.lemmas.Bool.{cases_lt}
use Rattle.atomic_table.proofs.Lists.{one_turn}
use mathlib.Core.Logic.{dite}
use mathlib.Core.Option.{some, some-injective, some-ne-none}
use native.Mathlib.Decide.{ℕ_discrete}
use lib.ListN.{get_elem?}

-- what holds of each item and of a new one holds of each item of the longer list
pub snoc_all : {X : Type 0} (P : ℕ → X → Type 0) (xs : List X) (x d : X) → ((k : ℕ) → k < length xs → P k (get_or xs k d)) → P (length xs) x → (k : ℕ) → k < length (xs ++ x ∷ [])
    → P k (get_or (xs ++ x ∷ []) k d)
snoc_all {X} P xs x d below here k l =
    dite (ℕ_discrete k (length xs))
    (λ e. subst (λ (j : ℕ). P j (get_or (xs ++ x ∷ []) j d)) (sym e) (subst (P (length xs)) (sym (get_or_push xs x d (length xs) refl)) here))
    (λ ne. let lt : k < length xs = omega (arith, length-append xs (x ∷ [])) in subst (P k) (sym (get_or_append_left xs (x ∷ []) d k lt)) (below k lt))

-- the same where one item is changed
pub set_all : {X : Type 0} (P : ℕ → X → Type 0) (xs : List X) (i : ℕ) (y d : X) → ((k : ℕ) → k < length xs → k ≢ i → P k (get_or xs k d)) → (i < length xs → P i y) → (k : ℕ) → k < length (set xs i y)
    → P k (get_or (set xs i y) k d)
set_all {X} P xs i y d others here k l =
    let lt : k < length xs = omega (arith, length-set xs i y) in
    dite (ℕ_discrete k i)
    (λ e. let inside : i < length xs = omega arith in subst (λ (j : ℕ). P j (get_or (set xs i y) j d)) (sym e) (subst (P i) (sym (get_or-set_same xs i y d inside)) (here inside)))
    (λ ne. subst (P k) (sym (get_or-set_other xs i k y d ne)) (others k lt ne))

-- two numbers less than a turn apart have different places
pub apart : (k s places : ℕ) → k < s → s < k + places → k % places ≢ s % places
apart k s places lt near e = let same : k ≡ s = one_turn k s places (omega arith) near e in omega arith

pub apart_back : (k s places : ℕ) → k < s → s < k + places → s % places ≢ k % places
apart_back k s places lt near e = apart k s places lt near (sym e)

-- two numbers of one turn that differ have different places
pub apart_both : (j k low places : ℕ) → j ≢ k → low ≤ j → low ≤ k → j < low + places → k < low + places → j % places ≢ k % places
apart_both j k low places ne a b c d =
    ⊎_elim (λ (l : j < k). apart j k places l (omega arith)) (λ (l : k ≤ j). apart_back k j places (omega arith) (omega arith)) (cases_lt j k)

-- what stands in a list with one item more stands there before, or is that item
pub at_push : {X : Type 0} (l : List X) (a b : X) (j : ℕ) → get_elem? (l ++ a ∷ []) j ≡ some b → (get_elem? l j ≡ some b) ⊎ ((j ≡ length l) × (a ≡ b))
at_push [] a b zero e = inr (refl, some-injective a b e)
at_push [] a b (suc j) e = absurd (some-ne-none b (sym e))
at_push (x ∷ xs) a b zero e = inl e
at_push (x ∷ xs) a b (suc j) e = ⊎_elim inl (λ q. inr (ap suc q.0, q.1)) (at_push xs a b j e)

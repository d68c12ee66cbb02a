-- Lists, place by place: what stands where after one place was set, and after an element was put to the end. By induction on the list.
use Rattle.std.proofs.Common.{◌≡◌, ℕ, zero, suc, ◌<◌, ◌⊎◌, inl, inr, List, [], ◌∷◌, ◌++◌, length, Some, None, refl, ap, arith}
use Rattle.std.specs.Prelude.{slice_get, slice_set}

pub set_same : {X : Type 0} (xs : List X) (i : ℕ) (v x : X) → slice_get xs i ≡ Some x → slice_get (slice_set xs i v) i ≡ Some v
set_same [] i v x h = let no : None ≡ Some x = h in cc
set_same (y ∷ xs) zero v x h = refl
set_same (y ∷ xs) (suc i) v x h = set_same xs i v x h

-- another place, or the same one
pub set_cases : {X : Type 0} (xs : List X) (i j : ℕ) (v y : X) → slice_get (slice_set xs i v) j ≡ Some y → ((i ≡ j) × (v ≡ y)) ⊎ (slice_get xs j ≡ Some y)
set_cases [] i j v y h = inr h
set_cases (z ∷ xs) zero zero v y h = let e : Some v ≡ Some y = h in inl (refl, cc)
set_cases (z ∷ xs) zero (suc j) v y h = inr h
set_cases (z ∷ xs) (suc i) zero v y h = inr h
set_cases (z ∷ xs) (suc i) (suc j) v y h =
    elim (set_cases xs i j v y h) [ inl e ↦ inl (ap suc e.0, e.1) | inr e ↦ inr e ]

-- at a place that holds something else
pub set_other : {X : Type 0} (xs : List X) (i j : ℕ) (v x y : X) → slice_get xs i ≡ Some x → slice_get xs j ≡ Some y → (x ≡ y → ⊥) → slice_get (slice_set xs i v) j ≡ Some y
set_other [] i j v x y h g ne = g
set_other (z ∷ xs) zero zero v x y h g ne = let e : Some z ≡ Some x = h in let f : Some z ≡ Some y = g in absurd (ne (cc))
set_other (z ∷ xs) zero (suc j) v x y h g ne = g
set_other (z ∷ xs) (suc i) zero v x y h g ne = g
set_other (z ∷ xs) (suc i) (suc j) v x y h g ne = set_other xs i j v x y h g ne

pub set_length : {X : Type 0} (xs : List X) (i : ℕ) (v : X) → length (slice_set xs i v) ≡ length xs
set_length [] i v = refl
set_length (y ∷ xs) zero v = refl
set_length (y ∷ xs) (suc i) v = ap suc (set_length xs i v)

pub end_cases : {X : Type 0} (xs : List X) (x y : X) (k : ℕ) → slice_get (xs ++ x ∷ []) k ≡ Some y → ((k ≡ length xs) × (x ≡ y)) ⊎ (slice_get xs k ≡ Some y)
end_cases [] x y zero h = let e : Some x ≡ Some y = h in inl (refl, cc)
end_cases [] x y (suc k) h = let no : None ≡ Some y = h in cc
end_cases (z ∷ xs) x y zero h = inr h
end_cases (z ∷ xs) x y (suc k) h = elim (end_cases xs x y k h) [ inl e ↦ inl (ap suc e.0, e.1) | inr e ↦ inr e ]

pub end_before : {X : Type 0} (xs ys : List X) (y : X) (k : ℕ) → slice_get xs k ≡ Some y → slice_get (xs ++ ys) k ≡ Some y
end_before [] ys y k h = let no : None ≡ Some y = h in cc
end_before (z ∷ xs) ys y zero h = h
end_before (z ∷ xs) ys y (suc k) h = end_before xs ys y k h

pub end_here : {X : Type 0} (xs : List X) (x : X) → slice_get (xs ++ x ∷ []) (length xs) ≡ Some x
end_here [] x = refl
end_here (z ∷ xs) x = end_here xs x

pub within : {X : Type 0} (xs : List X) (k : ℕ) (x : X) → slice_get xs k ≡ Some x → k < length xs
within [] k x h = let no : None ≡ Some x = h in cc
within (y ∷ xs) zero x h = omega arith
within (y ∷ xs) (suc k) x h = let lt : k < length xs = within xs k x h in omega arith

pub got : {X : Type 0} (xs : List X) (k : ℕ) → k < length xs → (x : X) × (slice_get xs k ≡ Some x)
got [] k h = absurd (omega arith)
got (x ∷ xs) zero h = (x, refl)
got (x ∷ xs) (suc k) h = got xs k (omega arith)

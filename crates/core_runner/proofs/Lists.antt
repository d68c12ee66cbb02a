-- Elements of lists by their places, where lists are put together or go through a loop.
use Rattle.std.proofs.Common.{◌≡◌, ◌⊎◌, inl, inr, ⊎_elim, ℕ, zero, suc, ◌<◌, List, [], ◌∷◌, ◌++◌, Some, refl, sym, ap, ◌∙◌, subst, arith, length, append-nil}
use Rattle.std.specs.Prelude.{slice_get}
use Rattle.std.specs.List.{AllByRecursion}

pub same_some : {X : Type 0} (x y : X) → Some x ≡ Some y → x ≡ y
same_some x y e = cc

pub one_more : {X : Type 0} (xs ys : List X) (y : X) → xs ≡ ys ++ y ∷ [] → length xs ≡ suc (length ys)
one_more {X = X} xs ys y e = ap length e ∙ longer ys
  where
    longer : (zs : List X) → length (zs ++ y ∷ []) ≡ suc (length zs)
    longer [] = refl
    longer (z ∷ zs) = ap suc (longer zs)

-- ---- by place

pub found : {X : Type 0} (xs : List X) (k : ℕ) → k < length xs → (x : X) × (slice_get xs k ≡ Some x)
found [] k h = absurd (omega (arith, h))
found (x ∷ xs) zero h = (x, refl)
found (x ∷ xs) (suc k) h = found xs k (omega (arith, h))

pub at_more : {X : Type 0} (xs : List X) (y x : X) (k : ℕ) → slice_get (xs ++ y ∷ []) k ≡ Some x → (slice_get xs k ≡ Some x) ⊎ ((k ≡ length xs) × (y ≡ x))
at_more [] y x zero h = inr (refl, same_some y x h)
at_more [] y x (suc k) h = cc
at_more (z ∷ zs) y x zero h = inl h
at_more (z ∷ zs) y x (suc k) h = ⊎_elim (λ w. inl w) (λ w. inr (ap suc w.0, w.1)) (at_more zs y x k h)

pub at_seam : {X : Type 0} (xs : List X) (y : X) (ys : List X) → slice_get (xs ++ y ∷ ys) (length xs) ≡ Some y
at_seam [] y ys = refl
at_seam (x ∷ xs) y ys = at_seam xs y ys

pub at_first : {X : Type 0} (xs ys : List X) (k : ℕ) (x : X) → slice_get xs k ≡ Some x → slice_get (xs ++ ys) k ≡ Some x
at_first [] ys k x h = cc
at_first (z ∷ zs) ys zero x h = h
at_first (z ∷ zs) ys (suc k) x h = at_first zs ys k x h

pub at_low : {X : Type 0} (xs ys : List X) (k : ℕ) → k < length xs → slice_get (xs ++ ys) k ≡ slice_get xs k
at_low [] ys k h = absurd (omega (arith, h))
at_low (z ∷ zs) ys zero h = refl
at_low (z ∷ zs) ys (suc k) h = at_low zs ys k (omega (arith, h))

-- ---- what holds of each

pub all_at : {X : Type 0} (H : X → Type 0) (xs : List X) (k : ℕ) (x : X) → AllByRecursion H xs → slice_get xs k ≡ Some x → H x
all_at H [] k x all at = cc
all_at H (y ∷ ys) zero x all at = subst H (same_some y x at) all.0
all_at H (y ∷ ys) (suc k) x all at = all_at H ys k x all.1 at

pub all_from : {X : Type 0} (H : X → Type 0) (xs : List X) → ((k : ℕ) (x : X) → slice_get xs k ≡ Some x → H x) → AllByRecursion H xs
all_from H [] each = tt
all_from H (x ∷ xs) each = (each 0 x refl, all_from H xs (λ k y at. each (suc k) y at))

pub all_both : {X : Type 0} (H : X → Type 0) (xs ys : List X) → AllByRecursion H xs → AllByRecursion H ys → AllByRecursion H (xs ++ ys)
all_both H [] ys a b = b
all_both H (x ∷ xs) ys a b = (a.0, all_both H xs ys a.1 b)

-- ---- a loop over the elements of a list

nothing_left : {X : Type 0} (xs : List X) → length xs ≡ 0 → xs ≡ []
nothing_left [] h = refl
nothing_left (x ∷ xs) h = absurd (omega (arith, h))

module _ {X : Type 0} (yielded rest first all : List X) (left : yielded ++ rest ≡ first) (gives : first ≡ all) where
  -- the next one stands after those before it
  pub next_is : (x : X) (next : List X) → rest ≡ x ∷ next → slice_get all (length yielded) ≡ Some x
  next_is x next steps =
      let e : yielded ++ x ∷ next ≡ all = sym (ap (λ xs. yielded ++ xs) steps) ∙ left ∙ gives in
      ap (λ xs. slice_get xs (length yielded)) (sym e) ∙ at_seam yielded x next

  -- at the end there were all of them
  pub all_were : length rest ≡ 0 → yielded ≡ all
  all_were none = sym (append-nil yielded) ∙ sym (ap (λ xs. yielded ++ xs) (nothing_left rest none)) ∙ left ∙ gives

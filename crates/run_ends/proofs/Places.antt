-- Elements of lists, by their places and by a test, where a list grows at its end or one element changes.
use Rattle.std.proofs.Common.{◌≡◌, ◌⊎◌, inl, inr, ⊎_elim, ℕ, zero, suc, ◌+◌, ◌<◌, List, [], ◌∷◌, ◌++◌, Some}
use Rattle.std.proofs.Common.{None, Bool, true, false, cond, refl, sym, ap, ◌∙◌, arith, length, set, map, find, append-nil}
use Rattle.std.specs.Prelude.{slice_get, ◌==◌}
use Rattle.std.proofs.lemmas.Bool.Decides.{nat_tests}

pub are_equal : (m n : ℕ) → m ≡ n → (m == n) ≡ true
are_equal m n h = grind (arith, nat_tests)

pub not_equal : (m n : ℕ) → (m ≡ n → ⊥) → (m == n) ≡ false
not_equal m n h = grind (arith, nat_tests)

pub same_some : {X : Type 0} (x y : X) → Some x ≡ Some y → x ≡ y
same_some x y e = cc

-- ---- by place

pub at_more : {X : Type 0} (xs : List X) (y x : X) (k : ℕ) → slice_get (xs ++ y ∷ []) k ≡ Some x → (slice_get xs k ≡ Some x) ⊎ ((k ≡ length xs) × (y ≡ x))
at_more [] y x zero h = inr (refl, same_some y x h)
at_more [] y x (suc k) h = cc
at_more (z ∷ zs) y x zero h = inl h
at_more (z ∷ zs) y x (suc k) h = ⊎_elim (λ w. inl w) (λ w. inr (ap suc w.0, w.1)) (at_more zs y x k h)

pub at_seam : {X : Type 0} (xs : List X) (y : X) (ys : List X) → slice_get (xs ++ y ∷ ys) (length xs) ≡ Some y
at_seam [] y ys = refl
at_seam (x ∷ xs) y ys = at_seam xs y ys

pub at_first : {X : Type 0} (xs ys : List X) (k : ℕ) (x : X) → slice_get xs k ≡ Some x → slice_get (xs ++ ys) k ≡ Some x
at_first [] ys k x h = cc
at_first (z ∷ zs) ys zero x h = h
at_first (z ∷ zs) ys (suc k) x h = at_first zs ys k x h

pub at_second : {X : Type 0} (xs ys : List X) (k : ℕ) → slice_get (xs ++ ys) (length xs + k) ≡ slice_get ys k
at_second [] ys k = ap (slice_get ys) (omega arith)
at_second (x ∷ xs) ys k = let e : length (x ∷ xs) + k ≡ suc (length xs + k) = omega arith in ap (slice_get (x ∷ (xs ++ ys))) e ∙ at_second xs ys k

pub at_changed : {X : Type 0} (xs : List X) (j : ℕ) (y : X) → j < length xs → slice_get (set xs j y) j ≡ Some y
at_changed [] j y h = absurd (omega (arith, h))
at_changed (x ∷ xs) zero y h = refl
at_changed (x ∷ xs) (suc j) y h = at_changed xs j y (omega (arith, h))

pub at_others : {X : Type 0} (xs : List X) (j k : ℕ) (y : X) → (j ≡ k → ⊥) → slice_get (set xs j y) k ≡ slice_get xs k
at_others [] j k y n = refl
at_others (x ∷ xs) zero zero y n = absurd (n refl)
at_others (x ∷ xs) zero (suc k) y n = refl
at_others (x ∷ xs) (suc j) zero y n = refl
at_others (x ∷ xs) (suc j) (suc k) y n = at_others xs j k y (λ e. n (ap suc e))

pub map_changed : {X Y : Type 0} (f : X → Y) (xs : List X) (j : ℕ) (x y : X) → slice_get xs j ≡ Some x → f y ≡ f x → map f (set xs j y) ≡ map f xs
map_changed f [] j x y h e = refl
map_changed f (z ∷ zs) zero x y h e = ap (λ w. w ∷ map f zs) (e ∙ sym (ap f (same_some z x h)))
map_changed f (z ∷ zs) (suc j) x y h e = ap (λ ws. f z ∷ ws) (map_changed f zs j x y h e)

-- ---- the first that passes a test

find_past : {X : Type 0} (p : X → Bool) (xs : List X) (y : X) → p y ≡ false → find p (xs ++ y ∷ []) ≡ find p xs
find_past p [] y e = ap (λ b. cond b (Some y) None) e
find_past p (x ∷ xs) y e = ap (cond (p x) (Some x)) (find_past p xs y e)

find_last : {X : Type 0} (p : X → Bool) (xs : List X) (y : X) → p y ≡ true → find p xs ≡ None → find p (xs ++ y ∷ []) ≡ Some y
find_last p [] y e h = ap (λ b. cond b (Some y) None) e
find_last p (x ∷ xs) y e h = by (p x) h (find_last p xs y e)
  where
    by : (b : Bool) → cond b (Some x) (find p xs) ≡ None → (find p xs ≡ None → find p (xs ++ y ∷ []) ≡ Some y)
        → cond b (Some x) (find p (xs ++ y ∷ [])) ≡ Some y
    by true n more = cc
    by false n more = more n

-- an element more is found by its own number, and those of the other numbers as before
module _ {X : Type 0} (link : X → ℕ) (y : X) where
  pub grown_other : (b : Bool) (xs : List X) (l : ℕ) → (link y ≡ l → ⊥) → find (λ x. link x == l) (cond b (xs ++ y ∷ []) xs) ≡ find (λ x. link x == l) xs
  grown_other true xs l n = find_past (λ x. link x == l) xs y (not_equal (link y) l n)
  grown_other false xs l n = refl

  pub grown_here : (b : Bool) (xs : List X) (l : ℕ) → link y ≡ l → find (λ x. link x == l) xs ≡ None
      → find (λ x. link x == l) (cond b (xs ++ y ∷ []) xs) ≡ cond b (Some y) None
  grown_here true xs l e none = find_last (λ x. link x == l) xs y (are_equal (link y) l e) none
  grown_here false xs l e none = none

pub length_changed : {X : Type 0} (xs : List X) (j : ℕ) (y : X) → length (set xs j y) ≡ length xs
length_changed [] j y = refl
length_changed (x ∷ xs) zero y = refl
length_changed (x ∷ xs) (suc j) y = ap suc (length_changed xs j y)

-- ---- a loop over the elements of a list

nothing_left : {X : Type 0} (xs : List X) → length xs ≡ 0 → xs ≡ []
nothing_left [] h = refl
nothing_left (x ∷ xs) h = absurd (omega arith)

module _ {X : Type 0} (yielded rest first all : List X) (left : yielded ++ rest ≡ first) (gives : first ≡ all) where
  -- the next one stands after those before it
  pub next_is : (x : X) (next : List X) → rest ≡ x ∷ next → slice_get all (length yielded) ≡ Some x
  next_is x next steps =
      let e : yielded ++ x ∷ next ≡ all = sym (ap (λ xs. yielded ++ xs) steps) ∙ left ∙ gives in
      ap (λ xs. slice_get xs (length yielded)) (sym e) ∙ at_seam yielded x next

  -- at the end there were all of them
  pub all_were : length rest ≡ 0 → yielded ≡ all
  all_were none = sym (append-nil yielded) ∙ sym (ap (λ xs. yielded ++ xs) (nothing_left rest none)) ∙ left ∙ gives

-- The first of a list for which a test holds, and its place.
-- The calls of `Outstanding` find a place and change or take away what is there; the definitions go by `find`, `change_first` and
-- `without_first`. By induction over the list, with the place at which it begins, for no place found and for one that was.
use Rattle.std.proofs.Common.{◌≡◌, ℕ, suc, ◌+◌, ◌<◌, List, [], ◌∷◌, length, set, refl, sym, ap, ◌∙◌, subst, arith}
use Rattle.std.specs.Prelude.{Option, Some, None, Bool, true, false, cond, find, position, is_some, slice_get, if◌then◌else◌}
use Rattle.std.specs.List.{remove, position_from}
use Rattle.std.proofs.lemmas.Iterator.Adapters.{position_from-zero}
use Rattle.cancel_scope.specs.declared.operation.Operation.{Operation}
use Rattle.cancel_scope.specs.Outstanding.{change_first, without_first}

-- ---- there is none

none_by_test : (test : Operation → Bool) (k : ℕ) (x : Operation) (xs : List Operation) (b : Bool) → test x ≡ b → cond b (Some k) (position_from test (k + 1) xs) ≡ None
    → (position_from test (k + 1) xs ≡ None → find test xs ≡ None) → find test (x ∷ xs) ≡ None
none_by_test test k x xs true is h more = let no : ◌≡◌ {A = Option ℕ} (Some k) None = h in cc
none_by_test test k x xs false is h more = ap (λ (b : Bool). cond b (Some x) (find test xs)) is ∙ more h

none_from : (test : Operation → Bool) (k : ℕ) (xs : List Operation) → position_from test k xs ≡ None → find test xs ≡ None
none_from test k [] h = refl
none_from test k (x ∷ xs) h = none_by_test test k x xs (test x) refl h (none_from test (k + 1) xs)

pub none_found : (test : Operation → Bool) (xs : List Operation) → None ≡ position test xs → find test xs ≡ None
none_found test xs h = none_from test 0 xs (sym (position_from-zero test xs) ∙ sym h)

none_without_by : (test : Operation → Bool) (x : Operation) (xs : List Operation) (b : Bool) → test x ≡ b → cond b (Some x) (find test xs) ≡ None
    → (find test xs ≡ None → without_first test xs ≡ xs) → without_first test (x ∷ xs) ≡ x ∷ xs
none_without_by test x xs true is h more = let no : ◌≡◌ {A = Option Operation} (Some x) None = h in cc
none_without_by test x xs false is h more = ap (λ (b : Bool). if b then xs else x ∷ without_first test xs) is ∙ ap (λ ys. x ∷ ys) (more h)

-- what is not there is not taken away
pub none_without : (test : Operation → Bool) (xs : List Operation) → find test xs ≡ None → without_first test xs ≡ xs
none_without test [] h = refl
none_without test (x ∷ xs) h = none_without_by test x xs (test x) refl h (none_without test xs)

none_changed_by : (test : Operation → Bool) (change : Operation → Operation) (x : Operation) (xs : List Operation) (b : Bool) → test x ≡ b
    → cond b (Some x) (find test xs) ≡ None → (find test xs ≡ None → change_first test change xs ≡ xs) → change_first test change (x ∷ xs) ≡ x ∷ xs
none_changed_by test change x xs true is h more = let no : ◌≡◌ {A = Option Operation} (Some x) None = h in cc
none_changed_by test change x xs false is h more = ap (λ (b : Bool). if b then change x ∷ xs else x ∷ change_first test change xs) is ∙ ap (λ ys. x ∷ ys) (more h)

-- nor changed
pub none_changed : (test : Operation → Bool) (change : Operation → Operation) (xs : List Operation) → find test xs ≡ None → change_first test change xs ≡ xs
none_changed test change [] h = refl
none_changed test change (x ∷ xs) h = none_changed_by test change x xs (test x) refl h (none_changed test change xs)

-- ---- whether there is one

placed_by : (test : Operation → Bool) (k : ℕ) (x : Operation) (xs : List Operation) (b : Bool) → test x ≡ b
    → is_some (position_from test (k + 1) xs) ≡ is_some (find test xs) → is_some (cond b (Some k) (position_from test (k + 1) xs)) ≡ is_some (find test (x ∷ xs))
placed_by test k x xs true is more = sym (ap (λ (b : Bool). is_some (cond b (Some x) (find test xs))) is)
placed_by test k x xs false is more = more ∙ sym (ap (λ (b : Bool). is_some (cond b (Some x) (find test xs))) is)

placed_from : (test : Operation → Bool) (k : ℕ) (xs : List Operation) → is_some (position_from test k xs) ≡ is_some (find test xs)
placed_from test k [] = refl
placed_from test k (x ∷ xs) = placed_by test k x xs (test x) refl (placed_from test (k + 1) xs)

-- there is a place exactly if one is found
pub placed : (test : Operation → Bool) (xs : List Operation) → is_some (position test xs) ≡ is_some (find test xs)
placed test xs = ap is_some (position_from-zero test xs) ∙ placed_from test 0 xs

-- ---- there is one

module _ (test : Operation → Bool) where
  -- the first stands at this place
  pub record IsFirst (xs : List Operation) (i : ℕ) : Type 0 where
    pub within : i < length xs
    pub found : find test xs ≡ slice_get xs i
    pub changed : (change : Operation → Operation) (o : Operation) → slice_get xs i ≡ Some o → change_first test change xs ≡ set xs i (change o)
    pub without : without_first test xs ≡ remove xs i

  record First (k : ℕ) (xs : List Operation) (j : ℕ) : Type 0 where
    place : ℕ
    sums : j ≡ k + place
    first : IsFirst xs place

  here : (k : ℕ) (x : Operation) (xs : List Operation) (j : ℕ) → test x ≡ true → k ≡ j → First k (x ∷ xs) j
  here k x xs j is e = record {
    place = 0;
    sums = omega (arith, e);
    first = record {
      within = omega arith;
      found = ap (λ (b : Bool). cond b (Some x) (find test xs)) is;
      changed = λ change o at.
          let same : x ≡ o = cc in
          ap (λ (b : Bool). if b then change x ∷ xs else x ∷ change_first test change xs) is ∙ ap (λ (y : Operation). change y ∷ xs) same;
      without = ap (λ (b : Bool). if b then xs else x ∷ without_first test xs) is;
    };
  }

  there : (k : ℕ) (x : Operation) (xs : List Operation) (j : ℕ) → test x ≡ false → First (k + 1) xs j → First k (x ∷ xs) j
  there k x xs j is r =
      let n = r.place in
      let first = r.first in
      let sums = r.sums in
      record {
        place = suc n;
        sums = omega (arith, sums);
        first = record {
          within = let lt = first.within in omega (arith, lt);
          found = ap (λ (b : Bool). cond b (Some x) (find test xs)) is ∙ first.found;
          changed = λ change o at.
              ap (λ (b : Bool). if b then change x ∷ xs else x ∷ change_first test change xs) is ∙ ap (λ ys. x ∷ ys) (first.changed change o at);
          without = ap (λ (b : Bool). if b then xs else x ∷ without_first test xs) is ∙ ap (λ ys. x ∷ ys) first.without;
        };
      }

  by_test : (k : ℕ) (x : Operation) (xs : List Operation) (j : ℕ) (b : Bool) → test x ≡ b → cond b (Some k) (position_from test (k + 1) xs) ≡ Some j
      → (position_from test (k + 1) xs ≡ Some j → First (k + 1) xs j) → First k (x ∷ xs) j
  by_test k x xs j true is h more = let e : k ≡ j = cc in here k x xs j is e
  by_test k x xs j false is h more = there k x xs j is (more h)

  first_from : (k : ℕ) (xs : List Operation) (j : ℕ) → position_from test k xs ≡ Some j → First k xs j
  first_from k [] j h = let no : ◌≡◌ {A = Option ℕ} None (Some j) = h in cc
  first_from k (x ∷ xs) j h = by_test k x xs j (test x) refl h (first_from (k + 1) xs j)

  pub is_first : (xs : List Operation) (i : ℕ) → Some i ≡ position test xs → IsFirst xs i
  is_first xs i h =
      let r = first_from 0 xs i (sym (position_from-zero test xs) ∙ sym h) in
      let sums = r.sums in
      let e : r.place ≡ i = omega (arith, sums) in
      subst (IsFirst xs) e r.first

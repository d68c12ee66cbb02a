-- The stable sort of the library, by an unsigned key, is `in_order`. For `merge`.
-- Two lists that rise by a key and have the same elements of each key, in the same order, are equal, by induction. A stable sort keeps those of each key as they stood.
use Rattle.std.proofs.Common.{◌≡◌, ℕ, suc, ◌<◌, ◌≤◌, List, [], ◌∷◌, Bool, true, false, cond, not, ◌&&◌, refl, sym, ap, ◌∙◌, subst, arith, inl, inr, length, get_or}
use Rattle.std.specs.Prelude.{◌==◌}
use Rattle.std.specs.List.{filter}
use Rattle.std.specs.List.Sorted.{IsSortedByKey, IsStableByKey, IsNonDecreasingBy}
use Rattle.std.specs.Ordering.{nat_cmp, is_lt}
use Rattle.std.proofs.lemmas.Bool.Decides.{nat_tests, leb_tells}
use Rattle.std.proofs.lemmas.List.Elements.{filter_agree}
use Rattle.std.proofs.lemmas.List.Sorted.{IsNonDecreasingBy-from_sort}
use Rattle.ac_links.specs.Order.{in_order, AllFrom, Rises}
use Rattle.ac_links.proofs.Sorting.{rises_in_order, in_order_already, filter_in_order}

tie_is : (m n : ℕ) → not (is_lt (nat_cmp m n)) && not (is_lt (nat_cmp n m)) ≡ (m == n)
tie_is m n = grind (arith, nat_tests)

eq_true : (m n : ℕ) → m ≡ n → (m == n) ≡ true
eq_true m n h = grind (arith, nat_tests)

true_eq : (m n : ℕ) → (m == n) ≡ true → m ≡ n
true_eq m n h = grind (arith, nat_tests)

less_not : (m n : ℕ) → m < n → (m == n) ≡ false
less_not m n h = grind (arith, nat_tests)

cons_head : {X : Type 0} {x y : X} {xs ys : List X} → x ∷ xs ≡ y ∷ ys → x ≡ y
cons_head h = cc

cons_tail : {X : Type 0} {x y : X} {xs ys : List X} → x ∷ xs ≡ y ∷ ys → xs ≡ ys
cons_tail h = cc

module _ {X : Type 0} (key : X → ℕ) where
  -- the elements of xs with the key of x
  abbrev alike : X → List X → List X
  alike x xs = filter (λ y. key x == key y) xs

  kept : (x y : X) (ys : List X) → key x ≡ key y → alike x (y ∷ ys) ≡ y ∷ alike x ys
  kept x y ys e = ap (λ b. cond b (y ∷ alike x ys) (alike x ys)) (eq_true (key x) (key y) e)

  none : (n : ℕ) (x : X) → key x < n → (ys : List X) → AllFrom key n ys → alike x ys ≡ []
  none n x h [] a = refl
  none n x h (y ∷ ys) a = let e : (key x == key y) ≡ false = (let p = a.0 in less_not (key x) (key y) (omega arith)) in
      ap (λ b. cond b (y ∷ alike x ys) (alike x ys)) e ∙ none n x h ys a.1

  from_at : (x y : X) (ys : List X) → AllFrom key (key x) (alike x ys) → (b : Bool) → (key x == key y) ≡ b → AllFrom key (key x) (cond b (y ∷ alike x ys) (alike x ys))
  from_at x y ys h true e = (let p = true_eq (key x) (key y) e in omega arith, h)
  from_at x y ys h false e = h

  -- all of one key: they rise
  rises_at : (x y : X) (ys : List X) → AllFrom key (key x) (alike x ys) → Rises key (alike x ys) → (b : Bool) → (key x == key y) ≡ b → Rises key (cond b (y ∷ alike x ys) (alike x ys))
  rises_at x y ys f h true e = (subst (λ n. AllFrom key n (alike x ys)) (true_eq (key x) (key y) e) f, h)
  rises_at x y ys f h false e = h

  from_alike : (x : X) (xs : List X) → AllFrom key (key x) (alike x xs)
  from_alike x [] = tt
  from_alike x (y ∷ ys) = from_at x y ys (from_alike x ys) (key x == key y) refl

  rises_alike : (x : X) (xs : List X) → Rises key (alike x xs)
  rises_alike x [] = tt
  rises_alike x (y ∷ ys) = rises_at x y ys (from_alike x ys) (rises_alike x ys) (key x == key y) refl

  -- the first of a list that rises is not above any key that stands in it
  first : (n : ℕ) (x y : X) (ys r : List X) → AllFrom key n ys → y ∷ r ≡ alike x ys → n ≤ key x
  first n x y ys r a h = elim (leb_tells n (key x)) [ inl w ↦ w.1 | inr w ↦ (let e = none n x w.1 ys a in let no : y ∷ r ≡ [] = h ∙ e in cc) ]

  all_from : (y : X) (ys : List X) → Rises key (y ∷ ys) → AllFrom key (key y) (y ∷ ys)
  all_from y ys r = (omega arith, r.0)

  rest : (x y : X) (ys zs : List X) → alike x (y ∷ ys) ≡ alike x (y ∷ zs) → (b : Bool) → (key x == key y) ≡ b → alike x ys ≡ alike x zs
  rest x y ys zs h true e = let e' = true_eq (key x) (key y) e in cons_tail (sym (kept x y ys e') ∙ h ∙ kept x y zs e')
  rest x y ys zs h false e = sym (ap (λ b. cond b (y ∷ alike x ys) (alike x ys)) e) ∙ h ∙ ap (λ b. cond b (y ∷ alike x zs) (alike x zs)) e

  pub unique : (ys zs : List X) → Rises key ys → Rises key zs → ((x : X) → alike x ys ≡ alike x zs) → ys ≡ zs
  unique [] [] r s h = refl
  unique [] (z ∷ zs) r s h = let e = kept z z zs refl in let no : [] ≡ z ∷ alike z zs = h z ∙ e in cc
  unique (y ∷ ys) [] r s h = let e = kept y y ys refl in let no : y ∷ alike y ys ≡ [] = sym e ∙ h y in cc
  unique (y ∷ ys) (z ∷ zs) r s h =
      let zy : key z ≤ key y = first (key z) y y (z ∷ zs) (alike y ys) (all_from z zs s) (sym (kept y y ys refl) ∙ h y) in
      let yz : key y ≤ key z = first (key y) z z (y ∷ ys) (alike z zs) (all_from y ys r) (sym (kept z z zs refl) ∙ sym (h z)) in
      let same : key y ≡ key z = omega arith in
      let head : y ≡ z = cons_head (sym (kept y y ys refl) ∙ h y ∙ kept y z zs same) in
      let go : ys ≡ zs = unique ys zs r.1 s.1 (λ x. rest x y ys zs (subst (λ w. alike x (y ∷ ys) ≡ alike x (w ∷ zs)) (sym head) (h x)) (key x == key y) refl) in
      cc

  from_of : (n : ℕ) (xs : List X) → ((k : ℕ) (d : X) → k < length xs → n ≤ key (get_or xs k d)) → AllFrom key n xs
  from_of n [] h = tt
  from_of n (x ∷ xs) h = (h 0 x (omega arith), from_of n xs (λ k d p. h (suc k) d (omega arith)))

  rises_of : (xs : List X) → IsNonDecreasingBy key xs → Rises key xs
  rises_of [] h = tt
  rises_of (x ∷ xs) h = (from_of (key x) xs (λ k d p. h 0 (suc k) d (omega arith) (omega arith)), rises_of xs (λ i j d p q. h (suc i) (suc j) d (omega arith) (omega arith)))

  -- what std's stable sort gives
  pub sorted_is : (xs ys : List X) → IsSortedByKey key nat_cmp ys → IsStableByKey key nat_cmp xs ys → ys ≡ in_order key xs
  sorted_is xs ys up stable = unique ys (in_order key xs) (rises_of ys (IsNonDecreasingBy-from_sort key ys up)) (rises_in_order key xs)
      (λ x. sym (filter_agree _ _ (λ y. tie_is (key x) (key y)) ys) ∙ stable x ∙ filter_agree _ _ (λ y. tie_is (key x) (key y)) xs
      ∙ sym (in_order_already key (alike x xs) (rises_alike x xs)) ∙ sym (filter_in_order key (λ y. key x == key y) xs))

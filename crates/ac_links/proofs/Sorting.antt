-- A stable sort by numbers: its result rises, a list that rises stays as it is, and leaving out entries before or after the sort is the same.
-- By induction on the list, of which each element is put in its place.
use Rattle.std.proofs.Common.{◌≡◌, ℕ, ◌≤◌, List, [], ◌∷◌, Bool, true, false, cond, refl, sym, ap, ◌∙◌, arith}
use Rattle.std.specs.Prelude.{nat_le}
use Rattle.std.specs.List.{filter}
use Rattle.std.proofs.lemmas.Bool.Decides.{nat_tests}
use Rattle.ac_links.specs.Order.{placed, in_order, AllFrom, Rises}

module _ {X : Type 0} (key : X → ℕ) where
  pub from_less : (m n : ℕ) → m ≤ n → (xs : List X) → AllFrom key n xs → AllFrom key m xs
  from_less m n h [] a = tt
  from_less m n h (x ∷ xs) a = (let p = a.0 in omega arith, from_less m n h xs a.1)

  from_placed : (n : ℕ) (x : X) → n ≤ key x → (xs : List X) → AllFrom key n xs → AllFrom key n (placed key x xs)
  from_placed n x h [] a = (h, tt)
  from_placed n x h (y ∷ ys) a = elim (nat_le (key x) (key y)) as (λ b. AllFrom key n (cond b (x ∷ y ∷ ys) (y ∷ placed key x ys)))
      [ true ↦ (h, a) | false ↦ (a.0, from_placed n x h ys a.1) ]

  le_true : (m n : ℕ) → nat_le m n ≡ true → m ≤ n
  le_true m n e = grind (arith, nat_tests)

  le_false : (m n : ℕ) → nat_le m n ≡ false → n ≤ m
  le_false m n e = grind (arith, nat_tests)

  true_le : (m n : ℕ) → m ≤ n → nat_le m n ≡ true
  true_le m n h = grind (arith, nat_tests)

  rises_at : (x y : X) (ys : List X) → Rises key (y ∷ ys) → Rises key (placed key x ys) → (b : Bool) → nat_le (key x) (key y) ≡ b → Rises key (cond b (x ∷ y ∷ ys) (y ∷ placed key x ys))
  rises_at x y ys r h true e = let le = le_true (key x) (key y) e in ((le, from_less (key x) (key y) le ys r.0), r)
  rises_at x y ys r h false e = (from_placed (key y) x (le_false (key x) (key y) e) ys r.0, h)

  rises_placed : (x : X) (xs : List X) → Rises key xs → Rises key (placed key x xs)
  rises_placed x [] r = (tt, tt)
  rises_placed x (y ∷ ys) r = rises_at x y ys r (rises_placed x ys r.1) (nat_le (key x) (key y)) refl

  pub rises_in_order : (xs : List X) → Rises key (in_order key xs)
  rises_in_order [] = tt
  rises_in_order (x ∷ xs) = rises_placed x (in_order key xs) (rises_in_order xs)

  -- one that is not above the first goes before it
  pub placed_first : (x : X) (xs : List X) → AllFrom key (key x) xs → placed key x xs ≡ x ∷ xs
  placed_first x [] a = refl
  placed_first x (y ∷ ys) a = ap (λ b. cond b (x ∷ y ∷ ys) (y ∷ placed key x ys)) (true_le (key x) (key y) a.0)

  pub in_order_already : (xs : List X) → Rises key xs → in_order key xs ≡ xs
  in_order_already [] r = refl
  in_order_already (x ∷ xs) r = ap (placed key x) (in_order_already xs r.1) ∙ placed_first x xs r.0

  module _ (p : X → Bool) where
    from_filter : (n : ℕ) (xs : List X) → AllFrom key n xs → AllFrom key n (filter p xs)
    from_filter n [] a = tt
    from_filter n (x ∷ xs) a = elim (p x) as (λ b. AllFrom key n (cond b (x ∷ filter p xs) (filter p xs)))
        [ true ↦ (a.0, from_filter n xs a.1) | false ↦ from_filter n xs a.1 ]

    pub rises_filter : (xs : List X) → Rises key xs → Rises key (filter p xs)
    rises_filter [] r = tt
    rises_filter (x ∷ xs) r = elim (p x) as (λ b. Rises key (cond b (x ∷ filter p xs) (filter p xs)))
        [ true ↦ (from_filter (key x) xs r.0, rises_filter xs r.1) | false ↦ rises_filter xs r.1 ]

    -- one that is left out
    filter_placed_out : (x : X) → p x ≡ false → (xs : List X) → filter p (placed key x xs) ≡ filter p xs
    filter_placed_out x e [] = rw e
    filter_placed_out x e (y ∷ ys) = elim (nat_le (key x) (key y)) as (λ b. filter p (cond b (x ∷ y ∷ ys) (y ∷ placed key x ys)) ≡ filter p (y ∷ ys))
        [ true ↦ rw e | false ↦ ap (λ r. cond (p y) (y ∷ r) r) (filter_placed_out x e ys) ]

    -- one that is kept
    filter_at : (x y : X) (ys : List X) → p x ≡ true → Rises key (y ∷ ys) → filter p (placed key x ys) ≡ placed key x (filter p ys)
        → (b : Bool) → nat_le (key x) (key y) ≡ b → (c : Bool) → p y ≡ c
        → filter p (cond b (x ∷ y ∷ ys) (y ∷ placed key x ys)) ≡ placed key x (cond c (y ∷ filter p ys) (filter p ys))
    filter_at x y ys e r h true d true f = rw (e, f, d)
    filter_at x y ys e r h true d false f = rw (e, f) (sym (placed_first x (filter p ys) (from_filter (key x) ys (from_less (key x) (key y) (le_true (key x) (key y) d) ys r.0))))
    filter_at x y ys e r h false d true f = rw (f, d) (ap (λ r. y ∷ r) h)
    filter_at x y ys e r h false d false f = rw f h

    filter_placed_in : (x : X) → p x ≡ true → (xs : List X) → Rises key xs → filter p (placed key x xs) ≡ placed key x (filter p xs)
    filter_placed_in x e [] r = rw e
    filter_placed_in x e (y ∷ ys) r = filter_at x y ys e r (filter_placed_in x e ys r.1) (nat_le (key x) (key y)) refl (p y) refl

    filter_first : (x : X) (xs : List X) → filter p (in_order key xs) ≡ in_order key (filter p xs) → (c : Bool) → p x ≡ c
        → filter p (placed key x (in_order key xs)) ≡ in_order key (cond c (x ∷ filter p xs) (filter p xs))
    filter_first x xs h true e = filter_placed_in x e (in_order key xs) (rises_in_order xs) ∙ ap (placed key x) h
    filter_first x xs h false e = filter_placed_out x e (in_order key xs) ∙ h

    -- to leave out entries keeps the order of the rest
    pub filter_in_order : (xs : List X) → filter p (in_order key xs) ≡ in_order key (filter p xs)
    filter_in_order [] = refl
    filter_in_order (x ∷ xs) = filter_first x xs (filter_in_order xs) (p x) refl

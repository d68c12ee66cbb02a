-- Rows of slots.
-- A row for each function and each `Async`. Adding a slot changes the row of one home and keeps what the others have; sorting a row leaves
-- it the same slots, and the rows are sorted one by one.
use Rattle.std.proofs.Common.{◌≡◌, ℕ, zero, suc, ◌+◌, ◌<◌, ◌⊎◌, inl, inr, List, [], ◌∷◌, ◌++◌, length, Bool, true}
use Rattle.std.proofs.Common.{false, nat_eq, Result, Ok, Err, Contains, Vec, Global, refl, sym, ap, ◌∙◌, subst, arith}
use Rattle.std.specs.Prelude.{slice_set, get_or, OnOk}
use Rattle.std.specs.List.Sorted.{IsNonDecreasing, IsPermutation}
use Rattle.std.proofs.lemmas.Bool.Decides.{nat_tests}
use Rattle.std.proofs.lemmas.List.Elements.{Contains-push, Contains-append_left, Contains-push_cases}
use Rattle.std.proofs.lemmas.List.Sorted.{Contains-permutation, IsPermutation-sym}
use Rattle.ac_base.specs.declared.memory.NoMemory.{NoMemory}
use Rattle.stack_code.specs.declared.shape.Home.{Home}
use Rattle.stack_code.specs.declared.shape.Home.TheVariants as home
use Rattle.stack_code.specs.declared.uses.Reserved.{Reserved}
use Rattle.stack_code.specs.inner.Reserve.{slots_of, Adds, SameSlots, row_of, SortedTo}
use Rattle.graph_ranks.proofs.Places.{set_length}

-- the same place, or another
pub equal_or_not : (i k : ℕ) → (i ≡ k) ⊎ (i ≡ k → ⊥)
equal_or_not i k = by (nat_eq i k) refl
  where
    by : (b : Bool) → nat_eq i k ≡ b → (i ≡ k) ⊎ (i ≡ k → ⊥)
    by true e = inl (grind (arith, nat_tests))
    by false e = inr (λ h. grind (arith, nat_tests))

row_here : (rows : List (List ℕ)) (i : ℕ) (v : List ℕ) → i < length rows → row_of (slice_set rows i v) i ≡ v
row_here [] i v lt = absurd (omega arith)
row_here (row ∷ rows) zero v lt = refl
row_here (row ∷ rows) (suc i) v lt = row_here rows i v (omega arith)

row_other : (rows : List (List ℕ)) (i k : ℕ) (v : List ℕ) → (i ≡ k → ⊥) → row_of (slice_set rows i v) k ≡ row_of rows k
row_other [] i k v ne = refl
row_other (row ∷ rows) zero zero v ne = absurd (ne refl)
row_other (row ∷ rows) zero (suc k) v ne = refl
row_other (row ∷ rows) (suc i) zero v ne = refl
row_other (row ∷ rows) (suc i) (suc k) v ne = row_other rows i k v (λ e. ne (ap suc e))

pub row_read : (rows : List (List ℕ)) (i : ℕ) (row : List ℕ) → i < length rows → row ≡ get_or rows i row → row ≡ row_of rows i
row_read [] i row lt e = absurd (omega arith)
row_read (x ∷ rows) zero row lt e = e
row_read (x ∷ rows) (suc i) row lt e = row_read rows i row (omega arith) e

-- ---- one slot more

module _ (rows rows' : List (List ℕ)) (i slot : ℕ) (lt : i < length rows) (e : rows' ≡ slice_set rows i (row_of rows i ++ slot ∷ [])) where
  here : row_of rows' i ≡ row_of rows i ++ slot ∷ []
  here = ap (λ z. row_of z i) e ∙ row_here rows i (row_of rows i ++ slot ∷ []) lt

  other : (k : ℕ) → (i ≡ k → ⊥) → row_of rows' k ≡ row_of rows k
  other k ne = ap (λ z. row_of z k) e ∙ row_other rows i k (row_of rows i ++ slot ∷ []) ne

  pub kept_row : (k x : ℕ) → Contains (row_of rows k) x → Contains (row_of rows' k) x
  kept_row k x h = elim (equal_or_not i k) [
    | inl q ↦ subst (λ j. Contains (row_of rows' j) x) q (subst (λ row. Contains row x) (sym here)
        (Contains-append_left (row_of rows i) (slot ∷ []) x (subst (λ j. Contains (row_of rows j) x) (sym q) h)))
    | inr ne ↦ subst (λ row. Contains row x) (sym (other k ne)) h
  ]

  pub has_row : Contains (row_of rows' i) slot
  has_row = subst (λ row. Contains row slot) (sym here) (Contains-push (row_of rows i) slot)

  pub only_row : (k x : ℕ) → Contains (row_of rows' k) x → Contains (row_of rows k) x ⊎ ((k ≡ i) × (x ≡ slot))
  only_row k x h = elim (equal_or_not i k) [
    | inl q ↦ (elim (Contains-push_cases (row_of rows i) slot x (subst (λ row. Contains row x) here (subst (λ j. Contains (row_of rows' j) x) (sym q) h))) [
      | inl c ↦ inl (subst (λ j. Contains (row_of rows j) x) q c)
      | inr y ↦ inr (sym q, sym y)
    ])
    | inr ne ↦ inl (subst (λ row. Contains row x) (other k ne) h)
  ]

  pub long_row : length rows' ≡ length rows
  long_row = ap length e ∙ set_length rows i (row_of rows i ++ slot ∷ [])

abbrev Rows : Type 0
Rows = Vec (List ℕ) Global

module _ (functions asyncs functions' : Rows) (number slot : ℕ) (lt : number < length functions.items)
    (e : functions'.items ≡ slice_set functions.items number (row_of functions.items number ++ slot ∷ [])) where
  abbrev r : Reserved
  r = record { functions = functions; asyncs = asyncs }

  abbrev r' : Reserved
  r' = record { functions = functions'; asyncs = asyncs }

  kept_f : (h : Home) (x : ℕ) → Contains (slots_of r h) x → Contains (slots_of r' h) x
  kept_f (home.Function k) x c = kept_row functions.items functions'.items number slot lt e k x c
  kept_f (home.Async at) x c = c

  only_f : (h : Home) (x : ℕ) → Contains (slots_of r' h) x → Contains (slots_of r h) x ⊎ ((h ≡ home.Function number) × (x ≡ slot))
  only_f (home.Function k) x c = elim (only_row functions.items functions'.items number slot lt e k x c) [ inl d ↦ inl d | inr d ↦ inr (ap (λ z. home.Function z) d.0, d.1) ]
  only_f (home.Async at) x c = inl c

  adds_function : Adds r r' (home.Function number) slot
  adds_function = record {
    kept = kept_f;
    has = has_row functions.items functions'.items number slot lt e;
    only = only_f;
    functions = long_row functions.items functions'.items number slot lt e;
    asyncs = refl;
  }

module _ (functions asyncs asyncs' : Rows) (at slot : ℕ) (lt : at < length asyncs.items) (e : asyncs'.items ≡ slice_set asyncs.items at (row_of asyncs.items at ++ slot ∷ [])) where
  abbrev q : Reserved
  q = record { functions = functions; asyncs = asyncs }

  abbrev q' : Reserved
  q' = record { functions = functions; asyncs = asyncs' }

  kept_a : (h : Home) (x : ℕ) → Contains (slots_of q h) x → Contains (slots_of q' h) x
  kept_a (home.Function k) x c = c
  kept_a (home.Async k) x c = kept_row asyncs.items asyncs'.items at slot lt e k x c

  only_a : (h : Home) (x : ℕ) → Contains (slots_of q' h) x → Contains (slots_of q h) x ⊎ ((h ≡ home.Async at) × (x ≡ slot))
  only_a (home.Function k) x c = inl c
  only_a (home.Async k) x c = elim (only_row asyncs.items asyncs'.items at slot lt e k x c) [ inl d ↦ inl d | inr d ↦ inr (ap (λ z. home.Async z) d.0, d.1) ]

  adds_async : Adds q q' (home.Async at) slot
  adds_async = record {
    kept = kept_a;
    has = has_row asyncs.items asyncs'.items at slot lt e;
    only = only_a;
    functions = refl;
    asyncs = long_row asyncs.items asyncs'.items at slot lt e;
  }

pub add_function : (r : Reserved) (functions' : Rows) (h : Home) (number slot : ℕ) (o : Result Unit NoMemory) → h ≡ home.Function number → number < length r.functions.items
    → OnOk o (functions'.items ≡ slice_set r.functions.items number (row_of r.functions.items number ++ slot ∷ [])) → OnOk o (Adds r (record { functions = functions'; asyncs = r.asyncs }) h slot)
add_function r functions' h number slot (Ok x) is lt e = subst (λ z. Adds r (record { functions = functions'; asyncs = r.asyncs }) z slot) (sym is)
    (adds_function r.functions r.asyncs functions' number slot lt e)
add_function r functions' h number slot (Err x) is lt e = e

pub add_async : (r : Reserved) (asyncs' : Rows) (h : Home) (at slot : ℕ) (o : Result Unit NoMemory) → h ≡ home.Async at → at < length r.asyncs.items
    → OnOk o (asyncs'.items ≡ slice_set r.asyncs.items at (row_of r.asyncs.items at ++ slot ∷ [])) → OnOk o (Adds r (record { functions = r.functions; asyncs = asyncs' }) h slot)
add_async r asyncs' h at slot (Ok x) is lt e = subst (λ z. Adds r (record { functions = r.functions; asyncs = asyncs' }) z slot) (sym is) (adds_async r.functions r.asyncs asyncs' at slot lt e)
add_async r asyncs' h at slot (Err x) is lt e = e

-- ---- in order

module _ (rows0 rows : List (List ℕ)) (at : ℕ) (middle row row' : List ℕ) (s : SortedTo rows0 rows at) (lt : at < length rows) (e : row ≡ row_of rows at) (p : IsPermutation row row')
    (n : IsNonDecreasing row') where
  abbrev middles : List (List ℕ)
  middles = slice_set rows at middle

  abbrev rows' : List (List ℕ)
  rows' = slice_set middles at row'

  here' : row_of rows' at ≡ row'
  here' = let l : length middles ≡ length rows = set_length rows at middle in row_here middles at row' (omega arith)

  other' : (k : ℕ) → (at ≡ k → ⊥) → row_of rows' k ≡ row_of rows k
  other' k ne = row_other middles at k row' ne ∙ row_other rows at k middle ne

  same_here : SameSlots (row_of rows0 at) (row_of rows' at)
  same_here x = (
    (λ c. subst (λ z. Contains z x) (sym here') (Contains-permutation row row' x p (subst (λ z. Contains z x) (sym e) ((s.same at x).0 c)))),
    (λ c. (s.same at x).1 (subst (λ z. Contains z x) e (Contains-permutation row' row x (IsPermutation-sym row row' p) (subst (λ z. Contains z x) here' c)))),
  )

  same_all : (k : ℕ) → SameSlots (row_of rows0 k) (row_of rows' k)
  same_all k = elim (equal_or_not at k) [
    | inl q ↦ subst (λ j. SameSlots (row_of rows0 j) (row_of rows' j)) q same_here
    | inr ne ↦ subst (SameSlots (row_of rows0 k)) (sym (other' k ne)) (s.same k)
  ]

  sorted_all : (k : ℕ) → k < at + 1 → IsNonDecreasing (row_of rows' k)
  sorted_all k below = elim (equal_or_not at k) [
    | inl q ↦ subst (λ j. IsNonDecreasing (row_of rows' j)) q (subst IsNonDecreasing (sym here') n)
    | inr ne ↦ subst IsNonDecreasing (sym (other' k ne)) (s.sorted k (omega (arith, ne)))
  ]

  pub sorted_more : SortedTo rows0 rows' (at + 1)
  sorted_more = record {
    long = set_length middles at row' ∙ (set_length rows at middle ∙ s.long);
    same = same_all;
    sorted = sorted_all;
  }

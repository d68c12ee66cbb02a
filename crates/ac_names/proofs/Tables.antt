-- A table is a set of keys beside a list of meanings, of one length: where it finds a name, whether it has one, and what it is after one
-- declaration more or after a cut. Each is by recursion on both lists; a search by a place is turned into the place by the laws of std.
use Rattle.std.proofs.Common.{◌≡◌, ℕ, zero, suc, ◌+◌, ◌≤◌, Bool, true, false, cond, not, List, [], ◌∷◌, ◌++◌, length, take, slice_get, Some, None, is_some, refl, sym, ap, ◌∙◌, arith}
use Rattle.std.specs.List.{list_any, position, position_or_len}
use Rattle.std.specs.Cmp.Lexicographic.{pointwise}
use Rattle.std.proofs.lemmas.Cmp.{nat_list_eq_equiv}
use Rattle.std.specs.Prelude.{nat_eq, nat_lt}
use Rattle.std.specs.Global.{Vec}
use Rattle.indexmap.specs.IndexSet.{insert_key}
use Rattle.ac_names.specs.declared.meaning.Meaning.{Meaning}
use Rattle.ac_names.specs.Scopes.{Declaration, in_scope, added}
use Rattle.std.proofs.lemmas.Option.{slice_get_past}
use Rattle.std.proofs.lemmas.Bool.Decides.{nat_tests}
use Rattle.ac_names.specs.Table.{beside}

-- whether a key is the name
abbrev pub is_key : List ℕ → Vec ℕ → Bool
is_key name k = pointwise nat_eq name k.items

next_get : {X : Type 0} (x : X) (xs : List X) (n : ℕ) → slice_get xs n ≡ slice_get (x ∷ xs) (1 + n)
next_get x xs n = ap (slice_get (x ∷ xs)) (let e : suc n ≡ 1 + n = omega arith in e)

-- one name before the others
first_or : (name : List ℕ) (k : Vec ℕ) (ks : List (Vec ℕ)) (m : Meaning) (ms : List Meaning) (b : Bool) → is_key name k ≡ b →
    in_scope name (beside ks ms) ≡ slice_get ms (position_or_len (is_key name) ks) →
    in_scope name (beside (k ∷ ks) (m ∷ ms)) ≡ slice_get (m ∷ ms) (position_or_len (is_key name) (k ∷ ks))
first_or name k ks m ms true e h = rw (sym (nat_list_eq_equiv.symm name k.items), e) refl
first_or name k ks m ms false e h = rw (sym (nat_list_eq_equiv.symm name k.items), e) (h ∙ next_get m ms (position_or_len (is_key name) ks))

pub in_table : (name : List ℕ) (ks : List (Vec ℕ)) (ms : List Meaning) → length ks ≡ length ms → in_scope name (beside ks ms) ≡ slice_get ms (position_or_len (is_key name) ks)
in_table name [] [] e = refl
in_table name [] (m ∷ ms) e = absurd (omega (arith, e))
in_table name (k ∷ ks) [] e = absurd (omega (arith, e))
in_table name (k ∷ ks) (m ∷ ms) e = first_or name k ks m ms (is_key name k) refl (in_table name ks ms (omega (arith, e)))

-- ---- by the place that a search gives

placed : (b : Bool) (n i : ℕ) → cond b (Some n) None ≡ Some i → n ≡ i
placed true n i e = cc
placed false n i e = cc

nowhere : (m n : ℕ) → cond (nat_lt m n) (Some m) None ≡ None → n ≤ m
nowhere m n e = by (nat_lt m n) refl e
  where
    by : (b : Bool) → nat_lt m n ≡ b → cond b (Some m) None ≡ None → n ≤ m
    by true h e = cc
    by false h e = grind (arith, nat_tests, h)

pub found_at : (name : List ℕ) (ks : List (Vec ℕ)) (ms : List Meaning) (i : ℕ) → length ks ≡ length ms → position (is_key name) ks ≡ Some i → in_scope name (beside ks ms) ≡ slice_get ms i
found_at name ks ms i e p = in_table name ks ms e ∙ ap (slice_get ms) (placed (nat_lt (position_or_len (is_key name) ks) (length ks)) (position_or_len (is_key name) ks) i p)

pub not_found : (name : List ℕ) (ks : List (Vec ℕ)) (ms : List Meaning) → length ks ≡ length ms → position (is_key name) ks ≡ None → in_scope name (beside ks ms) ≡ None
not_found name ks ms e p =
    let past = nowhere (position_or_len (is_key name) ks) (length ks) p in
    in_table name ks ms e ∙ slice_get_past ms (position_or_len (is_key name) ks) (omega (arith, e, past))

-- ---- whether the name is there, and what is there after one more

has_or : (name : List ℕ) (k : Vec ℕ) (ks : List (Vec ℕ)) (m : Meaning) (ms : List Meaning) (b : Bool) → is_key name k ≡ b →
    is_some (in_scope name (beside ks ms)) ≡ list_any (is_key name) ks →
    is_some (in_scope name (beside (k ∷ ks) (m ∷ ms))) ≡ list_any (is_key name) (k ∷ ks)
has_or name k ks m ms true e h = rw (sym (nat_list_eq_equiv.symm name k.items), e) refl
has_or name k ks m ms false e h = rw (sym (nat_list_eq_equiv.symm name k.items), e) h

pub has_name : (name : List ℕ) (ks : List (Vec ℕ)) (ms : List Meaning) → length ks ≡ length ms → is_some (in_scope name (beside ks ms)) ≡ list_any (is_key name) ks
has_name name [] ms e = refl
has_name name (k ∷ ks) [] e = absurd (omega (arith, e))
has_name name (k ∷ ks) (m ∷ ms) e = has_or name k ks m ms (is_key name k) refl (has_name name ks ms (omega (arith, e)))

more_beside : (k : Vec ℕ) (m : Meaning) (ks : List (Vec ℕ)) (ms : List Meaning) → length ks ≡ length ms
    → beside (ks ++ k ∷ []) (ms ++ m ∷ []) ≡ beside ks ms ++ record { name = k.items; meaning = m } ∷ []
more_beside k m [] [] e = refl
more_beside k m [] (n ∷ ms) e = absurd (omega (arith, e))
more_beside k m (j ∷ ks) [] e = absurd (omega (arith, e))
more_beside k m (j ∷ ks) (n ∷ ms) e = ap (λ (ds : List Declaration). record { name = j.items; meaning = n } ∷ ds) (more_beside k m ks ms (omega (arith, e)))

-- the table after a name was put, or was there
pub put_new : (k : Vec ℕ) (m : Meaning) (ks new : List (Vec ℕ)) (ms : List Meaning) → length ks ≡ length ms → list_any (is_key k.items) ks ≡ false →
    new ≡ insert_key (λ (x y : Vec ℕ). is_key x.items y) ks k → beside new (ms ++ m ∷ []) ≡ added k.items m (beside ks ms)
put_new k m ks new ms e none is =
    let has = has_name k.items ks ms e in
    rw (is, none, has, none) (more_beside k m ks ms e)

pub put_known : (k : Vec ℕ) (m : Meaning) (ks new : List (Vec ℕ)) (ms : List Meaning) → length ks ≡ length ms → list_any (is_key k.items) ks ≡ true →
    new ≡ insert_key (λ (x y : Vec ℕ). is_key x.items y) ks k → beside new ms ≡ added k.items m (beside ks ms)
put_known k m ks new ms e there is =
    let has = has_name k.items ks ms e in
    rw (is, there, has, there) refl

turned : (b a : Bool) → b ≡ not a → b ≡ true → a ≡ false
turned b true e h = cc
turned b false e h = refl

turned_back : (b a : Bool) → b ≡ not a → b ≡ false → a ≡ true
turned_back b true e h = refl
turned_back b false e h = cc

-- what is known of a table into which a key was put
module _ (name : List ℕ) (k : Vec ℕ) (ks new : List (Vec ℕ)) (ms : List Meaning) (old : List Declaration) (b : Bool) where
  pub was_new : beside ks ms ≡ old → k.items ≡ name → length ks ≡ length ms → b ≡ not (list_any (is_key k.items) ks) → b ≡ not (is_some (in_scope name old))
  was_new view same len added =
      added ∙ ap not (sym (has_name k.items ks ms len)) ∙ ap (λ (n : List ℕ). not (is_some (in_scope n (beside ks ms)))) same ∙ ap (λ (ds : List Declaration). not (is_some (in_scope name ds))) view

  pub put : (m : Meaning) (ms2 ms3 : List Meaning) → beside ks ms ≡ old → k.items ≡ name → length ks ≡ length ms → b ≡ not (list_any (is_key k.items) ks) →
      b ≡ true → new ≡ insert_key (λ (x y : Vec ℕ). is_key x.items y) ks k → ms2 ≡ ms → ms3 ≡ ms2 ++ m ∷ [] → beside new ms3 ≡ added name m old
  put m ms2 ms3 view same len was t keys kept pushed =
      ap (beside new) (pushed ∙ ap (λ (l : List Meaning). l ++ m ∷ []) kept) ∙ put_new k m ks new ms len (turned b (list_any (is_key k.items) ks) was t) keys
      ∙ ap (λ (n : List ℕ). added n m (beside ks ms)) same ∙ ap (added name m) view

  pub left : (m : Meaning) (ms2 : List Meaning) → beside ks ms ≡ old → k.items ≡ name → length ks ≡ length ms → b ≡ not (list_any (is_key k.items) ks) →
      b ≡ false → new ≡ insert_key (λ (x y : Vec ℕ). is_key x.items y) ks k → ms2 ≡ ms → beside new ms2 ≡ added name m old
  left m ms2 view same len was f keys kept =
      ap (beside new) kept ∙ put_known k m ks new ms len (turned_back b (list_any (is_key k.items) ks) was f) keys
      ∙ ap (λ (n : List ℕ). added n m (beside ks ms)) same ∙ ap (added name m) view

-- ---- a table that is cut

pub as_long : (ks : List (Vec ℕ)) (ms : List Meaning) → length ks ≡ length ms → length (beside ks ms) ≡ length ms
as_long [] ms e = e
as_long (k ∷ ks) [] e = absurd (omega (arith, e))
as_long (k ∷ ks) (m ∷ ms) e = let h = as_long ks ms (omega (arith, e)) in omega (arith, h)

pub beside_cut : (n : ℕ) (ks : List (Vec ℕ)) (ms : List Meaning) → length ks ≡ length ms → beside (take n ks) (take n ms) ≡ take n (beside ks ms)
beside_cut zero ks ms e = refl
beside_cut (suc n) [] ms e = refl
beside_cut (suc n) (k ∷ ks) [] e = absurd (omega (arith, e))
beside_cut (suc n) (k ∷ ks) (m ∷ ms) e = ap (λ (ds : List Declaration). record { name = k.items; meaning = m } ∷ ds) (beside_cut n ks ms (omega (arith, e)))

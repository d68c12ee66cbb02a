-- The rows of functions say which cores reach them (`rows_are`). A row is read over the cores: the invariant is what it says of those below a
-- number (`Below`), and a core whose flag is set makes none one, and one several (`one_core`).
-- There are such rows, since the search may be run to its end (`run`), and no others, since two that say so are equal case by case.
use Rattle.std.proofs.Common.{◌≡◌, ℕ, zero, suc, ◌+◌, ◌<◌, ◌≤◌, ◌⊎◌, inl, inr, Bool, true, false, List, [], ◌∷◌, ◌++◌, length, slice_get, drop, Option, None, Some, refl, sym, ap, ◌∙◌, subst, arith}
use Rattle.std.proofs.lemmas.List.{drop_all}
use Rattle.ac_reach.specs.declared.reached.Reached.{Reached}
use Rattle.ac_reach.specs.declared.reached.Reached.TheVariants as r
use Rattle.ac_reach.specs.Reached.{ReachedFrom, is_entry, is_called, entry_in, Reaches, IsReachedBy, AreRows, AreFlags, AreAll}
use Rattle.ac_reach.specs.inner.Search.{Finding, nothing_found, with_entry, with_calls, joined, joined_if, row_from, rows_from}
use Rattle.ac_reach.proofs.Searches.{IsSearch, IsBegun, search_step, search_over, search_begins, search_ends, begun_more, get_within}

-- ---- a table that is whole

append_nothing : {A : Type 0} (xs : List A) → xs ++ [] ≡ xs
append_nothing [] = refl
append_nothing (x ∷ xs) = ap (λ ys. x ∷ ys) (append_nothing xs)

pub finished : (calls : List (List ℕ)) (entries : List (Option ℕ)) (table : List (List Bool)) (i : ℕ) → length entries ≤ i →
    ((rest : List (List Bool)) → AreAll calls (drop i entries) rest → AreAll calls entries (table ++ rest)) → AreAll calls entries table
finished calls entries table i le h = subst (AreAll calls entries) (append_nothing table) (h [] (subst (λ xs. AreAll calls xs []) (sym (drop_all i entries le)) tt))

-- ---- a row

none_reaches : (calls : List (List ℕ)) (f : ℕ) → ReachedFrom calls None f → ⊥
none_reaches calls f (is_entry g e) = cc
none_reaches calls f (is_called c g h k) = none_reaches calls c h

module _ (calls : List (List ℕ)) (entries : List (Option ℕ)) (f : ℕ) where
  abbrev Does : ℕ → Type 0
  Does core = Reaches calls entries core f

  record Two : Type 0 where
    one : ℕ
    other : ℕ
    differ : one ≡ other → ⊥
    one_does : Does one
    other_does : Does other

  record One (k core : ℕ) : Type 0 where
    within : core < k
    does : Does core
    alone : (c : ℕ) → c < k → Does c → c ≡ core

  -- what a row says of the cores below a number
  abbrev Below : ℕ → Reached → Type 0
  Below k r.ByNone = (c : ℕ) → c < k → Does c → ⊥
  Below k (r.ByOne core) = One k core
  Below k r.BySeveral = Two

  below_or : (c k : ℕ) → c < k + 1 → (c < k) ⊎ (c ≡ k)
  below_or c k lt = grind arith

  with_one : (k : ℕ) (row : Reached) → Does k → Below k row → Below (k + 1) (joined row k)
  with_one k r.ByNone d h = record { within = omega arith; does = d; alone = λ c lt e. by c (below_or c k lt) e } where
    by : (c : ℕ) → (c < k) ⊎ (c ≡ k) → Does c → c ≡ k
    by c (inl lt) e = absurd (h c lt e)
    by c (inr same) e = same
  with_one k (r.ByOne core) d h = record { one = core; other = k; differ = λ e. let lt = h.within in absurd (omega (arith, lt, e)); one_does = h.does; other_does = d }
  with_one k r.BySeveral d h = h

  without : (k : ℕ) (row : Reached) → (Does k → ⊥) → Below k row → Below (k + 1) row
  without k r.ByNone d h = λ c lt e. by c (below_or c k lt) e where
    by : (c : ℕ) → (c < k) ⊎ (c ≡ k) → Does c → ⊥
    by c (inl lt) e = h c lt e
    by c (inr same) e = d (subst Does same e)
  without k (r.ByOne core) d h = record { within = let lt = h.within in omega (arith, lt); does = h.does; alone = λ c lt e. by c (below_or c k lt) e } where
    by : (c : ℕ) → (c < k) ⊎ (c ≡ k) → Does c → c ≡ core
    by c (inl lt) e = h.alone c lt e
    by c (inr same) e = absurd (d (subst Does same e))
  without k r.BySeveral d h = h

  module _ (inside : f < length calls) where
    one_core : (k : ℕ) (row : Reached) (entry : Option ℕ) (flags : List Bool) → slice_get entries k ≡ Some entry → AreFlags calls entry flags → Below k row
        → Below (k + 1) (joined_if (slice_get flags f) k row)
    one_core k row entry flags e a h = by (slice_get flags f) refl where
      to_k : ReachedFrom calls entry f → Does k
      to_k d = subst (λ o. ReachedFrom calls (entry_in o) f) (sym e) d

      from_k : Does k → ReachedFrom calls entry f
      from_k d = subst (λ o. ReachedFrom calls (entry_in o) f) e d

      by : (o : Option Bool) → slice_get flags f ≡ o → Below (k + 1) (joined_if o k row)
      by (Some true) q = with_one k row (to_k (a.sound f q)) h
      by (Some false) q = without k row (λ d. let p = a.whole f inside (from_k d) in cc) h
      by None q = without k row (λ d. let p = a.whole f inside (from_k d) in cc) h

    -- the rest of the entries from a number on
    abbrev Rest : ℕ → List (Option ℕ) → Type 0
    Rest k es = (i : ℕ) → slice_get entries (i + k) ≡ slice_get es i

    row_told : (k : ℕ) (row : Reached) (es : List (Option ℕ)) (table : List (List Bool)) → Rest k es → AreAll calls es table → Below k row → Below (length es + k) (row_from f k row table)
    row_told k row [] [] rest a h = let same : k ≡ 0 + k = omega arith in subst (λ n. Below n row) same h
    row_told k row [] (flags ∷ table) rest a h = absurd a
    row_told k row (e ∷ es) [] rest a h = absurd a
    row_told k row (e ∷ es) (flags ∷ table) rest a h =
        let begin : k ≡ 0 + k = omega arith in
        let next = one_core k row e flags (ap (slice_get entries) begin ∙ rest 0) a.0 h in
        let more = row_told (k + 1) (joined_if (slice_get flags f) k row) es table (λ i. let same : i + (k + 1) ≡ suc i + k = omega arith in ap (slice_get entries) same ∙ rest (suc i)) a.1 next in
        let same : length es + (k + 1) ≡ length (e ∷ es) + k = omega arith in
        subst (λ n. Below n (row_from f (k + 1) (joined_if (slice_get flags f) k row) table)) same more

    past_none : {A : Type 0} (xs : List A) (i : ℕ) → length xs ≤ i → slice_get xs i ≡ None
    past_none [] i le = refl
    past_none (x ∷ xs) zero le = absurd (omega (arith, le))
    past_none (x ∷ xs) (suc i) le = past_none xs i (omega (arith, le))

    whole_row : (table : List (List Bool)) → AreAll calls entries table → Below (length entries) (row_from f 0 r.ByNone table)
    whole_row table a =
        let same : length entries + 0 ≡ length entries = omega arith in
        subst (λ n. Below n (row_from f 0 r.ByNone table)) same (row_told 0 r.ByNone entries table (λ i. let e : i + 0 ≡ i = omega arith in ap (slice_get entries) e) a
        (λ c lt d. absurd (omega (arith, lt))))

    core_within : (c : ℕ) → Does c → c < length entries
    core_within c d = by (slice_get entries c) refl where
      by : (o : Option (Option ℕ)) → slice_get entries c ≡ o → c < length entries
      by None e = absurd (none_reaches calls f (subst (λ o. ReachedFrom calls (entry_in o) f) e d))
      by (Some x) e = get_within entries c x e

rows_length : (f : ℕ) (calls : List (List ℕ)) (table : List (List Bool)) → length (rows_from f calls table) ≡ length calls
rows_length f [] table = refl
rows_length f (c ∷ calls) table = let h = rows_length (f + 1) calls table in omega (arith, h)

row_at : (f i : ℕ) (calls : List (List ℕ)) (table : List (List Bool)) (row : Reached) → slice_get (rows_from f calls table) i ≡ Some row → row ≡ row_from (i + f) 0 r.ByNone table
row_at f i [] table row e = cc
row_at f zero (c ∷ calls) table row e = let same : row_from f 0 r.ByNone table ≡ row = cc in let z : f ≡ 0 + f = omega arith in sym same ∙ ap (λ n. row_from n 0 r.ByNone table) z
row_at f (suc i) (c ∷ calls) table row e = let h = row_at (f + 1) i calls table row e in let z : i + (f + 1) ≡ suc i + f = omega arith in h ∙ ap (λ n. row_from n 0 r.ByNone table) z

module _ (calls : List (List ℕ)) (entries : List (Option ℕ)) where
  reached_row : (f : ℕ) (row : Reached) → f < length calls → Below calls entries f (length entries) row → IsReachedBy calls entries f row
  reached_row f r.ByNone inside h = λ c d. h c (core_within calls entries f inside c d) d
  reached_row f (r.ByOne k) inside h = (h.does, λ c d. h.alone c (core_within calls entries f inside c d) d)
  reached_row f r.BySeveral inside h = record { one = h.one; other = h.other; differ = h.differ; one_does = h.one_does; other_does = h.other_does }

  pub rows_told : (table : List (List Bool)) → AreAll calls entries table → AreRows calls entries (rows_from 0 calls table)
  rows_told table a = record { count = rows_length 0 calls table; each = λ f row e. by f row e } where
    by : (f : ℕ) (row : Reached) → slice_get (rows_from 0 calls table) f ≡ Some row → IsReachedBy calls entries f row
    by f row e =
        let lt = get_within (rows_from 0 calls table) f row e in
        let n = rows_length 0 calls table in
        let inside : f < length calls = omega (arith, lt, n) in
        let z : f + 0 ≡ f = omega arith in
        let is : row ≡ row_from f 0 r.ByNone table = row_at 0 f calls table row e ∙ ap (λ k. row_from k 0 r.ByNone table) z in
        reached_row f row inside (subst (Below calls entries f (length entries)) (sym is) (whole_row calls entries f inside table a))

  pub rows_are : (flags list : List (List Bool)) (rows : List Reached) → list ≡ flags → AreAll calls entries flags → rows ≡ rows_from 0 calls list → AreRows calls entries rows
  rows_are flags list rows e a r = subst (AreRows calls entries) (sym (r ∙ ap (rows_from 0 calls) e)) (rows_told flags a)

-- ---- as many rows of flags as entries

pub all_length : (calls : List (List ℕ)) (es : List (Option ℕ)) (table : List (List Bool)) → AreAll calls es table → length table ≡ length es
all_length calls [] [] a = refl
all_length calls [] (x ∷ table) a = absurd a
all_length calls (e ∷ es) [] a = absurd a
all_length calls (e ∷ es) (x ∷ table) a = let h = all_length calls es table a.1 in omega (arith, h)

pub few_rows : (calls : List (List ℕ)) (entries : List (Option ℕ)) (flags list : List (List Bool)) → AreAll calls entries flags → list ≡ flags → length entries ≤ 16 → length list ≤ 16
few_rows calls entries flags list a e few =
    let h = all_length calls entries flags a in
    let k : length list ≡ length flags = ap length e in
    omega (arith, h, k, few)

pub flags_at : (calls : List (List ℕ)) (es : List (Option ℕ)) (table : List (List Bool)) (k : ℕ) (flags : List Bool) → AreAll calls es table → slice_get table k ≡ Some flags
    → AreFlags calls (entry_in (slice_get es k)) flags
flags_at calls [] [] k flags a e = cc
flags_at calls [] (x ∷ table) k flags a e = absurd a
flags_at calls (y ∷ es) [] k flags a e = absurd a
flags_at calls (y ∷ es) (x ∷ table) zero flags a e = let same : x ≡ flags = cc in subst (AreFlags calls y) same a.0
flags_at calls (y ∷ es) (x ∷ table) (suc k) flags a e = flags_at calls es table k flags a.1 e

-- ---- there are such rows, and no others

record Flags (calls : List (List ℕ)) (entry : Option ℕ) : Type 0 where
  flags : List Bool
  are : AreFlags calls entry flags

run : (calls : List (List ℕ)) (entry : Option ℕ) (fuel next : ℕ) (s : Finding) → length calls ≤ next + fuel → IsSearch calls entry next s → IsBegun calls entry s → Flags calls entry
run calls entry zero next s le h b = record { flags = s.flags; are = search_ends calls entry next s h b (omega (arith, le)) }
run calls entry (suc fuel) next s le h b =
    by (slice_get s.found next) refl (λ f e. run calls entry fuel (next + 1) (with_calls calls f s) (omega (arith, le)) (search_step calls entry next s f h e) (begun_more calls entry s f b))
  where
    by : (o : Option ℕ) → slice_get s.found next ≡ o → ((f : ℕ) → slice_get s.found next ≡ Some f → Flags calls entry) → Flags calls entry
    by None e k = record { flags = s.flags; are = search_over calls entry next s h b e }
    by (Some f) e k = k f e

flags_there : (calls : List (List ℕ)) (entry : Option ℕ) → Flags calls entry
flags_there calls entry = let b = search_begins calls entry in run calls entry (length calls) 0 (with_entry entry (nothing_found calls)) (omega arith) b.0 b.1

record Table (calls : List (List ℕ)) (entries : List (Option ℕ)) : Type 0 where
  table : List (List Bool)
  are : AreAll calls entries table

table_there : (calls : List (List ℕ)) (entries : List (Option ℕ)) → Table calls entries
table_there calls [] = record { table = []; are = tt }
table_there calls (e ∷ es) = let f = flags_there calls e in let t = table_there calls es in record { table = f.flags ∷ t.table; are = (f.are, t.are) }

pub record Rows (calls : List (List ℕ)) (entries : List (Option ℕ)) : Type 0 where
  pub rows : List Reached
  pub are : AreRows calls entries rows

pub rows_there : (calls : List (List ℕ)) (entries : List (Option ℕ)) → Rows calls entries
rows_there calls entries = let t = table_there calls entries in record { rows = rows_from 0 calls t.table; are = rows_told calls entries t.table t.are }

module _ (calls : List (List ℕ)) (entries : List (Option ℕ)) where
  same_row : (f : ℕ) (a b : Reached) → IsReachedBy calls entries f a → IsReachedBy calls entries f b → a ≡ b
  same_row f r.ByNone r.ByNone h k = refl
  same_row f r.ByNone (r.ByOne c) h k = absurd (h c k.0)
  same_row f r.ByNone r.BySeveral h k = absurd (h k.one k.one_does)
  same_row f (r.ByOne c) r.ByNone h k = absurd (k c h.0)
  same_row f (r.ByOne c) (r.ByOne d) h k = ap (λ n. r.ByOne n) (k.1 c h.0)
  same_row f (r.ByOne c) r.BySeveral h k = absurd (k.differ (h.1 k.one k.one_does ∙ sym (h.1 k.other k.other_does)))
  same_row f r.BySeveral r.ByNone h k = absurd (k h.one h.one_does)
  same_row f r.BySeveral (r.ByOne d) h k = absurd (h.differ (k.1 h.one h.one_does ∙ sym (k.1 h.other h.other_does)))
  same_row f r.BySeveral r.BySeveral h k = refl

same_lists : {A : Type 0} (xs ys : List A) → length xs ≡ length ys → ((i : ℕ) (x y : A) → slice_get xs i ≡ Some x → slice_get ys i ≡ Some y → x ≡ y) → xs ≡ ys
same_lists [] [] e h = refl
same_lists [] (y ∷ ys) e h = absurd (omega (arith, e))
same_lists (x ∷ xs) [] e h = absurd (omega (arith, e))
same_lists (x ∷ xs) (y ∷ ys) e h = ap (λ z. z ∷ xs) (h 0 x y refl refl) ∙ ap (λ zs. y ∷ zs) (same_lists xs ys (omega (arith, e)) (λ i a b p q. h (suc i) a b p q))

pub one_table : (calls : List (List ℕ)) (entries : List (Option ℕ)) (a b : List Reached) → AreRows calls entries a → AreRows calls entries b → a ≡ b
one_table calls entries a b h k = same_lists a b (h.count ∙ sym k.count) (λ f x y p q. same_row calls entries f x y (h.each f x p) (k.each f y q))

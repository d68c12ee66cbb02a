-- A search finds what is reached, and all of it: the invariant of `reached_from` (`IsSearch`, `IsBegun`), that a function and its calls keep it, and
-- that the flags are right at the end. All is found, by induction on how a function is reached: its caller is flagged, so it stands in the list,
-- and those in the list have their calls flagged. There are as many in the list as flags that are set, so no more than functions.
use Rattle.std.proofs.Common.{◌≡◌, ℕ, zero, suc, ◌+◌, ◌<◌, ◌≤◌, ◌⊎◌, inl, inr, Bool, true, false, List, [], ◌∷◌, ◌++◌, length}
use Rattle.std.proofs.Common.{slice_get, slice_set, Option, None, Some, refl, sym, ap, ◌∙◌, subst, arith, length-append}
use Rattle.ac_reach.specs.Reached.{IsCalled, ReachedFrom, is_entry, is_called, IsAmong, here_is, later_is, AreFlags}
use Rattle.ac_reach.specs.inner.Search.{Finding, no_flags, nothing_found, found_by, with_found, with_all, with_entry, row_of, with_calls}

-- ---- lists

set_length : (xs : List Bool) (i : ℕ) (v : Bool) → length (slice_set xs i v) ≡ length xs
set_length [] i v = refl
set_length (x ∷ xs) zero v = refl
set_length (x ∷ xs) (suc i) v = let h = set_length xs i v in omega (arith, h)

set_here : (xs : List Bool) (i : ℕ) (v b : Bool) → slice_get xs i ≡ Some b → slice_get (slice_set xs i v) i ≡ Some v
set_here [] i v b e = cc
set_here (x ∷ xs) zero v b e = refl
set_here (x ∷ xs) (suc i) v b e = set_here xs i v b e

set_cases : (xs : List Bool) (i j : ℕ) (v y : Bool) → slice_get (slice_set xs i v) j ≡ Some y → (j ≡ i) ⊎ (slice_get xs j ≡ Some y)
set_cases [] i j v y e = inr e
set_cases (x ∷ xs) zero zero v y e = inl refl
set_cases (x ∷ xs) zero (suc j) v y e = inr e
set_cases (x ∷ xs) (suc i) zero v y e = inr e
set_cases (x ∷ xs) (suc i) (suc j) v y e = by (set_cases xs i j v y e) where
  by : (j ≡ i) ⊎ (slice_get xs j ≡ Some y) → (suc j ≡ suc i) ⊎ (slice_get xs j ≡ Some y)
  by (inl h) = inl (ap suc h)
  by (inr h) = inr h

stays_true : (xs : List Bool) (i j : ℕ) → slice_get xs j ≡ Some true → slice_get (slice_set xs i true) j ≡ Some true
stays_true [] i j e = cc
stays_true (x ∷ xs) zero zero e = refl
stays_true (x ∷ xs) zero (suc j) e = e
stays_true (x ∷ xs) (suc i) zero e = e
stays_true (x ∷ xs) (suc i) (suc j) e = stays_true xs i j e

abbrev one_if : Bool → ℕ
one_if true = 1
one_if false = 0

abbrev pub trues : List Bool → ℕ
trues [] = 0
trues (x ∷ xs) = one_if x + trues xs

one_if_few : (x : Bool) → one_if x ≤ 1
one_if_few true = omega arith
one_if_few false = omega arith

pub trues_few : (xs : List Bool) → trues xs ≤ length xs
trues_few [] = omega arith
trues_few (x ∷ xs) = let h = trues_few xs in let k = one_if_few x in omega (arith, h, k)

trues_set : (xs : List Bool) (i : ℕ) → slice_get xs i ≡ Some false → trues (slice_set xs i true) ≡ 1 + trues xs
trues_set [] i e = cc
trues_set (x ∷ xs) zero e = let same : x ≡ false = cc in let h = ap one_if same in omega (arith, h)
trues_set (x ∷ xs) (suc i) e = let h = trues_set xs i e in omega (arith, h)

get_front : {A : Type 0} (xs ys : List A) (i : ℕ) (x : A) → slice_get xs i ≡ Some x → slice_get (xs ++ ys) i ≡ Some x
get_front [] ys i x e = cc
get_front (z ∷ xs) ys zero x e = e
get_front (z ∷ xs) ys (suc i) x e = get_front xs ys i x e

get_last : {A : Type 0} (xs : List A) (x : A) → slice_get (xs ++ x ∷ []) (length xs) ≡ Some x
get_last [] x = refl
get_last (z ∷ xs) x = get_last xs x

get_cases : {A : Type 0} (xs : List A) (x y : A) (i : ℕ) → slice_get (xs ++ x ∷ []) i ≡ Some y → (slice_get xs i ≡ Some y) ⊎ (x ≡ y)
get_cases [] x y zero e = let same : x ≡ y = cc in inr same
get_cases [] x y (suc i) e = cc
get_cases (z ∷ xs) x y zero e = inl e
get_cases (z ∷ xs) x y (suc i) e = get_cases xs x y i e

pub get_within : {A : Type 0} (xs : List A) (i : ℕ) (x : A) → slice_get xs i ≡ Some x → i < length xs
get_within [] i x e = cc
get_within (z ∷ xs) zero x e = omega arith
get_within (z ∷ xs) (suc i) x e = let h = get_within xs i x e in omega (arith, h)

pub get_past : {A : Type 0} (xs : List A) (i : ℕ) → slice_get xs i ≡ None → length xs ≤ i
get_past [] i e = omega arith
get_past (z ∷ xs) zero e = cc
get_past (z ∷ xs) (suc i) e = let h = get_past xs i e in omega (arith, h)

get_before : {A : Type 0} (xs : List A) (x y : A) (i : ℕ) → i < length xs → slice_get (xs ++ x ∷ []) i ≡ Some y → slice_get xs i ≡ Some y
get_before [] x y i lt e = absurd (omega (arith, lt))
get_before (z ∷ xs) x y zero lt e = e
get_before (z ∷ xs) x y (suc i) lt e = get_before xs x y i (omega (arith, lt)) e

same_some : {A : Type 0} (o : Option A) (x y : A) → o ≡ Some x → o ≡ Some y → x ≡ y
same_some o x y e f = cc

-- ---- one function more

pub record FoundAt (s : Finding) (function : ℕ) : Type 0 where
  pub place : ℕ
  pub is : slice_get s.found place ≡ Some function

module _ (calls : List (List ℕ)) (entry : Option ℕ) where
  -- what holds while those before a place of the list are done
  pub record IsSearch (next : ℕ) (s : Finding) : Type 0 where
    pub size : length s.flags ≡ length calls
    pub count : length s.found ≡ trues s.flags
    pub behind : next ≤ length s.found
    pub sound : (f : ℕ) → slice_get s.flags f ≡ Some true → ReachedFrom calls entry f
    pub flagged : (i f : ℕ) → slice_get s.found i ≡ Some f → slice_get s.flags f ≡ Some true
    pub listed : (f : ℕ) → slice_get s.flags f ≡ Some true → FoundAt s f
    pub done : (i f g : ℕ) → i < next → slice_get s.found i ≡ Some f → IsCalled calls f g → g < length calls → slice_get s.flags g ≡ Some true

  abbrev pub IsBegun : Finding → Type 0
  IsBegun s = (f : ℕ) → entry ≡ Some f → f < length calls → slice_get s.flags f ≡ Some true

  pub start : IsSearch 0 (nothing_found calls)
  start = record {
    size = none_length calls;
    count = sym (no_trues calls);
    behind = omega arith;
    sound = λ f e. absurd (none_true calls f e);
    flagged = λ i f e. cc;
    listed = λ f e. absurd (none_true calls f e);
    done = λ i f g lt e c l. absurd (omega (arith, lt));
  }
    where
      none_length : (cs : List (List ℕ)) → length (no_flags cs) ≡ length cs
      none_length [] = refl
      none_length (c ∷ cs) = let h = none_length cs in omega (arith, h)

      no_trues : (cs : List (List ℕ)) → trues (no_flags cs) ≡ 0
      no_trues [] = refl
      no_trues (c ∷ cs) = let h = no_trues cs in omega (arith, h)

      none_true : (cs : List (List ℕ)) (f : ℕ) → slice_get (no_flags cs) f ≡ Some true → ⊥
      none_true [] f e = cc
      none_true (c ∷ cs) zero e = cc
      none_true (c ∷ cs) (suc f) e = none_true cs f e

  new_one : (next : ℕ) (s : Finding) (g : ℕ) → ReachedFrom calls entry g → IsSearch next s → slice_get s.flags g ≡ Some false →
      IsSearch next (record { flags = slice_set s.flags g true; found = s.found ++ g ∷ [] })
  new_one next s g r h e = record {
    size = set_length s.flags g true ∙ h.size;
    count = let a = length-append s.found (g ∷ []) in let b = trues_set s.flags g e in let c = h.count in omega (arith, a, b, c);
    behind = let a = length-append s.found (g ∷ []) in let b = h.behind in omega (arith, a, b);
    sound = λ f x. sound_by f (set_cases s.flags g f true true x);
    flagged = λ i f x. flagged_by i f (get_cases s.found g f i x);
    listed = λ f x. listed_by f (set_cases s.flags g f true true x);
    done = λ i f k lt x c l. stays_true s.flags g k (h.done i f k lt (get_before s.found g f i (let b = h.behind in omega (arith, lt, b)) x) c l);
  }
    where
      sound_by : (f : ℕ) → (f ≡ g) ⊎ (slice_get s.flags f ≡ Some true) → ReachedFrom calls entry f
      sound_by f (inl q) = subst (ReachedFrom calls entry) (sym q) r
      sound_by f (inr q) = h.sound f q

      flagged_by : (i f : ℕ) → (slice_get s.found i ≡ Some f) ⊎ (g ≡ f) → slice_get (slice_set s.flags g true) f ≡ Some true
      flagged_by i f (inl q) = stays_true s.flags g f (h.flagged i f q)
      flagged_by i f (inr q) = subst (λ n. slice_get (slice_set s.flags g true) n ≡ Some true) q (set_here s.flags g true false e)

      listed_by : (f : ℕ) → (f ≡ g) ⊎ (slice_get s.flags f ≡ Some true) → FoundAt (record { flags = slice_set s.flags g true; found = s.found ++ g ∷ [] }) f
      listed_by f (inl q) = record { place = length s.found; is = get_last s.found g ∙ ap (λ n. Some n) (sym q) }
      listed_by f (inr q) = let a = h.listed f q in record { place = a.place; is = get_front s.found (g ∷ []) a.place f a.is }

  pub more : (next : ℕ) (s : Finding) (g : ℕ) → ReachedFrom calls entry g → IsSearch next s → IsSearch next (with_found g s)
  more next s g r h = by (slice_get s.flags g) refl where
    by : (o : Option Bool) → slice_get s.flags g ≡ o → IsSearch next (found_by o g s)
    by None e = h
    by (Some true) e = h
    by (Some false) e = new_one next s g r h e

  pub all_more : (next : ℕ) (s : Finding) (gs : List ℕ) → ((g : ℕ) → IsAmong g gs → ReachedFrom calls entry g) → IsSearch next s → IsSearch next (with_all gs s)
  all_more next s [] r h = h
  all_more next s (g ∷ gs) r h = all_more next (with_found g s) gs (λ k a. r k (later_is g gs a)) (more next s g (r g (here_is gs)) h)

-- ---- what stays

keeps_flag : (s : Finding) (g f : ℕ) → slice_get s.flags f ≡ Some true → slice_get (with_found g s).flags f ≡ Some true
keeps_flag s g f e = by (slice_get s.flags g) where
  by : (o : Option Bool) → slice_get (found_by o g s).flags f ≡ Some true
  by None = e
  by (Some true) = e
  by (Some false) = stays_true s.flags g f e

pub keeps_flags : (s : Finding) (gs : List ℕ) (f : ℕ) → slice_get s.flags f ≡ Some true → slice_get (with_all gs s).flags f ≡ Some true
keeps_flags s [] f e = e
keeps_flags s (g ∷ gs) f e = keeps_flags (with_found g s) gs f (keeps_flag s g f e)

keeps_place : (s : Finding) (g i f : ℕ) → slice_get s.found i ≡ Some f → slice_get (with_found g s).found i ≡ Some f
keeps_place s g i f e = by (slice_get s.flags g) where
  by : (o : Option Bool) → slice_get (found_by o g s).found i ≡ Some f
  by None = e
  by (Some true) = e
  by (Some false) = get_front s.found (g ∷ []) i f e

keeps_places : (s : Finding) (gs : List ℕ) (i f : ℕ) → slice_get s.found i ≡ Some f → slice_get (with_all gs s).found i ≡ Some f
keeps_places s [] i f e = e
keeps_places s (g ∷ gs) i f e = keeps_places (with_found g s) gs i f (keeps_place s g i f e)

keeps_size : (s : Finding) (g : ℕ) → length (with_found g s).flags ≡ length s.flags
keeps_size s g = by (slice_get s.flags g) where
  by : (o : Option Bool) → length (found_by o g s).flags ≡ length s.flags
  by None = refl
  by (Some true) = refl
  by (Some false) = set_length s.flags g true

pub now_found : (s : Finding) (g : ℕ) → g < length s.flags → slice_get (with_found g s).flags g ≡ Some true
now_found s g lt = by (slice_get s.flags g) refl where
  by : (o : Option Bool) → slice_get s.flags g ≡ o → slice_get (found_by o g s).flags g ≡ Some true
  by None e = let h = get_past s.flags g e in absurd (omega (arith, h, lt))
  by (Some true) e = e
  by (Some false) e = set_here s.flags g true false e

all_found : (g : ℕ) (s : Finding) (gs : List ℕ) → IsAmong g gs → g < length s.flags → slice_get (with_all gs s).flags g ≡ Some true
all_found g s gs (here_is ks) lt = keeps_flags (with_found g s) ks g (now_found s g lt)
all_found g s gs (later_is k ks a) lt = all_found g (with_found k s) ks a (let e = keeps_size s k in omega (arith, e, lt))

-- ---- the search

module _ (calls : List (List ℕ)) (entry : Option ℕ) where
  called_all : (f : ℕ) → ReachedFrom calls entry f → (g : ℕ) → IsAmong g (row_of (slice_get calls f)) → ReachedFrom calls entry g
  called_all f r g a = by (slice_get calls f) refl a where
    by : (o : Option (List ℕ)) → slice_get calls f ≡ o → IsAmong g (row_of o) → ReachedFrom calls entry g
    by None e b = elim b [ ]
    by (Some row) e b = is_called f g r (record { row = row; stands = e; among = b })

  among_row : (f g : ℕ) → IsCalled calls f g → IsAmong g (row_of (slice_get calls f))
  among_row f g c = subst (λ o. IsAmong g (row_of o)) (sym c.stands) c.among

  pub search_step : (next : ℕ) (s : Finding) (f : ℕ) → IsSearch calls entry next s → slice_get s.found next ≡ Some f → IsSearch calls entry (next + 1) (with_calls calls f s)
  search_step next s f h e = record {
    size = k.size;
    count = k.count;
    behind = let a = get_within (with_calls calls f s).found next f (keeps_places s (row_of (slice_get calls f)) next f e) in omega (arith, a);
    sound = k.sound;
    flagged = k.flagged;
    listed = k.listed;
    done = λ i x g lt q c l. done_by i x g (split i lt) q c l;
  }
    where
      k : IsSearch calls entry next (with_calls calls f s)
      k = all_more calls entry next s (row_of (slice_get calls f)) (called_all f (h.sound f (h.flagged next f e))) h

      split : (i : ℕ) → i < next + 1 → (i < next) ⊎ (i ≡ next)
      split i lt = grind arith

      done_by : (i x g : ℕ) → (i < next) ⊎ (i ≡ next) → slice_get (with_calls calls f s).found i ≡ Some x → IsCalled calls x g → g < length calls → slice_get (with_calls calls f s).flags g ≡ Some true
      done_by i x g (inl lt) q c l = k.done i x g lt q c l
      done_by i x g (inr same) q c l =
          let a = keeps_places s (row_of (slice_get calls f)) next f e in
          let b = same_some (slice_get (with_calls calls f s).found next) x f (ap (slice_get (with_calls calls f s).found) (sym same) ∙ q) a in
          all_found g s (row_of (slice_get calls f)) (among_row f g (subst (λ n. IsCalled calls n g) b c)) (let z = h.size in omega (arith, z, l))

  pub search_over : (next : ℕ) (s : Finding) → IsSearch calls entry next s → IsBegun calls entry s → slice_get s.found next ≡ None → AreFlags calls entry s.flags
  search_over next s h b e = record { count = h.size; sound = h.sound; whole = λ f lt r. whole_by f r lt } where
    whole_by : (f : ℕ) → ReachedFrom calls entry f → f < length calls → slice_get s.flags f ≡ Some true
    whole_by f (is_entry g q) lt = b f q lt
    whole_by f (is_called c g r k) lt =
        let inside = get_within calls c k.row k.stands in
        let at = h.listed c (whole_by c r inside) in
        let past = get_past s.found next e in
        let within = get_within s.found at.place c at.is in
        h.done at.place c f (omega (arith, past, within)) at.is k lt

  pub search_begins : IsSearch calls entry 0 (with_entry entry (nothing_found calls)) × IsBegun calls entry (with_entry entry (nothing_found calls))
  search_begins = by entry refl where
    by : (o : Option ℕ) → entry ≡ o → IsSearch calls entry 0 (with_entry o (nothing_found calls)) × IsBegun calls entry (with_entry o (nothing_found calls))
    by None e = (start calls entry, λ f q lt. cc)
    by (Some g) e =
        let st = start calls entry in (
          more calls entry 0 (nothing_found calls) g (is_entry g e) st,
          λ f q lt. let same = same_some entry g f e q in subst (λ n. slice_get (with_found g (nothing_found calls)).flags n ≡ Some true) same
              (now_found (nothing_found calls) g (let z = st.size in let y = ap (λ n. n < length calls) same in omega (arith, z, lt, same))),
        )

  pub few_found : (next : ℕ) (s : Finding) → IsSearch calls entry next s → length s.found ≤ length calls
  few_found next s h = let a = trues_few s.flags in let b = h.size in let c = h.count in omega (arith, a, b, c)

  pub begun_more : (s : Finding) (f : ℕ) → IsBegun calls entry s → IsBegun calls entry (with_calls calls f s)
  begun_more s f b g e lt = keeps_flags s (row_of (slice_get calls f)) g (b g e lt)

  -- no more are found than there are functions
  pub search_ends : (next : ℕ) (s : Finding) → IsSearch calls entry next s → IsBegun calls entry s → length calls ≤ next → AreFlags calls entry s.flags
  search_ends next s h b le = search_over next s h b (none_at s.found next (let a = few_found next s h in omega (arith, a, le))) where
    none_at : (xs : List ℕ) (i : ℕ) → length xs ≤ i → slice_get xs i ≡ None
    none_at [] i k = refl
    none_at (x ∷ xs) zero k = absurd (omega (arith, k))
    none_at (x ∷ xs) (suc i) k = none_at xs i (omega (arith, k))

  pub begins_at : (s0 s1 : Finding) → s0 ≡ nothing_found calls → s1 ≡ with_entry entry s0 → IsSearch calls entry 0 s1 × IsBegun calls entry s1
  begins_at s0 s1 e f = subst (λ s. IsSearch calls entry 0 s × IsBegun calls entry s) (sym (f ∙ ap (with_entry entry) e)) search_begins

  pub goes_on : (next : ℕ) (s s1 : Finding) (f : ℕ) → IsSearch calls entry next s × IsBegun calls entry s → Some f ≡ slice_get s.found next → s1 ≡ with_calls calls f s
      → IsSearch calls entry (next + 1) s1 × IsBegun calls entry s1
  goes_on next s s1 f h e g = subst (λ x. IsSearch calls entry (next + 1) x × IsBegun calls entry x) (sym g) (search_step next s f h.0 (sym e), begun_more s f h.1)

  pub over_at : (next : ℕ) (s : Finding) (flags : List Bool) → IsSearch calls entry next s × IsBegun calls entry s → None ≡ slice_get s.found next → flags ≡ s.flags → AreFlags calls entry flags
  over_at next s flags h e f = subst (AreFlags calls entry) (sym f) (search_over next s h.0 h.1 (sym e))

  pub ends_at : (next : ℕ) (s : Finding) (flags : List Bool) → IsSearch calls entry next s × IsBegun calls entry s → length calls ≤ next → flags ≡ s.flags → AreFlags calls entry flags
  ends_at next s flags h e f = subst (AreFlags calls entry) (sym f) (search_ends next s h.0 h.1 e)

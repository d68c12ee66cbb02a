-- What is left of all journals by party, and how the merged list rises: by stamp, then party.
-- All journals one behind another stand by party, then stamp (`Rows`). A stable sort by stamps makes of it a list that rises by stamp, then party (`lex_in_order`).
use Rattle.std.proofs.Common.{◌≡◌, ℕ, zero, suc, ◌+◌, ◌<◌, ◌≤◌, List, [], ◌∷◌, ◌++◌, Bool, true, false, cond, refl, ap, ◌∙◌, inl, inr, ◌⊎◌, arith, get_or}
use Rattle.std.specs.Prelude.{◌==◌, ◌&&◌, ◌||◌, nat_lt, nat_le}
use Rattle.std.specs.List.{filter, AllByRecursion}
use Rattle.std.proofs.lemmas.Bool.Decides.{nat_tests, leb_tells}
use Rattle.std.proofs.lemmas.List.{append-nil}
use Rattle.std.proofs.lemmas.List.Elements.{filter-append}
use Rattle.ac_base.specs.declared.entry.Event.{Event}
use Rattle.ac_base.specs.declared.entry.Entry.{Entry}
use Rattle.ac_base.specs.declared.entry.Stamped.{Stamped}
use Rattle.ac_base.specs.Stamps.{next_stamp}
use Rattle.ac_links.specs.Order.{placed, in_order, of_party, stamp_of, AllFrom, Rises}
use Rattle.ac_links.specs.Journals.{HasStamps}
use Rattle.ac_history.specs.Merged.{all_from, merged}
use Rattle.ac_history.specs.History.{is_later}
use Rattle.ac_history.specs.Agreement.{AllStamps}
use Rattle.ac_links.proofs.Sorting.{rises_in_order}

abbrev pub is_of_party : ℕ → Stamped → Bool
is_of_party p e = e.party == p

-- the entries rise by stamp, then party, from these on
abbrev pub IsRising : ℕ → ℕ → List Stamped → Type 0
IsRising stamp party [] = Unit {0}
IsRising stamp party (e ∷ es) = (is_later stamp party e ≡ true) × IsRising e.entry.stamp e.party es

eq_true : (m n : ℕ) → m ≡ n → (m == n) ≡ true
eq_true m n h = grind (arith, nat_tests)

less_not : (m n : ℕ) → m < n → (m == n) ≡ false
less_not m n h = grind (arith, nat_tests)

more_not : (m n : ℕ) → n < m → (m == n) ≡ false
more_not m n h = grind (arith, nat_tests)

filter_same : (p : ℕ) (es : List Entry) → filter (is_of_party p) (of_party p es) ≡ of_party p es
filter_same p [] = refl
filter_same p (e ∷ es) = let t = eq_true p p refl in rw t (ap (λ r. record { party = p; entry = e } ∷ r) (filter_same p es))

filter_other : (p q : ℕ) → (q == p) ≡ false → (es : List Entry) → filter (is_of_party p) (of_party q es) ≡ []
filter_other p q h [] = refl
filter_other p q h (e ∷ es) = rw h (filter_other p q h es)

filter_later : (p q : ℕ) → p < q → (js : List (List Entry)) → filter (is_of_party p) (all_from q js) ≡ []
filter_later p q h [] = refl
filter_later p q h (j ∷ js) = filter-append (is_of_party p) (of_party q j) (all_from (suc q) js)
    ∙ ap (λ r. r ++ filter (is_of_party p) (all_from (suc q) js)) (filter_other p q (more_not q p h) j) ∙ filter_later p (suc q) (omega arith) js

-- the entries of party p are those of its journal
pub filter_party : (p q k : ℕ) → p ≡ q + k → (js : List (List Entry)) → filter (is_of_party p) (all_from q js) ≡ of_party p (get_or js k [])
filter_party p q k e [] = refl
filter_party p q zero e (j ∷ js) = let same : q ≡ p = omega arith in filter-append (is_of_party p) (of_party q j) (all_from (suc q) js)
    ∙ ap (λ r. filter (is_of_party p) (of_party q j) ++ r) (filter_later p (suc q) (omega arith) js)
    ∙ ap (λ n. filter (is_of_party p) (of_party n j) ++ []) same ∙ ap (λ r. r ++ []) (filter_same p j) ∙ append-nil (of_party p j)
filter_party p q (suc k) e (j ∷ js) = filter-append (is_of_party p) (of_party q j) (all_from (suc q) js)
    ∙ ap (λ r. r ++ filter (is_of_party p) (all_from (suc q) js)) (filter_other p q (less_not q p (omega arith)) j) ∙ filter_party p (suc q) k (omega arith) js

-- one journal

step_up : (last n s : ℕ) → s ≡ next_stamp last n → last < s
step_up last n s h = grind (arith, nat_tests)

from_less : (m n : ℕ) → m ≤ n → (xs : List Stamped) → AllFrom stamp_of n xs → AllFrom stamp_of m xs
from_less m n h [] a = tt
from_less m n h (x ∷ xs) a = (let p = a.0 in omega arith, from_less m n h xs a.1)

above_last : (seen : Event → ℕ) (last : ℕ) (p : ℕ) (es : List Entry) → HasStamps seen last es → AllFrom stamp_of (suc last) (of_party p es)
above_last seen last p [] h = tt
above_last seen last p (e ∷ es) h = let up = step_up last (seen e.event) e.stamp h.0 in
    (omega arith, from_less (suc last) (suc e.stamp) (omega arith) (of_party p es) (above_last seen e.stamp p es h.1))

pub rises_party : (seen : Event → ℕ) (last : ℕ) (p : ℕ) (es : List Entry) → HasStamps seen last es → Rises stamp_of (of_party p es)
rises_party seen last p [] h = tt
rises_party seen last p (e ∷ es) h = (from_less e.stamp (suc e.stamp) (omega arith) (of_party p es) (above_last seen e.stamp p es h.1), rises_party seen e.stamp p es h.1)

pub stamps_at : (seen : Event → ℕ) (js : List (List Entry)) → AllStamps seen js → (k : ℕ) → HasStamps seen 0 (get_or js k [])
stamps_at seen [] h k = tt
stamps_at seen (j ∷ js) h zero = h.0
stamps_at seen (j ∷ js) h (suc k) = stamps_at seen js h.1 k

-- what holds of each entry

module _ {X : Type 0} (key : X → ℕ) (P : X → Type 0) where
  each_placed : (x : X) → P x → (xs : List X) → AllByRecursion P xs → AllByRecursion P (placed key x xs)
  each_placed x h [] a = (h, tt)
  each_placed x h (y ∷ ys) a = elim (nat_le (key x) (key y)) as (λ b. AllByRecursion P (cond b (x ∷ y ∷ ys) (y ∷ placed key x ys)))
      [ true ↦ (h, a) | false ↦ (a.0, each_placed x h ys a.1) ]

  pub each_in_order : (xs : List X) → AllByRecursion P xs → AllByRecursion P (in_order key xs)
  each_in_order [] a = tt
  each_in_order (x ∷ xs) a = each_placed x a.0 (in_order key xs) (each_in_order xs a.1)

pub each_append : {X : Type 0} (P : X → Type 0) (xs ys : List X) → AllByRecursion P xs → AllByRecursion P ys → AllByRecursion P (xs ++ ys)
each_append P [] ys a b = b
each_append P (x ∷ xs) ys a b = (a.0, each_append P xs ys a.1 b)

-- by stamp, then party

abbrev Less : Stamped → Stamped → Type 0
Less x y = (x.entry.stamp < y.entry.stamp) ⊎ ((x.entry.stamp ≡ y.entry.stamp) × (x.party < y.party))

abbrev Above : Stamped → Stamped → Type 0
Above x y = (x.party < y.party) ⊎ ((x.party ≡ y.party) × (x.entry.stamp < y.entry.stamp))

abbrev LexRises : List Stamped → Type 0
LexRises [] = Unit {0}
LexRises (x ∷ xs) = AllByRecursion (Less x) xs × LexRises xs

-- each entry comes before the later ones by party, then stamp
abbrev Rows : List Stamped → Type 0
Rows [] = Unit {0}
Rows (x ∷ xs) = AllByRecursion (Above x) xs × Rows xs

less_of : (x y : Stamped) → x.entry.stamp ≤ y.entry.stamp → Above x y → Less x y
less_of x y h (inl w) = elim (leb_tells y.entry.stamp x.entry.stamp) [ inl v ↦ inr (let a = v.1 in omega arith, w) | inr v ↦ inl v.1 ]
less_of x y h (inr w) = inl w.1

all_less : (x : Stamped) (ys : List Stamped) → AllFrom stamp_of x.entry.stamp ys → AllByRecursion (Above x) ys → AllByRecursion (Less x) ys
all_less x [] f a = tt
all_less x (y ∷ ys) f a = (less_of x y f.0 a.0, all_less x ys f.1 a.1)

le_true : (m n : ℕ) → nat_le m n ≡ true → m ≤ n
le_true m n e = grind (arith, nat_tests)

le_false : (m n : ℕ) → nat_le m n ≡ false → n < m
le_false m n e = grind (arith, nat_tests)

lex_at : (x y : Stamped) (ys : List Stamped) → LexRises (y ∷ ys) → AllByRecursion (Above x) (y ∷ ys) → Rises stamp_of (y ∷ ys) → LexRises (placed stamp_of x ys)
    → (b : Bool) → nat_le x.entry.stamp y.entry.stamp ≡ b → LexRises (cond b (x ∷ y ∷ ys) (y ∷ placed stamp_of x ys))
lex_at x y ys h a r ih true e = let le = le_true x.entry.stamp y.entry.stamp e in (all_less x (y ∷ ys) (le, from_less x.entry.stamp y.entry.stamp le ys r.0) a, h)
lex_at x y ys h a r ih false e = (each_placed stamp_of (Less y) x (inl (le_false x.entry.stamp y.entry.stamp e)) ys h.0, ih)

lex_placed : (x : Stamped) (ys : List Stamped) → LexRises ys → AllByRecursion (Above x) ys → Rises stamp_of ys → LexRises (placed stamp_of x ys)
lex_placed x [] h a r = (tt, tt)
lex_placed x (y ∷ ys) h a r = lex_at x y ys h a r (lex_placed x ys h.1 a.1 r.1) (nat_le x.entry.stamp y.entry.stamp) refl

lex_in_order : (xs : List Stamped) → Rows xs → LexRises (in_order stamp_of xs)
lex_in_order [] r = tt
lex_in_order (x ∷ xs) r = lex_placed x (in_order stamp_of xs) (lex_in_order xs r.1) (each_in_order stamp_of (Above x) xs r.0) (rises_in_order stamp_of xs)

above_party : (x : Stamped) (es : List Entry) → AllFrom stamp_of (suc x.entry.stamp) (of_party x.party es) → AllByRecursion (Above x) (of_party x.party es)
above_party x [] f = tt
above_party x (e ∷ es) f = (inr (refl, let a = f.0 in omega arith), above_party x es f.1)

above_later : (x : Stamped) (ys : List Stamped) → AllByRecursion (λ y. x.party < y.party) ys → AllByRecursion (Above x) ys
above_later x [] f = tt
above_later x (y ∷ ys) f = (inl f.0, above_later x ys f.1)

rows_append : (seen : Event → ℕ) (last p : ℕ) (es : List Entry) → HasStamps seen last es → (rest : List Stamped) → AllByRecursion (λ y. p < y.party) rest → Rows rest → Rows (of_party p es ++ rest)
rows_append seen last p [] h rest f r = r
rows_append seen last p (e ∷ es) h rest f r = let x : Stamped = record { party = p; entry = e } in
    (each_append (Above x) (of_party p es) rest (above_party x es (above_last seen e.stamp p es h.1)) (above_later x rest f), rows_append seen e.stamp p es h.1 rest f r)

from_party : (q p : ℕ) → q < p → (es : List Entry) → AllByRecursion (λ y. q < y.party) (of_party p es)
from_party q p h [] = tt
from_party q p h (e ∷ es) = (h, from_party q p h es)

later_parties : (q p : ℕ) → q < p → (js : List (List Entry)) → AllByRecursion (λ y. q < y.party) (all_from p js)
later_parties q p h [] = tt
later_parties q p h (j ∷ js) = each_append _ (of_party p j) (all_from (suc p) js) (from_party q p h j) (later_parties q (suc p) (omega arith) js)

rows_all : (seen : Event → ℕ) (p : ℕ) (js : List (List Entry)) → AllStamps seen js → Rows (all_from p js)
rows_all seen p [] h = tt
rows_all seen p (j ∷ js) h = rows_append seen 0 p j h.0 (all_from (suc p) js) (later_parties p (suc p) (omega arith) js) (rows_all seen (suc p) js h.1)

less_later : (s p t q : ℕ) → (s < t) ⊎ ((s ≡ t) × (p < q)) → nat_lt s t || ((s == t) && nat_lt p q) ≡ true
less_later s p t q h = grind (arith, nat_tests)

abbrev Follows : ℕ → ℕ → List Stamped → Type 0
Follows s p = AllByRecursion (λ e. is_later s p e ≡ true)

follows_less : (x : Stamped) (ys : List Stamped) → AllByRecursion (Less x) ys → Follows x.entry.stamp x.party ys
follows_less x [] f = tt
follows_less x (y ∷ ys) f = (less_later x.entry.stamp x.party y.entry.stamp y.party f.0, follows_less x ys f.1)

rising_from : (s p : ℕ) (es : List Stamped) → LexRises es → Follows s p es → IsRising s p es
rising_from s p [] h f = tt
rising_from s p (e ∷ es) h f = (f.0, rising_from e.entry.stamp e.party es h.1 (follows_less e es h.0))

positive_party : (seen : Event → ℕ) (last p : ℕ) (es : List Entry) → HasStamps seen last es → Follows 0 0 (of_party p es)
positive_party seen last p [] h = tt
positive_party seen last p (e ∷ es) h = (less_later 0 0 e.stamp p (inl (let up = step_up last (seen e.event) e.stamp h.0 in omega arith)), positive_party seen e.stamp p es h.1)

positive : (seen : Event → ℕ) (p : ℕ) (js : List (List Entry)) → AllStamps seen js → Follows 0 0 (all_from p js)
positive seen p [] h = tt
positive seen p (j ∷ js) h = each_append _ (of_party p j) (all_from (suc p) js) (positive_party seen 0 p j h.0) (positive seen (suc p) js h.1)

-- where each journal has its stamps, the merged list rises by stamp, then party
pub rising_merged : (seen : Event → ℕ) (js : List (List Entry)) → AllStamps seen js → IsRising 0 0 (merged js)
rising_merged seen js h = rising_from 0 0 (merged js) (lex_in_order (all_from 0 js) (rows_all seen 0 js h)) (each_in_order stamp_of _ (all_from 0 js) (positive seen 0 js h))

-- The journals of the parties of a history, and the history to which journals are merged. A history that rises by stamp and then by party is the
-- merge of its parts, since it is in order, and its entries of one stamp stand there by their parties.
use Rattle.std.proofs.Common.{◌≡◌, ℕ, zero, suc, ◌+◌, ◌<◌, ◌≤◌, List, [], ◌∷◌, ◌++◌, Bool, true, false, cond, refl, sym, ap, ◌∙◌, subst, arith, get_or, inl, inr}
use Rattle.std.specs.Prelude.{◌==◌, map, nat_eq}
use Rattle.std.specs.List.{filter, AllByRecursion}
use Rattle.std.proofs.lemmas.Bool.Decides.{nat_tests, leb_tells}
use Rattle.std.proofs.lemmas.List.Elements.{filter-append}
use Rattle.ac_base.specs.declared.entry.Entry.{Entry}
use Rattle.ac_base.specs.declared.entry.Stamped.{Stamped}
use Rattle.ac_links.specs.Order.{stamp_of, of_party, in_order, AllFrom, Rises}
use Rattle.ac_links.proofs.Sorting.{from_less, rises_in_order, in_order_already, filter_in_order, rises_filter}
use Rattle.ac_history.specs.Merged.{all_from, merged}
use Rattle.ac_history.specs.History.{is_later}
use Rattle.ac_history.proofs.Parts.{is_of_party, IsRising, filter_party}
use Rattle.ac_history.proofs.Unique.{unique}
use Rattle.trace_audit.specs.RunTrace.{journal_of}

eq_of : (m n : ℕ) → nat_eq m n ≡ true → m ≡ n
eq_of m n h = grind (arith, nat_tests)

less_not : (m n : ℕ) → m < n → nat_eq m n ≡ false
less_not m n h = grind (arith, nat_tests)

more_not : (m n : ℕ) → n < m → nat_eq m n ≡ false
more_not m n h = grind (arith, nat_tests)

less_of : (m n : ℕ) → nat_eq m n ≡ false → m ≤ n → m < n
less_of m n h le = grind (arith, nat_tests)

more_of : (m n : ℕ) → nat_eq m n ≡ false → n ≤ m → n < m
more_of m n h le = grind (arith, nat_tests)

kept : (f : Stamped → Bool) (s : Stamped) (ss : List Stamped) → f s ≡ true → filter f (s ∷ ss) ≡ s ∷ filter f ss
kept f s ss e = ap (λ b. cond b (s ∷ filter f ss) (filter f ss)) e

left_out : (f : Stamped → Bool) (s : Stamped) (ss : List Stamped) → f s ≡ false → filter f (s ∷ ss) ≡ filter f ss
left_out f s ss e = ap (λ b. cond b (s ∷ filter f ss) (filter f ss)) e

-- ---- the journal of a party

abbrev entry_of : Stamped → Entry
entry_of s = s.entry

abbrev pub its_stamp : Entry → ℕ
its_stamp e = e.stamp

journal_is : (p : ℕ) (es : List Stamped) → journal_of p es ≡ map entry_of (filter (is_of_party p) es)
journal_is p [] = refl
journal_is p (s ∷ ss) = elim (nat_eq s.party p)
    as (λ b. cond b (s.entry ∷ journal_of p ss) (journal_of p ss) ≡ map entry_of (cond b (s ∷ filter (is_of_party p) ss) (filter (is_of_party p) ss)))
    [ true ↦ ap (λ xs. s.entry ∷ xs) (journal_is p ss) | false ↦ journal_is p ss ]

pub journal_append : (p : ℕ) (xs ys : List Stamped) → journal_of p (xs ++ ys) ≡ journal_of p xs ++ journal_of p ys
journal_append p [] ys = refl
journal_append p (s ∷ ss) ys = elim (nat_eq s.party p)
    as (λ b. cond b (s.entry ∷ journal_of p (ss ++ ys)) (journal_of p (ss ++ ys)) ≡ cond b (s.entry ∷ journal_of p ss) (journal_of p ss) ++ journal_of p ys)
    [ true ↦ ap (λ xs. s.entry ∷ xs) (journal_append p ss ys) | false ↦ journal_append p ss ys ]

of_its_party : (s : Stamped) (p : ℕ) → s.party ≡ p → record { party = p; entry = s.entry } ≡ s
of_its_party s p h = ap at (sym h)
  where
    at : ℕ → Stamped
    at q = record { party = q; entry = s.entry }

-- its entries, with the party
from_journal : (p : ℕ) (es : List Stamped) → of_party p (journal_of p es) ≡ filter (is_of_party p) es
from_journal p [] = refl
from_journal p (s ∷ ss) = by (nat_eq s.party p) refl (from_journal p ss)
  where
    by : (b : Bool) → nat_eq s.party p ≡ b → of_party p (journal_of p ss) ≡ filter (is_of_party p) ss
        → of_party p (cond b (s.entry ∷ journal_of p ss) (journal_of p ss)) ≡ cond b (s ∷ filter (is_of_party p) ss) (filter (is_of_party p) ss)
    by true e g = let h = of_its_party s p (eq_of s.party p e) in cc
    by false e g = g

entries_back : (p : ℕ) (j : List Entry) → map entry_of (of_party p j) ≡ j
entries_back p [] = refl
entries_back p (e ∷ es) = ap (λ xs. e ∷ xs) (entries_back p es)

from_as : (p n : ℕ) (j : List Entry) → AllFrom its_stamp n j → AllFrom stamp_of n (of_party p j)
from_as p n [] a = tt
from_as p n (e ∷ es) a = (a.0, from_as p n es a.1)

rises_as : (p : ℕ) (j : List Entry) → Rises its_stamp j → Rises stamp_of (of_party p j)
rises_as p [] r = tt
rises_as p (e ∷ es) r = (from_as p e.stamp es r.0, rises_as p es r.1)

as_from : (p n : ℕ) (j : List Entry) → AllFrom stamp_of n (of_party p j) → AllFrom its_stamp n j
as_from p n [] a = tt
as_from p n (e ∷ es) a = (a.0, as_from p n es a.1)

pub as_rises : (p : ℕ) (j : List Entry) → Rises stamp_of (of_party p j) → Rises its_stamp j
as_rises p [] r = tt
as_rises p (e ∷ es) r = (as_from p e.stamp es r.0, as_rises p es r.1)

-- a party's part of merged journals is its journal, where that stands in the order of its stamps
pub part_is_journal : (p : ℕ) (js : List (List Entry)) → Rises its_stamp (get_or js p []) → journal_of p (merged js) ≡ get_or js p []
part_is_journal p js r =
    journal_is p (merged js)
    ∙ ap (map entry_of) (filter_in_order stamp_of (is_of_party p) (all_from 0 js) ∙ ap (in_order stamp_of) (filter_party p 0 p (omega arith) js)
    ∙ in_order_already stamp_of (of_party p (get_or js p [])) (rises_as p (get_or js p []) r))
    ∙ entries_back p (get_or js p [])

-- the journal of a party of a history that rises stands in the order of its stamps
pub journal_rises : (p : ℕ) (es : List Stamped) → Rises stamp_of es → Rises its_stamp (journal_of p es)
journal_rises p es r = as_rises p (journal_of p es) (subst (Rises stamp_of) (sym (from_journal p es)) (rises_filter stamp_of (is_of_party p) es r))

-- ---- a history that rises by stamp, then party, is the merge of its parts

later_is : (stamp party : ℕ) (e : Stamped) → is_later stamp party e ≡ true → stamp ≤ e.entry.stamp
later_is stamp party e h = grind (arith, nat_tests)

later_by_party : (stamp party : ℕ) (e : Stamped) → is_later stamp party e ≡ true → e.entry.stamp ≡ stamp → party < e.party
later_by_party stamp party e h same = grind (arith, nat_tests)

rising_from : (stamp party : ℕ) (es : List Stamped) → IsRising stamp party es → AllFrom stamp_of stamp es × Rises stamp_of es
rising_from stamp party [] c = (tt, tt)
rising_from stamp party (e ∷ es) c =
    let r = rising_from e.entry.stamp e.party es c.1 in let le = later_is stamp party e c.0 in ((le, from_less stamp_of stamp e.entry.stamp le es r.0), r)

pub rising_rises : (stamp party : ℕ) (es : List Stamped) → IsRising stamp party es → Rises stamp_of es
rising_rises stamp party es c = (rising_from stamp party es c).1

-- the journals of so many parties, from this one on
abbrev pub parts : ℕ → ℕ → List Stamped → List (List Entry)
parts q zero es = []
parts q (suc n) es = journal_of q es ∷ parts (suc q) n es

-- the parties rise, from this one on
abbrev ByParty : ℕ → List Stamped → Type 0
ByParty q [] = Unit {0}
ByParty q (e ∷ es) = (q ≤ e.party) × ByParty (suc e.party) es

abbrev of_stamp : ℕ → Stamped → Bool
of_stamp n s = n == stamp_of s

none_of_stamp : (n stamp : ℕ) → n < stamp → (es : List Stamped) → AllFrom stamp_of stamp es → filter (of_stamp n) es ≡ []
none_of_stamp n stamp h [] a = refl
none_of_stamp n stamp h (e ∷ es) a = let p = a.0 in left_out (of_stamp n) e es (less_not n e.entry.stamp (omega arith)) ∙ none_of_stamp n stamp h es a.1

-- entries of one stamp rise by their parties
by_party_at : (n stamp party : ℕ) → stamp ≡ n → (es : List Stamped) → IsRising stamp party es → ByParty (suc party) (filter (of_stamp n) es)
by_party_at n stamp party h [] c = tt
by_party_at n stamp party h (e ∷ es) c = by (n == e.entry.stamp) refl (λ same. by_party_at n e.entry.stamp e.party same es c.1)
  where
    by : (b : Bool) → (n == e.entry.stamp) ≡ b → (e.entry.stamp ≡ n → ByParty (suc e.party) (filter (of_stamp n) es))
        → ByParty (suc party) (cond b (e ∷ filter (of_stamp n) es) (filter (of_stamp n) es))
    by true is again = let same = eq_of n e.entry.stamp is in let lt = later_by_party stamp party e c.0 (sym same ∙ sym h) in (omega arith, again (sym same))
    by false is again =
        let le = later_is stamp party e c.0 in
        let more : n < e.entry.stamp = less_of n e.entry.stamp is (omega arith) in
        subst (ByParty (suc party)) (sym (none_of_stamp n e.entry.stamp more es (rising_from e.entry.stamp e.party es c.1).0)) tt

by_party_below : (n stamp party : ℕ) → stamp < n → (es : List Stamped) → IsRising stamp party es → ByParty 0 (filter (of_stamp n) es)
by_party_below n stamp party h [] c = tt
by_party_below n stamp party h (e ∷ es) c = by (n == e.entry.stamp) refl (λ less. by_party_below n e.entry.stamp e.party less es c.1)
  where
    by : (b : Bool) → (n == e.entry.stamp) ≡ b → (e.entry.stamp < n → ByParty 0 (filter (of_stamp n) es))
        → ByParty 0 (cond b (e ∷ filter (of_stamp n) es) (filter (of_stamp n) es))
    by true is again = (omega arith, by_party_at n e.entry.stamp e.party (sym (eq_of n e.entry.stamp is)) es c.1)
    by false is again = elim (leb_tells n e.entry.stamp) [
      | inl w ↦
          let more : n < e.entry.stamp = less_of n e.entry.stamp is w.1 in
          subst (ByParty 0) (sym (none_of_stamp n e.entry.stamp more es (rising_from e.entry.stamp e.party es c.1).0)) tt
      | inr w ↦ again w.1
    ]

from_first : (xs : List Stamped) (q : ℕ) → ByParty q xs → ByParty 0 xs
from_first [] q b = tt
from_first (x ∷ xs) q b = (omega arith, b.1)

by_party : (n : ℕ) (es : List Stamped) → IsRising 0 0 es → ByParty 0 (filter (of_stamp n) es)
by_party zero es c = from_first (filter (of_stamp 0) es) 1 (by_party_at 0 0 0 refl es c)
by_party (suc n) es c = by_party_below (suc n) 0 0 (omega arith) es c

-- an entry of a party before the first part is in none
skips : (q n : ℕ) (z : Stamped) (zs : List Stamped) → z.party < q → parts q n (z ∷ zs) ≡ parts q n zs
skips q zero z zs h = refl
skips q (suc n) z zs h =
    let first : journal_of q (z ∷ zs) ≡ journal_of q zs = ap (λ b. cond b (z.entry ∷ journal_of q zs) (journal_of q zs)) (less_not z.party q h) in
    let rest = skips (suc q) n z zs (omega arith) in cc

no_journal : (p q : ℕ) → p < q → (zs : List Stamped) → ByParty q zs → journal_of p zs ≡ []
no_journal p q h [] b = refl
no_journal p q h (z ∷ zs) b =
    let le = b.0 in
    ap (λ c. cond c (z.entry ∷ journal_of p zs) (journal_of p zs)) (more_not z.party p (omega arith)) ∙ no_journal p (suc z.party) (omega arith) zs b.1

-- entries that rise by party are their parts one after the other
parts_in_turn : (q n : ℕ) (zs : List Stamped) → ByParty q zs → AllByRecursion (λ s. s.party < q + n) zs → all_from q (parts q n zs) ≡ zs
parts_in_turn q zero [] b a = refl
parts_in_turn q zero (z ∷ zs) b a = let p = b.0 in let r = a.0 in absurd (omega arith)
parts_in_turn q (suc n) [] b a = parts_in_turn (suc q) n [] tt tt
parts_in_turn q (suc n) (z ∷ zs) b a = by (nat_eq z.party q) refl (λ xs p h. parts_in_turn (suc q) n xs p h)
  where
    less : (xs : List Stamped) → AllByRecursion (λ s. s.party < q + suc n) xs → AllByRecursion (λ s. s.party < suc q + n) xs
    less [] a = tt
    less (x ∷ xs) a = (let h = a.0 in omega arith, less xs a.1)

    by : (c : Bool) → nat_eq z.party q ≡ c
        → ((xs : List Stamped) → ByParty (suc q) xs → AllByRecursion (λ s. s.party < suc q + n) xs → all_from (suc q) (parts (suc q) n xs) ≡ xs)
        → of_party q (cond c (z.entry ∷ journal_of q zs) (journal_of q zs)) ++ all_from (suc q) (parts (suc q) n (z ∷ zs)) ≡ z ∷ zs
    by true is again =
        let same = eq_of z.party q is in
        let none : of_party q (journal_of q zs) ≡ [] = ap (of_party q) (no_journal q (suc z.party) (omega arith) zs b.1) in
        let rest : all_from (suc q) (parts (suc q) n (z ∷ zs)) ≡ zs =
        ap (all_from (suc q)) (skips (suc q) n z zs (omega arith)) ∙ again zs (subst (λ k. ByParty (suc k) zs) same b.1) (less zs a.1) in
        let head = of_its_party z q same in ap (λ xs. record { party = q; entry = z.entry } ∷ (xs ++ all_from (suc q) (parts (suc q) n (z ∷ zs)))) none ∙ (cc)
    by false is again =
        let more : q < z.party = more_of z.party q is b.0 in
        let none : of_party q (journal_of q zs) ≡ [] = ap (of_party q) (no_journal q (suc z.party) (omega arith) zs b.1) in
        ap (λ xs. xs ++ all_from (suc q) (parts (suc q) n (z ∷ zs))) none ∙ again (z ∷ zs) (more, b.1) (less (z ∷ zs) a)

filter_swap : (f g : Stamped → Bool) (xs : List Stamped) → filter f (filter g xs) ≡ filter g (filter f xs)
filter_swap f g [] = refl
filter_swap f g (x ∷ xs) = by (f x) refl (g x) refl (filter_swap f g xs)
  where
    by : (b : Bool) → f x ≡ b → (c : Bool) → g x ≡ c → filter f (filter g xs) ≡ filter g (filter f xs)
        → filter f (cond c (x ∷ filter g xs) (filter g xs)) ≡ filter g (cond b (x ∷ filter f xs) (filter f xs))
    by true e true d h = kept f x (filter g xs) e ∙ ap (λ ys. x ∷ ys) h ∙ sym (kept g x (filter f xs) d)
    by true e false d h = h ∙ sym (left_out g x (filter f xs) d)
    by false e true d h = left_out f x (filter g xs) e ∙ h
    by false e false d h = h

filter_parts : (f : Stamped → Bool) (q n : ℕ) (es : List Stamped) → filter f (all_from q (parts q n es)) ≡ all_from q (parts q n (filter f es))
filter_parts f q zero es = refl
filter_parts f q (suc n) es =
    let one : filter f (of_party q (journal_of q es)) ≡ of_party q (journal_of q (filter f es)) =
    ap (filter f) (from_journal q es) ∙ filter_swap f (is_of_party q) es ∙ sym (from_journal q (filter f es)) in
    let rest = filter_parts f (suc q) n es in filter-append f (of_party q (journal_of q es)) (all_from (suc q) (parts (suc q) n es)) ∙ (cc)

each_filter : (P : Stamped → Type 0) (f : Stamped → Bool) (xs : List Stamped) → AllByRecursion P xs → AllByRecursion P (filter f xs)
each_filter P f [] a = tt
each_filter P f (x ∷ xs) a = elim (f x) as (λ b. AllByRecursion P (cond b (x ∷ filter f xs) (filter f xs))) [ true ↦ (a.0, each_filter P f xs a.1) | false ↦ each_filter P f xs a.1 ]

from_nought : (n : ℕ) → n ≡ 0 + n
from_nought n = omega arith

pub parts_are_whole : (n : ℕ) (es : List Stamped) → IsRising 0 0 es → AllByRecursion (λ s. s.party < n) es → merged (parts 0 n es) ≡ es
parts_are_whole n es c a = unique stamp_of (merged (parts 0 n es)) es (rises_in_order stamp_of (all_from 0 (parts 0 n es))) rises same
  where
    rises : Rises stamp_of es
    rises = rising_rises 0 0 es c

    same : (x : Stamped) → filter (of_stamp (stamp_of x)) (merged (parts 0 n es)) ≡ filter (of_stamp (stamp_of x)) es
    same x =
        let f : Stamped → Bool = of_stamp (stamp_of x) in
        filter_in_order stamp_of f (all_from 0 (parts 0 n es))
        ∙ ap (in_order stamp_of) (filter_parts f 0 n es
        ∙ parts_in_turn 0 n (filter f es) (by_party (stamp_of x) es c) (each_filter _ f es (subst (λ k. AllByRecursion (λ s. s.party < k) es) (from_nought n) a)))
        ∙ in_order_already stamp_of (filter f es) (rises_filter stamp_of f es rises)

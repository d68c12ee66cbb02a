-- The table of the vectors: one row more, and that its rows are the counts of the order's proof.
-- A row is made of the rows of two marks, which are of entries before: so a longer table has the same rows, and no count is above the number of rows.
use Rattle.std.proofs.Common.{◌≡◌, ℕ, zero, suc, ◌+◌, ◌-◌, ◌*◌, ◌<◌, ◌≤◌, List, [], ◌∷◌, ◌++◌, length, Option, Some, None, Bool}
use Rattle.std.proofs.Common.{true, false, refl, sym, ap, ◌∙◌, subst, arith, get_or, set, ◌⊎◌, inl, inr, length-append, add-one}
use Rattle.std.specs.Prelude.{◌==◌, slice_get, slice_index, max}
use Rattle.std.proofs.Math.ListN.{get_or-append}
use Rattle.std.proofs.Math.Nat.{mul_comm}
use Rattle.std.proofs.lemmas.Bool.{cases_lt}
use Rattle.std.proofs.lemmas.Nat.{mul-add-lt}
use Rattle.std.proofs.lemmas.Option.{slice_get_within}
use Rattle.std.proofs.lemmas.List.{get_or-append-add, get_or_past}
use Rattle.ac_base.specs.declared.entry.Event.{Event}
use Rattle.ac_base.specs.declared.entry.Event.TheVariants.{Offer, Withdraw, Know, Room, Got, Pass, Did, Reply}
use Rattle.ac_base.specs.declared.entry.Stamped.{Stamped}
use Rattle.ac_links.specs.Link.{link_of}
use Rattle.ac_history.specs.History.{IsLegal, start}
use Rattle.ac_causal.specs.inner.Marks.{Marked, no_marks, marks_of, link_marks_after, answered_mark, last_mark, seen_mark, marked_after, marked_by, marked_at}
use Rattle.ac_causal.specs.inner.Marks.{count_at, ticked, new_count, HasRow, IsTable}
use Rattle.ac_causal.specs.inner.Opening.{AreSeen}
use Rattle.ac_causal.proofs.Held.{empty_at, zero_at, same_entry}
use Rattle.ac_causal.proofs.Answered.{marks, seen_made, seen_all, last_made, last_reach, party_in}
use Rattle.ac_causal.proofs.Ticks.{mark_count, Ticks}

-- ---- no mark is above the number of entries

module _ {X : Type 0} (Q : X → Type 0) (d : X) (at_d : Q d) where
  at_set : (xs : List X) (i : ℕ) (y : X) → Q y → ((l : ℕ) → Q (get_or xs l d)) → (l : ℕ) → Q (get_or (set xs i y) l d)
  at_set [] i y h all l = at_d
  at_set (x ∷ xs) zero y h all zero = h
  at_set (x ∷ xs) zero y h all (suc l) = all (suc l)
  at_set (x ∷ xs) (suc i) y h all zero = all zero
  at_set (x ∷ xs) (suc i) y h all (suc l) = at_set xs i y h (λ q. all (suc q)) l

  at_push : (xs : List X) (y : X) → Q y → ((l : ℕ) → Q (get_or xs l d)) → (l : ℕ) → Q (get_or (xs ++ y ∷ []) l d)
  at_push [] y h all zero = h
  at_push [] y h all (suc l) = at_d
  at_push (x ∷ xs) y h all zero = all zero
  at_push (x ∷ xs) y h all (suc l) = at_push xs y h (λ q. all (suc q)) l

abbrev UpTo : ℕ → List ℕ → Type 0
UpTo k ps = (n : ℕ) → get_or ps n 0 ≤ k

up_more : (k : ℕ) (ps : List ℕ) → UpTo k ps → UpTo (suc k) ps
up_more k ps h n = let a = h n in omega (arith, a)

link_up : (k : ℕ) (ps : List ℕ) (e : Event) → UpTo k ps → UpTo (suc k) (link_marks_after ps (suc k) e)
link_up k ps (Offer l n payload) h = at_push (λ m. m ≤ suc k) 0 (omega arith) ps (suc k) (omega arith) (up_more k ps h)
link_up k ps (Withdraw l n) h = at_set (λ m. m ≤ suc k) 0 (omega arith) ps n (suc k) (omega arith) (up_more k ps h)
link_up k ps (Know l n) h = up_more k ps h
link_up k ps (Room l n) h = up_more k ps h
link_up k ps (Got l n value) h = at_set (λ m. m ≤ suc k) 0 (omega arith) ps n (suc k) (omega arith) (up_more k ps h)
link_up k ps (Pass l n) h = at_set (λ m. m ≤ suc k) 0 (omega arith) ps n (suc k) (omega arith) (up_more k ps h)
link_up k ps (Did l n answer) h = at_set (λ m. m ≤ suc k) 0 (omega arith) ps n (suc k) (omega arith) (up_more k ps h)
link_up k ps (Reply l n answer) h = up_more k ps h

seen_up : (k : ℕ) (ps : List ℕ) (e : Event) → UpTo k ps → answered_mark ps e ≤ k
seen_up k ps (Offer l n payload) h = omega arith
seen_up k ps (Withdraw l n) h = omega arith
seen_up k ps (Know l n) h = h n
seen_up k ps (Room l n) h = h n
seen_up k ps (Got l n value) h = h n
seen_up k ps (Pass l n) h = h n
seen_up k ps (Did l n answer) h = h n
seen_up k ps (Reply l n answer) h = h n

record Small (k : ℕ) (M : Marked) : Type 0 where
  lasts : UpTo k M.lasts
  links : (l : ℕ) → UpTo k (marks_of M l)

small_by : (k : ℕ) (M : Marked) (q : Option Stamped) → Small k M → Small (suc k) (marked_by M (suc k) q)
small_by k M None h = record { lasts = up_more k M.lasts h.lasts; links = λ l. up_more k (marks_of M l) (h.links l) }
small_by k M (Some e) h = record {
  lasts = at_set (λ m. m ≤ suc k) 0 (omega arith) M.lasts e.party (suc k) (omega arith) (up_more k M.lasts h.lasts);
  links = at_set (UpTo (suc k)) [] (λ n. omega arith) M.links (link_of e.entry.event) (link_marks_after (marks_of M (link_of e.entry.event)) (suc k) e.entry.event)
      (link_up k (marks_of M (link_of e.entry.event)) e.entry.event (h.links (link_of e.entry.event))) (λ l. up_more k (marks_of M l) (h.links l));
}

small_at : (links parties : ℕ) (es : List Stamped) (k : ℕ) → Small k (marked_at es (no_marks links parties) k)
small_at links parties es zero = record {
  lasts = λ p. (let z = zero_at parties p in omega (arith, z));
  links = λ l n. (let z : get_or (marks_of (no_marks links parties) l) n 0 ≡ 0 = ap (λ x. get_or x n 0) (empty_at {X = ℕ} links l) in omega (arith, z));
}
small_at links parties es (suc k) = small_by k (marked_at es (no_marks links parties) k) (slice_get es k) (small_at links parties es k)

last_small : (links parties : ℕ) (es : List Stamped) (k : ℕ) (e : Stamped) → last_mark (marked_at es (no_marks links parties) k) e ≤ k
last_small links parties es k e = (small_at links parties es k).lasts e.party

seen_small : (links parties : ℕ) (es : List Stamped) (k : ℕ) (e : Stamped) → seen_mark (marked_at es (no_marks links parties) k) e ≤ k
seen_small links parties es k e =
    seen_up k (marks_of (marked_at es (no_marks links parties) k) (link_of e.entry.event)) e.entry.event ((small_at links parties es k).links (link_of e.entry.event))

-- ---- one row more

in_rows : (w p k parties : ℕ) → w < k → p < parties → w * parties + p < k * parties
in_rows w p k parties a b = let h = mul-add-lt w parties p k a b in let c = mul_comm parties k in omega (arith, h, c)

count_small : (parties k : ℕ) (table : List ℕ) (m p : ℕ) → UpTo k table → count_at parties table m p ≤ k
count_small parties k table zero p h = omega arith
count_small parties k table (suc w) p h = h (w * parties + p)

ticked_small : (b : Bool) (n k : ℕ) → n ≤ k → ticked b n ≤ suc k
ticked_small true n k h = let a : n ≤ k = h in omega (arith, a)
ticked_small false n k h = omega (arith, h)

module _ (links parties : ℕ) (es : List Stamped) (k : ℕ) (table new : List ℕ) (e : Stamped) (was : IsTable parties (no_marks links parties) es k table)
    (is : slice_get es k ≡ Some e)
    (has : HasRow parties e.party (last_mark (marked_at es (no_marks links parties) k) e) (seen_mark (marked_at es (no_marks links parties) k) e) table new parties) where
  abbrev at_k : ℕ → Marked
  at_k j = marked_at es (no_marks links parties) j

  in_old : (i : ℕ) → i < length table → slice_index new i ≡ slice_index table i
  in_old i lt = ap (λ x. get_or x i 0) has.form ∙ get_or-append table has.row 0 i lt

  in_new : (p : ℕ) → slice_index new (length table + p) ≡ slice_index has.row p
  in_new p = ap (λ x. get_or x (length table + p) 0) has.form ∙ get_or-append-add table has.row p 0

  count_kept : (m p : ℕ) → m ≤ k → p < parties → count_at parties new m p ≡ count_at parties table m p
  count_kept zero p le lt = refl
  count_kept (suc w) p le lt =
      let a = in_rows w p k parties (omega (arith, le)) lt in
      let b = was.length_is in
      in_old (w * parties + p) (omega (arith, a, b))

  row_kept : (party last seen p : ℕ) → last ≤ k → seen ≤ k → p < parties → new_count parties table party last seen p ≡ new_count parties new party last seen p
  row_kept party last seen p a b lt =
      ap (λ x. ticked (p == party) (max x (count_at parties table seen p))) (sym (count_kept last p a lt))
      ∙ ap (λ y. ticked (p == party) (max (count_at parties new last p) y)) (sym (count_kept seen p b lt))

  small_by_place : (i : ℕ) → (i < length table) ⊎ (length table ≤ i) → slice_index new i ≤ suc k
  small_by_place i (inl old) = let a = in_old i old in let b = was.small i in omega (arith, a, b)
  small_by_place i (inr later) =
      let q : i ≡ length table + (i - length table) = omega (arith, later) in
      let a : slice_index new i ≡ slice_index has.row (i - length table) = ap (λ x. slice_index new x) q ∙ in_new (i - length table) in
      let b = in_row (i - length table) (cases_lt (i - length table) parties) in
      omega (arith, a, b)
    where
      in_row : (p : ℕ) → (p < parties) ⊎ (parties ≤ p) → slice_index has.row p ≤ suc k
      in_row p (inl lt) =
          let a = has.each p lt in
          let b = count_small parties k table (last_mark (at_k k) e) p was.small in
          let c = count_small parties k table (seen_mark (at_k k) e) p was.small in
          let d = ticked_small (p == e.party) (max (count_at parties table (last_mark (at_k k) e) p) (count_at parties table (seen_mark (at_k k) e) p)) k (omega (arith, b, c)) in
          omega (arith, a, d)
      in_row p (inr past) = let b = has.columns_are in let a = get_or_past has.row p 0 (omega (arith, b, past)) in omega (arith, a)

  row_of_last : (p : ℕ) → p < parties → slice_index new (k * parties + p) ≡ new_count parties new e.party (last_mark (at_k k) e) (seen_mark (at_k k) e) p
  row_of_last p lt =
      let b = was.length_is in
      let q : k * parties + p ≡ length table + p = omega (arith, b) in
      ap (λ i. slice_index new i) q ∙ in_new p ∙ has.each p lt
      ∙ row_kept e.party (last_mark (at_k k) e) (seen_mark (at_k k) e) p (last_small links parties es k e) (seen_small links parties es k e) lt

  row_by : (j p : ℕ) (x : Stamped) → j < suc k → p < parties → slice_get es j ≡ Some x → (j < k) ⊎ (k ≤ j)
      → slice_index new (j * parties + p) ≡ new_count parties new x.party (last_mark (at_k j) x) (seen_mark (at_k j) x) p
  row_by j p x le lt is_x (inl before) =
      let a = in_rows j p k parties before lt in
      let b = was.length_is in
      let c = last_small links parties es j x in
      let d = seen_small links parties es j x in
      in_old (j * parties + p) (omega (arith, a, b)) ∙ was.row j p x before lt is_x
      ∙ row_kept x.party (last_mark (at_k j) x) (seen_mark (at_k j) x) p (omega (arith, c, before)) (omega (arith, d, before)) lt
  row_by j p x le lt is_x (inr last_one) =
      let here : j ≡ k = omega (arith, le, last_one) in
      let same : e ≡ x = same_entry es j k e x here is is_x in
      subst (λ i. slice_index new (i * parties + p) ≡ new_count parties new x.party (last_mark (at_k i) x) (seen_mark (at_k i) x) p) (sym here)
      (subst (λ y. slice_index new (k * parties + p) ≡ new_count parties new y.party (last_mark (at_k k) y) (seen_mark (at_k k) y) p) same (row_of_last p lt))

  pub table_goes_on : IsTable parties (no_marks links parties) es (suc k) new
  table_goes_on = record {
    length_is =
        (let a = ap length has.form in let b = length-append table has.row in let c = has.columns_are in let d = was.length_is in omega (arith, a, b, c, d));
    small = λ i. small_by_place i (cases_lt i (length table));
    row = λ j p x le lt is_x. row_by j p x le lt is_x (cases_lt j k);
  }

-- as the code has it
pub marks_go_on : (es : List Stamped) (first M : Marked) (k : ℕ) (e : Stamped) → M ≡ marked_at es first k → slice_get es k ≡ Some e
    → marked_after M (k + 1) e ≡ marked_at es first (k + 1)
marks_go_on es first M k e h is =
    ap (λ m. marked_after m (k + 1) e) h ∙ ap (λ n. marked_after (marked_at es first k) n e) (add-one k)
    ∙ ap (λ q. marked_by (marked_at es first k) (suc k) q) (sym is) ∙ sym (ap (λ n. marked_at es first n) (add-one k))

pub table_by : (links parties k last seen : ℕ) (es : List Stamped) (table new : List ℕ) (e : Stamped) (M : Marked) → IsTable parties (no_marks links parties) es k table
    → slice_get es k ≡ Some e → M ≡ marked_at es (no_marks links parties) k → last ≡ last_mark M e → seen ≡ seen_mark M e
    → HasRow parties e.party last seen table new parties → IsTable parties (no_marks links parties) es (k + 1) new
table_by links parties k last seen es table new e M was is marks at_last at_seen has =
    let l : last ≡ last_mark (marked_at es (no_marks links parties) k) e = at_last ∙ ap (λ m. last_mark m e) marks in
    let s : seen ≡ seen_mark (marked_at es (no_marks links parties) k) e = at_seen ∙ ap (λ m. seen_mark m e) marks in
    let h = subst (λ x. HasRow parties e.party x (seen_mark (marked_at es (no_marks links parties) k) e) table new parties) l
    (subst (λ y. HasRow parties e.party last y table new parties) s has) in
    subst (λ n. IsTable parties (no_marks links parties) es n new) (sym (add-one k)) (table_goes_on links parties es k table new e was is h)

-- the marks that are seen
pub seen_goes_on : (first : Marked) (es : List Stamped) (k mark : ℕ) (seen : List ℕ) (e : Stamped) (M : Marked) → AreSeen first es k seen
    → slice_get es k ≡ Some e → M ≡ marked_at es first k → mark ≡ seen_mark M e → AreSeen first es (k + 1) (seen ++ mark ∷ [])
seen_goes_on first es k mark seen e M was is marks at_mark = record {
  so_many = (let a = length-append seen (mark ∷ []) in let b = was.so_many in omega (arith, a, b));
  each = λ j x lt is_x. each_by j x lt is_x (cases_lt j k);
}
  where
    each_by : (j : ℕ) (x : Stamped) → j < k + 1 → slice_get es j ≡ Some x → (j < k) ⊎ (k ≤ j) → slice_index (seen ++ mark ∷ []) j ≡ seen_mark (marked_at es first j) x
    each_by j x lt is_x (inl before) =
        let b = was.so_many in
        let in_it : j < length seen = omega (arith, b, before) in
        get_or-append seen (mark ∷ []) 0 j in_it ∙ was.each j x before is_x
    each_by j x lt is_x (inr last_one) =
        let b = was.so_many in
        let here : j ≡ length seen + 0 = omega (arith, b, last_one, lt) in
        let same : j ≡ k = omega (arith, last_one, lt) in
        ap (λ i. get_or (seen ++ mark ∷ []) i 0) here ∙ get_or-append-add seen (mark ∷ []) 0 0 ∙ at_mark ∙ ap (λ m. seen_mark m e) marks
        ∙ ap (λ y. seen_mark (marked_at es first k) y) (same_entry es j k e x same is is_x) ∙ ap (λ i. seen_mark (marked_at es first i) x) (sym same)

-- ---- its counts

-- what stands for a party in the row of an entry
abbrev pub at_row : ℕ → List ℕ → ℕ → ℕ → ℕ
at_row parties table j p = slice_index table (j * parties + p)

same_count : (parties : ℕ) (table : List ℕ) (m p : ℕ) → count_at parties table m p ≡ mark_count (at_row parties table) m p
same_count parties table zero p = refl
same_count parties table (suc w) p = refl

pub ticks_of : (capacities widths : List ℕ) (cores : ℕ) (es : List Stamped) (table : List ℕ) (legal : IsLegal (start capacities widths cores) es)
    → IsTable (suc cores) (no_marks (length capacities) (suc cores)) es (length es) table
    → Ticks es (suc cores) (at_row (suc cores) table) (λ j e. last_mark (marks capacities widths cores es legal j) e) (λ j e. seen_mark (marks capacities widths cores es legal j) e)
ticks_of capacities widths cores es table legal t = record {
  row = λ j p e is lt. row_at j p e is lt;
  party = λ j e is. party_in capacities widths cores es legal j e is;
  last_made = λ j w e is h. (let m = last_made capacities widths cores es legal j w e h in (m.below, (m.entry, m.stands, m.party)));
  last_reach = λ i j a e lt is_a is_e same. last_reach capacities widths cores es legal i j a e lt is_a same;
  seen_made = λ j w e is h. seen_made capacities widths cores es legal j w e is h;
  seen_all = λ i j a. seen_all capacities widths cores es legal i j a;
}
  where
    row_at : (j p : ℕ) (e : Stamped) → slice_get es j ≡ Some e → p < suc cores
        → at_row (suc cores) table j p ≡ ticked (p == e.party) (max (mark_count (at_row (suc cores) table) (last_mark (marks capacities widths cores es legal j) e) p)
        (mark_count (at_row (suc cores) table) (seen_mark (marks capacities widths cores es legal j) e) p))
    row_at j p e is lt =
        t.row j p e (slice_get_within es j e is) lt is
        ∙ ap (λ x. ticked (p == e.party) (max x (count_at (suc cores) table (seen_mark (marks capacities widths cores es legal j) e) p)))
        (same_count (suc cores) table (last_mark (marks capacities widths cores es legal j) e) p)
        ∙ ap (λ y. ticked (p == e.party) (max (mark_count (at_row (suc cores) table) (last_mark (marks capacities widths cores es legal j) e) p) y))
        (same_count (suc cores) table (seen_mark (marks capacities widths cores es legal j) e) p)

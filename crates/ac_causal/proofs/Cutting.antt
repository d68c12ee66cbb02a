-- Where a cut is open: by own counts an entry is seen to be in it, and by its mark what it answers.
-- Entry by entry, the least mark of an entry outside that one inside answers is kept.
use Rattle.std.proofs.Common.{◌≡◌, ℕ, suc, ◌+◌, ◌-◌, ◌<◌, ◌≤◌, List, length, Some, Bool, true, false, sym, ap, ◌∙◌, subst, arith, ◌⊎◌, inl, inr}
use Rattle.std.specs.Prelude.{◌↔◌, IsTrue, slice_get, slice_index, nat_le, min}
use Rattle.std.proofs.lemmas.Bool.{leb-true, cases_lt}
use Rattle.std.proofs.lemmas.Option.{same_Some, slice_get_within}
use Rattle.ac_base.specs.declared.entry.Stamped.{Stamped}
use Rattle.stack_code.specs.Parts.{Parts}
use Rattle.ac_causal.specs.Before.{Answers}
use Rattle.ac_causal.specs.Run.{CausalRun}
use Rattle.ac_causal.specs.Cuts.{made_by, IsInside, IsOpenAt, IsCutAnswer}
use Rattle.ac_causal.specs.declared.cut.CutAnswer.TheVariants.{Closed, Open}
use Rattle.ac_causal.specs.inner.Kept.{IsKept}
use Rattle.ac_causal.specs.inner.Marks.{no_marks, count_at, seen_mark, marked_at}
use Rattle.ac_causal.specs.inner.Opening.{IsWhole, IsOpenMark, IsLeastMark}
use Rattle.ac_causal.proofs.Held.{zero_or}
use Rattle.ac_causal.proofs.Answered.{seen_made, seen_all}
use Rattle.ac_causal.proofs.Counting.{get_some, own_count}
use Rattle.ac_causal.proofs.Tables.{at_row}
use Rattle.ac_causal.proofs.Reaching.{count_same, ticks, le_true}

-- ---- inside

pub inside_by : {code : Parts} {steps : ℕ} (es : List Stamped) (parties : ℕ) (table : List ℕ) (k : IsKept es parties table) (r : CausalRun)
    → record { code = code; steps = steps; entries = es; parties = parties } ≡ r
    → (counts : List ℕ) (entry own : ℕ) (a : Stamped) → slice_get es entry ≡ Some a → own ≡ count_at parties table (entry + 1) a.party
    → (nat_le own (slice_index counts a.party) ≡ true → IsInside r.entries counts entry) × (IsInside r.entries counts entry → nat_le own (slice_index counts a.party) ≡ true)
inside_by es parties table k r view counts entry own a is p =
    let e : es ≡ r.entries = ap (λ (x : CausalRun). x.entries) view in
    let x : own ≡ suc (made_by es a.party entry) = p ∙ count_same parties k.cores table entry a.party a.party k.parties_are (ap (λ (y : Stamped). y.party) (same_Some a a (sym is ∙ is)))
    ∙ own_count es (suc k.cores) (at_row (suc k.cores) table) _ _ (ticks es parties table k) entry a is in (
      (λ h. subst (λ y. IsInside y counts entry) e (record { entry = a; there = is; first = (let le = leb-true own (slice_index counts a.party) h in omega (arith, x, le)) })),
      (λ h. le_true own (slice_index counts a.party) (first_of (subst (λ y. IsInside y counts entry) (sym e) h) x)),
    )
  where
    first_of : IsInside es counts entry → own ≡ suc (made_by es a.party entry) → own ≤ slice_index counts a.party
    first_of h x =
        let lt = subst (λ (y : Stamped). made_by es y.party entry < slice_index counts y.party) (same_Some h.entry a (sym h.there ∙ is)) h.first in
        omega (arith, x, lt)

-- ---- what an entry answers, by its mark

module _ (es : List Stamped) (parties : ℕ) (table seen : List ℕ) (k : IsWhole es parties table seen) where
  seen_at : (j : ℕ) (e : Stamped) → slice_get es j ≡ Some e
      → slice_index seen j ≡ seen_mark (marked_at es (no_marks (length k.kept.capacities) (suc k.kept.cores)) j) e
  seen_at j e is =
      k.marks.each j e (slice_get_within es j e is) is
      ∙ ap (λ p. seen_mark (marked_at es (no_marks (length k.kept.capacities) p) j) e) k.kept.parties_are

  answers_mark : (i j mark : ℕ) → mark ≡ slice_index seen j → Answers es i j → mark ≡ suc i
  answers_mark i j mark h a = h ∙ seen_at j a.answering a.answers_it ∙ seen_all k.kept.capacities k.kept.widths k.kept.cores es k.kept.legal i j a

  mark_made : (j mark w : ℕ) → j < length es → mark ≡ slice_index seen j → mark ≡ suc w → (w < j) × Answers es w j
  mark_made j mark w lt h is =
      let e = get_some es j lt in
      seen_made k.kept.capacities k.kept.widths k.kept.cores es k.kept.legal j w e.0 e.1 (sym (seen_at j e.0 e.1) ∙ sym h ∙ is)

  pub seen_within : (j mark : ℕ) → j < length es → mark ≡ slice_index seen j → 0 < mark → mark - 1 < length es
  seen_within j mark lt h some = let m = mark_made j mark (mark - 1) lt h (omega (arith, some)) in let below = m.0 in omega (arith, below, lt)

  module _ (counts : List ℕ) (j mark : ℕ) (within : j < length es) (is : mark ≡ slice_index seen j) where
    pub answers_none : mark ≡ 0 → IsOpenMark es counts j 0
    answers_none z = record {
      none = λ o i a inside. absurd (let m = answers_mark i j mark is a in omega (arith, m, z));
      some = λ i h. absurd (omega (arith, h));
      only = λ i a inside out. absurd (let m = answers_mark i j mark is a in omega (arith, m, z));
    }

    pub both_in_it : 0 < mark → IsInside es counts (mark - 1) → IsOpenMark es counts j 0
    both_in_it positive there = record {
      none = λ o i a inside. in_it i a;
      some = λ i h. absurd (omega (arith, h));
      only = λ i a inside out. absurd (out (in_it i a));
    }
      where
        in_it : (i : ℕ) → Answers es i j → IsInside es counts i
        in_it i a = let m = answers_mark i j mark is a in subst (λ x. IsInside es counts x) (omega (arith, m)) there

    pub open_there : 0 < mark → IsInside es counts j → (IsInside es counts (mark - 1) → ⊥) → IsOpenMark es counts j mark
    open_there positive inside out = record {
      none = λ z i a inside. absurd (omega (arith, z, positive));
      some = λ i h. ((mark_made j mark i within is h).1, inside, (λ there. out (subst (λ x. IsInside es counts x) (omega (arith, h)) there)));
      only = λ i a inside outside. answers_mark i j mark is a;
    }

-- ---- as contracts see it

module _ {code : Parts} {steps : ℕ} (es : List Stamped) (parties : ℕ) (table seen : List ℕ) (k : IsWhole es parties table seen) (r : CausalRun)
    (view : record { code = code; steps = steps; entries = es; parties = parties } ≡ r)
    (counts : List ℕ) (j mark : ℕ) (lt : j < length r.entries) (is : mark ≡ slice_index seen j) where
  same : es ≡ r.entries
  same = ap (λ (x : CausalRun). x.entries) view

  within : j < length es
  within = subst (λ x. j < length x) (sym same) lt

  of_these : (m : ℕ) → IsOpenMark es counts j m → IsOpenMark r.entries counts j m
  of_these m h = subst (λ x. IsOpenMark x counts j m) same h

  pub mark_within : 0 < mark → mark - 1 < length r.entries
  mark_within positive = subst (λ x. mark - 1 < length x) same (seen_within es parties table seen k j mark within is positive)

  pub sees_none : mark ≡ 0 → IsOpenMark r.entries counts j 0
  sees_none z = of_these 0 (answers_none es parties table seen k counts j mark within is z)

  pub both_inside : 0 < mark → (b : Bool) → b ≡ true → IsTrue b ↔ IsInside r.entries counts (mark - 1) → IsOpenMark r.entries counts j 0
  both_inside positive b h d = of_these 0 (both_in_it es parties table seen k counts j mark within is positive (subst (λ x. IsInside x counts (mark - 1)) (sym same) (d.0 h)))

  pub is_open_at : 0 < mark → (a b : Bool) → a ≡ true → IsTrue a ↔ IsInside r.entries counts j → b ≡ false → IsTrue b ↔ IsInside r.entries counts (mark - 1)
      → IsOpenMark r.entries counts j mark
  is_open_at positive a b h d g e = of_these mark (open_there es parties table seen k counts j mark within is positive (subst (λ x. IsInside x counts j) (sym same) (d.0 h))
      (λ i. (let bad : false ≡ true = sym g ∙ e.1 (subst (λ x. IsInside x counts (mark - 1)) same i) in cc)))

pub in_seen : {code : Parts} {steps : ℕ} (es : List Stamped) (parties : ℕ) (table seen : List ℕ) (k : IsWhole es parties table seen) (r : CausalRun)
    → record { code = code; steps = steps; entries = es; parties = parties } ≡ r
    → (j : ℕ) → j < length r.entries → j < length seen
in_seen es parties table seen k r view j lt =
    let a = k.marks.so_many in
    let b = ap (λ (x : CausalRun). length x.entries) view in
    omega (arith, a, b, lt)

-- ---- the least mark

module _ (es : List Stamped) (counts : List ℕ) (n least mark r : ℕ) (first : least ≡ 0 → r ≡ mark) (second : 0 < least → mark ≡ 0 → r ≡ least)
    (both : 0 < least → 0 < mark → r ≡ min least mark) (was : IsLeastMark es counts n least) (now : IsOpenMark es counts n mark) where
  one_of_two : (least ≡ 0) ⊎ (0 < least) → (mark ≡ 0) ⊎ (0 < mark) → (least < mark) ⊎ (mark ≤ least) → (r ≡ least) ⊎ (r ≡ mark)
  one_of_two (inl z) m o = inr (first z)
  one_of_two (inr p) (inl z) o = inl (second p z)
  one_of_two (inr p) (inr q) (inl lt) = let e = both p q in inl (omega (arith, e, lt))
  one_of_two (inr p) (inr q) (inr le) = let e = both p q in inr (omega (arith, e, le))

  none_by : r ≡ 0 → (i j : ℕ) → j < n + 1 → Answers es i j → IsInside es counts j → (j < n) ⊎ (n ≤ j) → IsInside es counts i
  none_by z i j lt a inside (inl before) = was.none (least_zero (zero_or least) (zero_or mark)) i j before a inside
    where
      least_zero : (least ≡ 0) ⊎ (0 < least) → (mark ≡ 0) ⊎ (0 < mark) → least ≡ 0
      least_zero (inl h) m = h
      least_zero (inr p) (inl h) = let e = second p h in absurd (omega (arith, e, z, p))
      least_zero (inr p) (inr q) = let e = both p q in absurd (omega (arith, e, z, p, q))
  none_by z i j lt a inside (inr last) =
      let same : j ≡ n = omega (arith, lt, last) in
      now.none (mark_zero (zero_or least) (zero_or mark)) i (subst (λ x. Answers es i x) same a) (subst (λ x. IsInside es counts x) same inside)
    where
      mark_zero : (least ≡ 0) ⊎ (0 < least) → (mark ≡ 0) ⊎ (0 < mark) → mark ≡ 0
      mark_zero l (inl h) = h
      mark_zero (inl h) (inr q) = let e = first h in omega (arith, e, z)
      mark_zero (inr p) (inr q) = let e = both p q in absurd (omega (arith, e, z, p, q))

  some_by : (i : ℕ) → r ≡ suc i → (r ≡ least) ⊎ (r ≡ mark) → IsOpenAt es counts i
  some_by i h (inl e) = was.some i (sym e ∙ h)
  some_by i h (inr e) = let s = now.some i (sym e ∙ h) in record { by = n; answers = s.0; inside = s.1; outside = s.2 }

  below_both : (i : ℕ) → ((0 < least) × (least ≤ suc i)) ⊎ (mark ≡ suc i) → (least ≡ 0) ⊎ (0 < least) → (mark ≡ 0) ⊎ (0 < mark) → (0 < r) × (r ≤ suc i)
  below_both i (inl l) (inl z) m = let p = l.0 in absurd (omega (arith, p, z))
  below_both i (inl l) (inr p) (inl z) = let e = second p z in let q = l.1 in (omega (arith, e, p), omega (arith, e, q))
  below_both i (inl l) (inr p) (inr q) = let e = both p q in let le = l.1 in (omega (arith, e, p, q), omega (arith, e, le))
  below_both i (inr m) (inl z) o = let e = first z in (omega (arith, e, m), omega (arith, e, m))
  below_both i (inr m) (inr p) (inl z) = absurd (omega (arith, m, z))
  below_both i (inr m) (inr p) (inr q) = let e = both p q in (omega (arith, e, p, q), omega (arith, e, m))

  least_by : (i j : ℕ) → j < n + 1 → Answers es i j → IsInside es counts j → (IsInside es counts i → ⊥) → (j < n) ⊎ (n ≤ j) → (0 < r) × (r ≤ suc i)
  least_by i j lt a inside out (inl before) = below_both i (inl (was.least i j before a inside out)) (zero_or least) (zero_or mark)
  least_by i j lt a inside out (inr last) =
      let same : j ≡ n = omega (arith, lt, last) in
      below_both i (inr (now.only i (subst (λ x. Answers es i x) same a) (subst (λ x. IsInside es counts x) same inside) out)) (zero_or least) (zero_or mark)

  pub least_goes_on : IsLeastMark es counts (n + 1) r
  least_goes_on = record {
    none = λ z i j lt a inside. none_by z i j lt a inside (cases_lt j n);
    some = λ i h. some_by i h (one_of_two (zero_or least) (zero_or mark) (cases_lt least mark));
    least = λ i j lt a inside out. least_by i j lt a inside out (cases_lt j n);
  }

pub is_closed : (es : List Stamped) (counts : List ℕ) (n : ℕ) → length es ≤ n → IsLeastMark es counts n 0 → IsCutAnswer es counts Closed
is_closed es counts n all l = λ i j a inside. l.none (omega arith) i j (let lt = slice_get_within es j a.answering a.answers_it in omega (arith, lt, all)) a inside

pub is_open : (es : List Stamped) (counts : List ℕ) (n least : ℕ) → length es ≤ n → 0 < least → IsLeastMark es counts n least → IsCutAnswer es counts (Open (least - 1))
is_open es counts n least all positive l = (
  l.some (least - 1) (omega (arith, positive)),
  (λ i o. (let lt = slice_get_within es o.by o.answers.answering o.answers.answers_it in let p = (l.least i o.by (omega (arith, lt, all)) o.answers o.inside o.outside).1 in omega (arith, p))),
)

-- Vectors tell the causal order: entry i is entry j or before it exactly where j's count of i's party is at least i's own.
-- An entry's count of its own party is above that of its party's last entry, and all its counts are at least those of that entry and of the
-- one that it answers, so counts rise along the order. Back: a count of another party comes from one of these two, and so on.
use Rattle.std.proofs.Common.{◌≡◌, ℕ, zero, suc, ◌<◌, ◌≤◌, List, Some, Bool, true, false, refl, sym, ap, ◌∙◌, subst, arith, ◌⊎◌, inl, inr, eq-eqb}
use Rattle.std.specs.Prelude.{◌==◌, slice_get, max}
use Rattle.std.proofs.lemmas.Bool.{eqb-true, cases_lt, cases_order, cases_Bool}
use Rattle.ac_base.specs.declared.entry.Stamped.{Stamped}
use Rattle.ac_causal.specs.Before.{Answers, IsEarlier, IsBefore, of_one_party, by_answer, by_way}
use Rattle.ac_causal.specs.inner.Marks.{ticked}

-- the count of a party at the entry of a mark
abbrev pub mark_count : (ℕ → ℕ → ℕ) → ℕ → ℕ → ℕ
mark_count at zero p = 0
mark_count at (suc w) p = at w p

-- the counts `at`, where `last` tells the mark of the last entry of an entry's party, and `seen` that of the entry that it answers
pub record Ticks (es : List Stamped) (parties : ℕ) (at : ℕ → ℕ → ℕ) (last seen : ℕ → Stamped → ℕ) : Type 0 where
  pub row : (j p : ℕ) (e : Stamped) → slice_get es j ≡ Some e → p < parties
      → at j p ≡ ticked (p == e.party) (max (mark_count at (last j e) p) (mark_count at (seen j e) p))
  pub party : (j : ℕ) (e : Stamped) → slice_get es j ≡ Some e → e.party < parties
  pub last_made : (j w : ℕ) (e : Stamped) → slice_get es j ≡ Some e → last j e ≡ suc w
      → (w < j) × ((x : Stamped) × (slice_get es w ≡ Some x) × (x.party ≡ e.party))
  pub last_reach : (i j : ℕ) (a e : Stamped) → i < j → slice_get es i ≡ Some a → slice_get es j ≡ Some e → a.party ≡ e.party → i < last j e
  pub seen_made : (j w : ℕ) (e : Stamped) → slice_get es j ≡ Some e → seen j e ≡ suc w → (w < j) × Answers es w j
  pub seen_all : (i j : ℕ) (a : Answers es i j) → seen j a.answering ≡ suc i

pub own_tick : (b : Bool) (n m : ℕ) → b ≡ true → m ≡ ticked b n → m ≡ suc n
own_tick true n m h e = e
own_tick false n m h e = let bad : false ≡ true = h in absurd (cc)

pub other_tick : (b : Bool) (n m : ℕ) → b ≡ false → m ≡ ticked b n → m ≡ n
other_tick true n m h e = let bad : true ≡ false = h in absurd (cc)
other_tick false n m h e = e

pub any_tick : (b : Bool) (n m : ℕ) → m ≡ ticked b n → n ≤ m
any_tick true n m e = let k : m ≡ suc n = e in omega (arith, k)
any_tick false n m e = let k : m ≡ n = e in omega (arith, k)

module _ (es : List Stamped) (parties : ℕ) (at : ℕ → ℕ → ℕ) (last seen : ℕ → Stamped → ℕ) (t : Ticks es parties at last seen) where
  -- ---- one row

  above_last : (j p w : ℕ) (e : Stamped) → slice_get es j ≡ Some e → p < parties → last j e ≡ suc w → at w p ≤ at j p
  above_last j p w e is lt h =
      let m : mark_count at (last j e) p ≡ at w p = ap (λ x. mark_count at x p) h in
      let a = any_tick (p == e.party) (max (mark_count at (last j e) p) (mark_count at (seen j e) p)) (at j p) (t.row j p e is lt) in
      omega (arith, m, a)

  above_seen : (j p w : ℕ) (e : Stamped) → slice_get es j ≡ Some e → p < parties → seen j e ≡ suc w → at w p ≤ at j p
  above_seen j p w e is lt h =
      let m : mark_count at (seen j e) p ≡ at w p = ap (λ x. mark_count at x p) h in
      let a = any_tick (p == e.party) (max (mark_count at (last j e) p) (mark_count at (seen j e) p)) (at j p) (t.row j p e is lt) in
      omega (arith, m, a)

  pub own_row : (j p : ℕ) (e : Stamped) → slice_get es j ≡ Some e → p ≡ e.party
      → at j p ≡ suc (max (mark_count at (last j e) p) (mark_count at (seen j e) p))
  own_row j p e is same =
      let lt = t.party j e is in
      own_tick (p == e.party) (max (mark_count at (last j e) p) (mark_count at (seen j e) p)) (at j p) (eq-eqb p e.party same) (t.row j p e is (omega (arith, lt, same)))

  pub other_row : (j p : ℕ) (e : Stamped) → slice_get es j ≡ Some e → p < parties → (p == e.party) ≡ false
      → at j p ≡ max (mark_count at (last j e) p) (mark_count at (seen j e) p)
  other_row j p e is lt other = other_tick (p == e.party) (max (mark_count at (last j e) p) (mark_count at (seen j e) p)) (at j p) other (t.row j p e is lt)

  -- ---- along a party

  -- what holds of the last entry of the party, and of each entry before it
  up_by : (i j p : ℕ) (a e : Stamped) → i < j → slice_get es i ≡ Some a → slice_get es j ≡ Some e → a.party ≡ e.party → p < parties
      → ((w : ℕ) (x : Stamped) → w < j → i < w → slice_get es w ≡ Some x → a.party ≡ x.party → at i p ≤ at w p)
      → (m : ℕ) → last j e ≡ m → (w : ℕ) × (last j e ≡ suc w) × (at i p ≤ at w p)
  up_by i j p a e lt is_a is_e same within before zero h = let r = t.last_reach i j a e lt is_a is_e same in absurd (omega (arith, r, h))
  up_by i j p a e lt is_a is_e same within before (suc w) h =
      let r = t.last_reach i j a e lt is_a is_e same in
      let m = t.last_made j w e is_e h in
      (w, h, up_at m (cases_lt i w))
    where
      up_at : (w < j) × ((x : Stamped) × (slice_get es w ≡ Some x) × (x.party ≡ e.party)) → (i < w) ⊎ (w ≤ i) → at i p ≤ at w p
      up_at m (inl less) = before w m.1.0 m.0 less m.1.1 (same ∙ sym m.1.2)
      up_at m (inr not_less) =
          let r = t.last_reach i j a e lt is_a is_e same in
          let here : i ≡ w = omega (arith, r, h, not_less) in
          let k : at i p ≡ at w p = ap (λ x. at x p) here in
          omega (arith, k)

  up : (b i j p : ℕ) (a e : Stamped) → j < b → i < j → slice_get es i ≡ Some a → slice_get es j ≡ Some e → a.party ≡ e.party → p < parties → at i p ≤ at j p
  up zero i j p a e jb lt is_a is_e same within = absurd (omega (arith, jb))
  up (suc b) i j p a e jb lt is_a is_e same within =
      let u = up_by i j p a e lt is_a is_e same within (λ w x wj iw is_x s. up b i w p a x (omega (arith, wj, jb)) iw is_a is_x s within) (last j e) refl in
      let below = u.2 in
      let more = above_last j p u.0 e is_e within u.1 in
      omega (arith, below, more)

  -- and its own count is above
  own_up : (i j : ℕ) (a e : Stamped) → i < j → slice_get es i ≡ Some a → slice_get es j ≡ Some e → a.party ≡ e.party → at i a.party < at j a.party
  own_up i j a e lt is_a is_e same =
      let within = t.party i a is_a in
      let u = up_by i j a.party a e lt is_a is_e same within (λ w x wj iw is_x s. up (suc w) i w a.party a x (omega arith) iw is_a is_x s within) (last j e) refl in
      let below = u.2 in
      let m : mark_count at (last j e) a.party ≡ at u.0 a.party = ap (λ x. mark_count at x a.party) u.1 in
      let r = own_row j a.party e is_e same in
      omega (arith, below, m, r)

  -- ---- counts rise along the order

  pub rises : (i j p : ℕ) → p < parties → IsBefore es i j → at i p ≤ at j p
  rises i j p within (of_one_party _ _ h) = up (suc j) i j p h.one h.next (omega arith) h.earlier h.is_one h.is_next h.party within
  rises i j p within (by_answer _ _ h) = above_seen j p i h.answering h.answers_it within (t.seen_all i j h)
  rises i j p within (by_way _ k _ f g) = let a = rises i k p within f in let b = rises k j p within g in omega (arith, a, b)

  pub earlier : (i j : ℕ) → IsBefore es i j → i < j
  earlier i j (of_one_party _ _ h) = h.earlier
  earlier i j (by_answer _ _ h) = (t.seen_made j i h.answering h.answers_it (t.seen_all i j h)).0
  earlier i j (by_way _ k _ f g) = let a = earlier i k f in let b = earlier k j g in omega (arith, a, b)

  -- ---- and tell it

  abbrev IsUpTo : ℕ → ℕ → Type 0
  IsUpTo i j = (i ≡ j) ⊎ IsBefore es i j

  then_of_party : (i w j : ℕ) → IsUpTo i w → IsEarlier es w j → IsBefore es i j
  then_of_party i w j (inl same) h = subst (λ x. IsBefore es x j) (sym same) (of_one_party w j h)
  then_of_party i w j (inr before) h = by_way i w j before (of_one_party w j h)

  then_answers : (i w j : ℕ) → IsUpTo i w → Answers es w j → IsBefore es i j
  then_answers i w j (inl same) h = subst (λ x. IsBefore es x j) (sym same) (by_answer w j h)
  then_answers i w j (inr before) h = by_way i w j before (by_answer w j h)

  -- of one party
  told_own : (i j : ℕ) (a e : Stamped) → slice_get es i ≡ Some a → slice_get es j ≡ Some e → a.party ≡ e.party → at i a.party ≤ at j a.party
      → (i ≡ j) ⊎ ((i < j) ⊎ (j < i)) → IsUpTo i j
  told_own i j a e is_a is_e same le (inl here) = inl here
  told_own i j a e is_a is_e same le (inr (inl lt)) =
      inr (of_one_party i j (record { one = a; next = e; is_one = is_a; is_next = is_e; party = same; earlier = lt }))
  told_own i j a e is_a is_e same le (inr (inr gt)) =
      let up : at j a.party < at i a.party = subst (λ q. at j q < at i q) (sym same) (own_up j i e a gt is_e is_a (sym same)) in
      absurd (omega (arith, up, le))

  -- of another party: by what the count comes from
  told_last : (i j : ℕ) (a e : Stamped) → slice_get es i ≡ Some a → slice_get es j ≡ Some e → 0 < at i a.party
      → ((w : ℕ) (x : Stamped) → w < j → slice_get es w ≡ Some x → at i a.party ≤ at w a.party → IsUpTo i w)
      → (m : ℕ) → last j e ≡ m → at i a.party ≤ mark_count at m a.party → IsBefore es i j
  told_last i j a e is_a is_e above before zero h le = absurd (omega (arith, above, le))
  told_last i j a e is_a is_e above before (suc w) h le =
      let m = t.last_made j w e is_e h in
      then_of_party i w j (before w m.1.0 m.0 m.1.1 le)
      (record { one = m.1.0; next = e; is_one = m.1.1; is_next = is_e; party = m.1.2; earlier = m.0 })

  told_seen : (i j : ℕ) (a e : Stamped) → slice_get es i ≡ Some a → slice_get es j ≡ Some e → 0 < at i a.party
      → ((w : ℕ) (x : Stamped) → w < j → slice_get es w ≡ Some x → at i a.party ≤ at w a.party → IsUpTo i w)
      → (m : ℕ) → seen j e ≡ m → at i a.party ≤ mark_count at m a.party → IsBefore es i j
  told_seen i j a e is_a is_e above before zero h le = absurd (omega (arith, above, le))
  told_seen i j a e is_a is_e above before (suc w) h le =
      let m = t.seen_made j w e is_e h in
      then_answers i w j (before w m.1.asking m.0 m.1.asks le) m.1

  told_other : (i j : ℕ) (a e : Stamped) → slice_get es i ≡ Some a → slice_get es j ≡ Some e → (a.party == e.party) ≡ false → at i a.party ≤ at j a.party
      → ((w : ℕ) (x : Stamped) → w < j → slice_get es w ≡ Some x → at i a.party ≤ at w a.party → IsUpTo i w)
      → (at i a.party ≤ mark_count at (last j e) a.party) ⊎ (mark_count at (last j e) a.party < at i a.party) → IsBefore es i j
  told_other i j a e is_a is_e other le before (inl by_last) =
      let own = own_row i a.party a is_a refl in
      told_last i j a e is_a is_e (omega (arith, own)) before (last j e) refl by_last
  told_other i j a e is_a is_e other le before (inr not_last) =
      let own = own_row i a.party a is_a refl in
      let r = other_row j a.party e is_e (t.party i a is_a) other in
      told_seen i j a e is_a is_e (omega (arith, own)) before (seen j e) refl (omega (arith, r, le, not_last))

  less_or : (x y : ℕ) → (x < y) ⊎ (y ≤ x) → (y ≤ x) ⊎ (x < y)
  less_or x y (inl lt) = inr lt
  less_or x y (inr le) = inl le

  told_by : (i j : ℕ) (a e : Stamped) → slice_get es i ≡ Some a → slice_get es j ≡ Some e → at i a.party ≤ at j a.party
      → ((w : ℕ) (x : Stamped) → w < j → slice_get es w ≡ Some x → at i a.party ≤ at w a.party → IsUpTo i w)
      → ((a.party == e.party) ≡ true) ⊎ ((a.party == e.party) ≡ false) → IsUpTo i j
  told_by i j a e is_a is_e le before (inl same) = told_own i j a e is_a is_e (eqb-true a.party e.party same) le (cases_order i j)
  told_by i j a e is_a is_e le before (inr other) =
      inr (told_other i j a e is_a is_e other le before
      (less_or (mark_count at (last j e) a.party) (at i a.party) (cases_lt (mark_count at (last j e) a.party) (at i a.party))))

  told_within : (b i j : ℕ) (a e : Stamped) → j < b → slice_get es i ≡ Some a → slice_get es j ≡ Some e → at i a.party ≤ at j a.party → IsUpTo i j
  told_within zero i j a e lt is_a is_e le = absurd (omega (arith, lt))
  told_within (suc b) i j a e lt is_a is_e le =
      told_by i j a e is_a is_e le (λ w x wj is_x more. told_within b i w a x (omega (arith, wj, lt)) is_a is_x more) (cases_Bool (a.party == e.party))

  pub told : (i j : ℕ) (a e : Stamped) → slice_get es i ≡ Some a → slice_get es j ≡ Some e → at i a.party ≤ at j a.party → IsUpTo i j
  told i j a e is_a is_e le = told_within (suc j) i j a e (omega arith) is_a is_e le

  pub tells : (i j : ℕ) (a : Stamped) → slice_get es i ≡ Some a → IsUpTo i j → at i a.party ≤ at j a.party
  tells i j a is_a (inl same) = let k : at i a.party ≡ at j a.party = ap (λ x. at x a.party) same in omega (arith, k)
  tells i j a is_a (inr before) = rises i j a.party (t.party i a is_a) before

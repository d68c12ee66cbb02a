-- A vector's counts are counts of entries: that of a party is how many of its entries are the entry or are before it.
-- Those of a party have 1, 2, 3 and so on as their own counts, in their order, and no count is above how many there are by then. So those of which
-- the own count is at most a given count are as many as that count.
use Rattle.std.proofs.Common.{◌≡◌, ℕ, zero, suc, ◌+◌, ◌<◌, ◌≤◌, List, [], ◌∷◌, length, Option, Some, None, Bool, true, false, cond, refl, sym, ap, ◌∙◌, subst, arith, ◌⊎◌, inl, inr, eq-eqb}
use Rattle.std.specs.Prelude.{◌==◌, ◌&&◌, slice_get, slice_index, nat_le, max, min}
use Rattle.std.proofs.lemmas.Bool.{eqb-true, cases_lt, cases_Bool}
use Rattle.std.proofs.lemmas.Bool.Decides.{leb_tells}
use Rattle.ac_base.specs.declared.entry.Stamped.{Stamped}
use Rattle.ac_causal.specs.Before.{IsBefore, count_below, is_of, IsVector}
use Rattle.ac_causal.proofs.Ticks.{mark_count, Ticks, own_row, other_tick, told, tells}

-- ---- counts

pub get_some : {X : Type 0} (xs : List X) (i : ℕ) → i < length xs → (x : X) × (slice_get xs i ≡ Some x)
get_some [] i lt = absurd (omega (arith, lt))
get_some (x ∷ xs) zero lt = (x, refl)
get_some (x ∷ xs) (suc i) lt = get_some xs i (omega (arith, lt))

le_or : (k m : ℕ) → k ≤ suc m → (k ≡ suc m) ⊎ (k ≤ m)
le_or k m h = by (cases_lt m k)
  where
    by : (m < k) ⊎ (k ≤ m) → (k ≡ suc m) ⊎ (k ≤ m)
    by (inl lt) = inl (omega (arith, lt, h))
    by (inr le) = inr le

module _ (test : ℕ → Bool) where
  count_more : (m : ℕ) → count_below test m ≤ count_below test (suc m)
  count_more m = omega arith

  le_step : (k m : ℕ) → (k ≤ m → count_below test k ≤ count_below test m) → (k ≡ suc m) ⊎ (k ≤ m) → count_below test k ≤ count_below test (suc m)
  le_step k m before (inl same) = let e : count_below test k ≡ count_below test (suc m) = ap (λ x. count_below test x) same in omega (arith, e)
  le_step k m before (inr le) = let a = count_more m in let b = before le in omega (arith, a, b)

  pub count_le : (k m : ℕ) → k ≤ m → count_below test k ≤ count_below test m
  count_le k zero h = let z : k ≡ 0 = omega (arith, h) in let e : count_below test k ≡ count_below test 0 = ap (λ x. count_below test x) z in omega (arith, e)
  count_le k (suc m) h = le_step k m (count_le k m) (le_or k m h)

  abbrev NoneFrom : ℕ → ℕ → Type 0
  NoneFrom k m = (i : ℕ) → k ≤ i → i < m → test i ≡ true → ⊥

  flat_step : (k m : ℕ) → NoneFrom k (suc m) → (k ≤ m → NoneFrom k m → count_below test m ≤ count_below test k)
      → (k ≡ suc m) ⊎ (k ≤ m) → (test m ≡ true) ⊎ (test m ≡ false) → count_below test (suc m) ≤ count_below test k
  flat_step k m none before (inl same) b = let e : count_below test k ≡ count_below test (suc m) = ap (λ x. count_below test x) same in omega (arith, e)
  flat_step k m none before (inr le) (inl holds) = absurd (none m le (omega arith) holds)
  flat_step k m none before (inr le) (inr fails) =
      let a = before le (λ i from lt. none i from (omega (arith, lt))) in
      let b : count_below test (suc m) ≡ count_below test m + 0 = ap (λ c. count_below test m + cond c 1 0) fails in
      omega (arith, a, b)

  count_flat : (k m : ℕ) → k ≤ m → NoneFrom k m → count_below test m ≤ count_below test k
  count_flat k zero h none = omega arith
  count_flat k (suc m) h none = flat_step k m none (count_flat k m) (le_or k m h) (cases_Bool (test m))

of_some : (q : ℕ) (o : Option Stamped) → is_of q o ≡ true → (a : Stamped) × (o ≡ Some a) × (a.party ≡ q)
of_some q None h = let bad : false ≡ true = h in absurd (cc)
of_some q (Some a) h = (a, refl, eqb-true a.party q h)

both_false : (x y : Bool) → y ≡ false → x && y ≡ false
both_false true y h = h
both_false false y h = refl

module _ (es : List Stamped) (parties : ℕ) (at : ℕ → ℕ → ℕ) (last seen : ℕ → Stamped → ℕ) (t : Ticks es parties at last seen) where
  -- how many of the first k entries are of the party
  abbrev of_party : ℕ → ℕ → ℕ
  of_party p k = count_below (λ i. is_of p (slice_get es i)) k

  one_more : (p j : ℕ) (e : Stamped) → slice_get es j ≡ Some e → e.party ≡ p → of_party p (suc j) ≡ suc (of_party p j)
  one_more p j e is same =
      let a : of_party p (suc j) ≡ of_party p j + 1 = ap (λ b. of_party p j + cond b 1 0) (ap (λ o. is_of p o) is ∙ eq-eqb e.party p same) in
      omega (arith, a)

  -- ---- no count is above how many there are

  mark_most : (j p m : ℕ) → ((w : ℕ) → m ≡ suc w → (w < j) × (at w p ≤ of_party p (suc w))) → mark_count at m p ≤ of_party p j
  mark_most j p zero h = omega arith
  mark_most j p (suc w) h =
      let a = h w refl in
      let b = a.1 in
      let lt = a.0 in
      let c = count_le (λ i. is_of p (slice_get es i)) (suc w) j (omega (arith, lt)) in
      omega (arith, b, c)

  most_by : (j p : ℕ) (e : Stamped) → slice_get es j ≡ Some e → p < parties
      → mark_count at (last j e) p ≤ of_party p j → mark_count at (seen j e) p ≤ of_party p j
      → ((p == e.party) ≡ true) ⊎ ((p == e.party) ≡ false) → at j p ≤ of_party p (suc j)
  most_by j p e is within a b (inl same) =
      let r = own_row es parties at last seen t j p e is (eqb-true p e.party same) in
      let m = one_more p j e is (sym (eqb-true p e.party same)) in
      omega (arith, a, b, r, m)
  most_by j p e is within a b (inr other) =
      let r = other_tick (p == e.party) (max (mark_count at (last j e) p) (mark_count at (seen j e) p)) (at j p) other (t.row j p e is within) in
      let m = count_le (λ i. is_of p (slice_get es i)) j (suc j) (omega arith) in
      omega (arith, a, b, r, m)

  most_within : (b j p : ℕ) (e : Stamped) → j < b → slice_get es j ≡ Some e → p < parties → at j p ≤ of_party p (suc j)
  most_within zero j p e lt is within = absurd (omega (arith, lt))
  most_within (suc b) j p e lt is within =
      let last_most = mark_most j p (last j e) (λ w h. (let m = t.last_made j w e is h in (m.0, (let c = m.0 in most_within b w p m.1.0 (omega (arith, c, lt)) m.1.1 within)))) in
      let seen_most = mark_most j p (seen j e) (λ w h. (let m = t.seen_made j w e is h in (m.0, (let c = m.0 in most_within b w p m.1.asking (omega (arith, c, lt)) m.1.asks within)))) in
      most_by j p e is within last_most seen_most (cases_Bool (p == e.party))

  most : (j p : ℕ) (e : Stamped) → slice_get es j ≡ Some e → p < parties → at j p ≤ of_party p (suc j)
  most j p e is within = most_within (suc j) j p e (omega arith) is within

  -- ---- an own count is how many there are

  last_within : (j m : ℕ) (e : Stamped) → slice_get es j ≡ Some e → last j e ≡ m → last j e ≤ j
  last_within j zero e is h = omega (arith, h)
  last_within j (suc w) e is h = let m = t.last_made j w e is h in let lt = m.0 in omega (arith, lt, h)

  none_between : (j : ℕ) (e : Stamped) → slice_get es j ≡ Some e → (i : ℕ) → last j e ≤ i → i < j → is_of e.party (slice_get es i) ≡ true → ⊥
  none_between j e is i from lt h =
      let a = of_some e.party (slice_get es i) h in
      let r = t.last_reach i j a.0 e lt a.1 is a.2 in
      omega (arith, r, from)

  mark_least : (q m : ℕ) → ((w : ℕ) → m ≡ suc w → of_party q (suc w) ≤ at w q) → of_party q m ≤ mark_count at m q
  mark_least q zero h = omega arith
  mark_least q (suc w) h = h w refl

  least_within : (b j : ℕ) (e : Stamped) → j < b → slice_get es j ≡ Some e → of_party e.party (suc j) ≤ at j e.party
  least_within zero j e lt is = absurd (omega (arith, lt))
  least_within (suc b) j e lt is =
      let before = mark_least e.party (last j e) (λ w h. least_at w (t.last_made j w e is h) (λ x le is_x. least_within b w x (omega (arith, le, lt)) is_x)) in
      let flat = count_flat (λ i. is_of e.party (slice_get es i)) (last j e) j (last_within j (last j e) e is refl) (none_between j e is) in
      let r = own_row es parties at last seen t j e.party e is refl in
      let m = one_more e.party j e is refl in
      omega (arith, before, flat, r, m)
    where
      least_at : (w : ℕ) → (w < j) × ((x : Stamped) × (slice_get es w ≡ Some x) × (x.party ≡ e.party))
          → ((x : Stamped) → w < j → slice_get es w ≡ Some x → of_party x.party (suc w) ≤ at w x.party) → of_party e.party (suc w) ≤ at w e.party
      least_at w m ih = subst (λ q. of_party q (suc w) ≤ at w q) m.1.2 (ih m.1.0 m.0 m.1.1)

  pub own_count : (j : ℕ) (e : Stamped) → slice_get es j ≡ Some e → at j e.party ≡ suc (of_party e.party j)
  own_count j e is =
      let a = most j e.party e is (t.party j e is) in
      let b = least_within (suc j) j e (omega arith) is in
      let m = one_more e.party j e is refl in
      omega (arith, a, b, m)

  -- ---- how many are in the past of an entry

  abbrev pub is_past_by : ℕ → ℕ → Option Stamped → Bool
  is_past_by j i None = false
  is_past_by j i (Some a) = nat_le (at i a.party) (at j a.party)

  abbrev pub is_past : ℕ → ℕ → Bool
  is_past j i = is_past_by j i (slice_get es i)

  abbrev counted : ℕ → ℕ → ℕ → ℕ
  counted j p k = count_below (λ i. is_past j i && is_of p (slice_get es i)) k

  count_own : (j p k : ℕ) (a : Stamped) → slice_get es k ≡ Some a → a.party ≡ p → counted j p k ≡ min (at j p) (of_party p k)
      → counted j p (suc k) ≡ counted j p k + cond (nat_le (at k a.party) (at j a.party) && (a.party == p)) 1 0
      → ((nat_le (at k p) (at j p) ≡ true) × (at k p ≤ at j p)) ⊎ ((nat_le (at k p) (at j p) ≡ false) × (at j p < at k p))
      → counted j p (suc k) ≡ min (at j p) (of_party p (suc k))
  count_own j p k a is same before next (inl holds) =
      let test : (nat_le (at k a.party) (at j a.party) && (a.party == p)) ≡ true =
      ap (λ q. nat_le (at k q) (at j q) && (a.party == p)) same ∙ ap (λ b. b && (a.party == p)) holds.0 ∙ eq-eqb a.party p same in
      let one : counted j p (suc k) ≡ counted j p k + 1 = next ∙ ap (λ b. counted j p k + cond b 1 0) test in
      let own : at k p ≡ suc (of_party p k) = subst (λ q. at k q ≡ suc (of_party q k)) same (own_count k a is) in
      let more = one_more p k a is same in
      let le = holds.1 in
      omega (arith, before, one, own, more, le)
  count_own j p k a is same before next (inr fails) =
      let test : (nat_le (at k a.party) (at j a.party) && (a.party == p)) ≡ false =
      ap (λ q. nat_le (at k q) (at j q) && (a.party == p)) same ∙ ap (λ b. b && (a.party == p)) fails.0 in
      let none : counted j p (suc k) ≡ counted j p k + 0 = next ∙ ap (λ b. counted j p k + cond b 1 0) test in
      let own : at k p ≡ suc (of_party p k) = subst (λ q. at k q ≡ suc (of_party q k)) same (own_count k a is) in
      let more = one_more p k a is same in
      let lt = fails.1 in
      omega (arith, before, none, own, more, lt)

  count_some : (j p k : ℕ) (a : Stamped) → slice_get es k ≡ Some a → counted j p k ≡ min (at j p) (of_party p k)
      → counted j p (suc k) ≡ counted j p k + cond (nat_le (at k a.party) (at j a.party) && (a.party == p)) 1 0
      → ((a.party == p) ≡ true) ⊎ ((a.party == p) ≡ false) → counted j p (suc k) ≡ min (at j p) (of_party p (suc k))
  count_some j p k a is before next (inl same) = count_own j p k a is (eqb-true a.party p same) before next (leb_tells (at k p) (at j p))
  count_some j p k a is before next (inr other) =
      let test = both_false (nat_le (at k a.party) (at j a.party)) (a.party == p) other in
      let none : counted j p (suc k) ≡ counted j p k + 0 = next ∙ ap (λ b. counted j p k + cond b 1 0) test in
      let same : of_party p (suc k) ≡ of_party p k + 0 = ap (λ b. of_party p k + cond b 1 0) (ap (λ o. is_of p o) is ∙ other) in
      omega (arith, before, none, same)

  count_step : (j p k : ℕ) → counted j p k ≡ min (at j p) (of_party p k) → (o : Option Stamped) → slice_get es k ≡ o
      → counted j p (suc k) ≡ min (at j p) (of_party p (suc k))
  count_step j p k before None is =
      let none : counted j p (suc k) ≡ counted j p k + 0 = ap (λ o. counted j p k + cond (is_past_by j k o && is_of p o) 1 0) is in
      let same : of_party p (suc k) ≡ of_party p k + 0 = ap (λ o. of_party p k + cond (is_of p o) 1 0) is in
      omega (arith, before, none, same)
  count_step j p k before (Some a) is =
      let next : counted j p (suc k) ≡ counted j p k + cond (nat_le (at k a.party) (at j a.party) && (a.party == p)) 1 0 =
      ap (λ o. counted j p k + cond (is_past_by j k o && is_of p o) 1 0) is in
      count_some j p k a is before next (cases_Bool (a.party == p))

  count_all : (j p k : ℕ) → counted j p k ≡ min (at j p) (of_party p k)
  count_all j p zero = omega arith
  count_all j p (suc k) = count_step j p k (count_all j p k) (slice_get es k) refl

  past_count : (j p : ℕ) (e : Stamped) → slice_get es j ≡ Some e → j < length es → p < parties → at j p ≡ counted j p (length es)
  past_count j p e is lt within =
      let a = count_all j p (length es) in
      let b = most j p e is within in
      let c = count_le (λ i. is_of p (slice_get es i)) (suc j) (length es) (omega (arith, lt)) in
      omega (arith, a, b, c)

  told_by : (j i : ℕ) (e : Stamped) → slice_get es j ≡ Some e → (o : Option Stamped) → slice_get es i ≡ o → is_past_by j i o ≡ true → (i ≡ j) ⊎ IsBefore es i j
  told_by j i e is None is_i h = let bad : false ≡ true = h in absurd (cc)
  told_by j i e is (Some a) is_i h = told es parties at last seen t i j a e is_i is (le_of (at i a.party) (at j a.party) (leb_tells (at i a.party) (at j a.party)) h)
    where
      le_of : (x y : ℕ) → ((nat_le x y ≡ true) × (x ≤ y)) ⊎ ((nat_le x y ≡ false) × (y < x)) → nat_le x y ≡ true → x ≤ y
      le_of x y (inl holds) h = holds.1
      le_of x y (inr fails) h = let bad : false ≡ true = sym fails.0 ∙ h in absurd (cc)

  tells_by : (j i : ℕ) → (a : Stamped) × (slice_get es i ≡ Some a) → (i ≡ j) ⊎ IsBefore es i j → is_past j i ≡ true
  tells_by j i a h =
      ap (λ o. is_past_by j i o) a.1 ∙ yes_of (at i a.0.party) (at j a.0.party) (leb_tells (at i a.0.party) (at j a.0.party)) (tells es parties at last seen t i j a.0 a.1 h)
    where
      yes_of : (x y : ℕ) → ((nat_le x y ≡ true) × (x ≤ y)) ⊎ ((nat_le x y ≡ false) × (y < x)) → x ≤ y → nat_le x y ≡ true
      yes_of x y (inl holds) h = holds.0
      yes_of x y (inr fails) h = let lt = fails.1 in absurd (omega (arith, lt, h))

  pub is_vector : (j : ℕ) (counts : List ℕ) → j < length es → length counts ≡ parties → ((p : ℕ) → p < parties → slice_index counts p ≡ at j p)
      → IsVector es parties j counts
  is_vector j counts lt as_many each =
      let e = get_some es j lt in
      record {
        parties_are = as_many;
        past = is_past j;
        in_past = λ i lt_i h. told_by j i e.0 e.1 (slice_get es i) refl h;
        all_past = λ i lt_i h. tells_by j i (get_some es i lt_i) h;
        counted = λ p within. each p within ∙ past_count j p e.0 e.1 lt within;
      }

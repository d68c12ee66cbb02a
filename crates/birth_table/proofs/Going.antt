-- What becomes of slots when a value goes.
-- The slots of numbers are the first of the list, so what is done to one of them, or to their end, is seen in what is taken of the list. The
-- last number goes by moving that end; another one's slot is emptied; and slots that tell no key are left out from time to time.
use Rattle.std.proofs.Common.{◌≡◌, ℕ, zero, suc, ◌+◌, ◌-◌, ◌<◌, ◌≤◌, List, [], ◌∷◌, ◌++◌, length, take, Option, Some, IsSome, Bool, true, false, cond}
use Rattle.std.proofs.Common.{sym, ap, ◌∙◌, refl, subst, arith, get_or, set, count_by, length-append, length-set}
use Rattle.std.specs.Prelude.{slice_get, filter, IfSome}
use Rattle.std.proofs.lemmas.List.{take_more}
use Rattle.std.proofs.Math.Seq.{take-set-lt}
use Rattle.std.proofs.lemmas.Option.{slice_get-get_or, slice_get_within, get_or_from_slice_get}
use Rattle.std.proofs.lemmas.List.Sums.{length-filter, count_by-le-length, sum_by-cons, sum_by-take-le}
use Rattle.birth_table.specs.declared.index.Slot.{Slot}
use Rattle.birth_table.specs.declared.leaving.Ends.{Ends}
use Rattle.birth_table.specs.Keys.{lives, slot_at, key_of, Rises}
use Rattle.birth_table.specs.Kept.{AreBelow}
use Rattle.birth_table.specs.inner.Slots.{IsAt, HaveSameKeys, IsWithout, AreFewer, emptied}
use Rattle.birth_table.proofs.Rising.{read, is_of_other}
use Rattle.birth_table.proofs.Keys.{count, one, one_gone, one_lives, same_keys, keys_then, filtered, trimmed}
use Rattle.birth_table.proofs.Keys.{rises_front, count_filter, count_push, count_set, key_push_other, key_at_place, unborn, without}
use Rattle.birth_table.proofs.Counts.{under, there, once, once_other, under_set, under_filter}

abbrev pub no_slot : Slot
no_slot = record { number = 0; key = 18446744073709551615 }

-- ---- the first of a list

pub take_short : (n : ℕ) (slots : List Slot) → length (take n slots) ≤ n
take_short zero slots = omega arith
take_short (suc n) [] = omega arith
take_short (suc n) (x ∷ xs) = omega (arith, take_short n xs)

pub get_taken : (n i : ℕ) (slots : List Slot) (s : Slot) → slice_get (take n slots) i ≡ Some s → (i < n) × (slice_get slots i ≡ Some s)
get_taken zero i slots s e = absurd (cc)
get_taken (suc n) i [] s e = absurd (cc)
get_taken (suc n) zero (x ∷ xs) s e = (omega arith, e)
get_taken (suc n) (suc i) (x ∷ xs) s e = let h = get_taken n i xs s e in (omega (arith, h.0), h.1)

pub same_slot : (slots : List Slot) (i : ℕ) (s : Slot) → slice_get slots i ≡ Some s → slot_at slots i ≡ s
same_slot slots i s e = get_or_from_slice_get slots i s no_slot e

-- one more
pub take_one_more : (slots : List Slot) (i : ℕ) → i < length slots → take (i + 1) slots ≡ take i slots ++ slot_at slots i ∷ []
take_one_more slots i lt = take_more slots i no_slot lt

-- ---- fewer slots

pub fewer_filter : (slots : List Slot) → AreFewer slots (filter lives slots)
fewer_filter slots = record {
  fewer = λ key. under_filter key slots;
  count = count_filter slots;
  shorter = (filtered slots).shorter;
}

-- ---- the end of the numbers

pub trim_step : (slots : List Slot) (top low : ℕ) → 0 < low → low ≤ length slots → HaveSameKeys (take top slots) (take low slots) → lives (slot_at slots (low - 1)) ≡ false
    → HaveSameKeys (take top slots) (take (low - 1) slots)
trim_step slots top low some within h gone =
    let before = take (low - 1) slots in
    let s = slot_at slots (low - 1) in
    let is : low - 1 + 1 ≡ low = omega arith in
    let split : take low slots ≡ before ++ s ∷ [] = ap (λ n. take n slots) (sym is) ∙ take_one_more slots (low - 1) (omega arith) in
    keys_then (take top slots) (take low slots) before h (subst (λ xs. HaveSameKeys xs before) (sym split) (trimmed before s gone))

pub ends_trimmed : (slots : List Slot) (ends : Ends) (top : ℕ) → AreBelow slots ends → top ≤ ends.top → HaveSameKeys (take ends.top slots) (take top slots)
    → (ends.top - top ≤ ends.gone) × AreBelow slots (record { top = top; gone = ends.gone - (ends.top - top) })
ends_trimmed slots ends top a le h =
    let few = count_by-le-length lives (take top slots) in
    let short = take_short top slots in (
      omega (arith, a.gaps, h.count, few, short),
      record {
        within = omega (arith, a.within);
        gaps = omega (arith, a.gaps, h.count, few, short);
      },
    )

take_filter : (slots : List Slot) (n : ℕ) → take (count (take n slots)) (filter lives slots) ≡ filter lives (take n slots)
take_filter slots zero = refl
take_filter [] (suc n) = refl
take_filter (x ∷ xs) (suc n) = go (take_filter xs n) (lives x) refl
  where
    go : take (count (take n xs)) (filter lives xs) ≡ filter lives (take n xs) → (b : Bool) → lives x ≡ b → take (count (x ∷ take n xs)) (cond b (x ∷ filter lives xs) (filter lives xs)) ≡ cond b
        (x ∷ filter lives (take n xs)) (filter lives (take n xs))
    go h true e =
        let many : count (x ∷ take n xs) ≡ suc (count (take n xs)) = omega (arith, sum_by-cons one x (take n xs), one_lives x e) in
        ap (λ k. take k (x ∷ filter lives xs)) many ∙ ap (λ ys. x ∷ ys) h
    go h false e =
        let many : count (x ∷ take n xs) ≡ count (take n xs) = omega (arith, sum_by-cons one x (take n xs), one_gone x e) in
        ap (λ k. take k (filter lives xs)) many ∙ h

pub squeezed : (slots : List Slot) (top gone : ℕ) → AreBelow slots (record { top = top; gone = gone })
    → AreBelow (filter lives slots) (record { top = top - gone; gone = 0 }) × HaveSameKeys (take top slots) (take (top - gone) (filter lives slots))
squeezed slots top gone a =
    let values : top - gone ≡ count (take top slots) = omega (arith, a.gaps) in
    let taken : take (top - gone) (filter lives slots) ≡ filter lives (take top slots) = ap (λ k. take k (filter lives slots)) values ∙ take_filter slots top in
    let many : count (take (top - gone) (filter lives slots)) ≡ count (take top slots) = ap (count_by lives) taken ∙ count_filter (take top slots) in (
      record {
        within = omega (arith, values, sum_by-take-le one slots top, length-filter lives slots);
        gaps = omega (arith, values, many);
      },
      subst (λ xs. HaveSameKeys (take top slots) xs) (sym taken) (filtered (take top slots)),
    )

-- ---- a slot that is emptied

module _ (slots : List Slot) (place : ℕ) (within : place < length slots) (live : lives (slot_at slots place) ≡ true) where
  here : slice_get slots place ≡ Some (slot_at slots place)
  here = slice_get-get_or slots place (record { number = 0; key = 18446744073709551615 }) within

  pub emptied_less : (key : ℕ) → key < 18446744073709551615 → under key (emptied slots place) + once key (slot_at slots place) ≡ under key slots
  emptied_less key lt =
      let t : Slot = record { number = (slot_at slots place).number; key = 18446744073709551615 } in
      let none : once key t ≡ 0 = once_other key t (λ e. omega (arith, lt, e)) in
      omega (arith, under_set key slots place t within, none)

  pub emptied_count : count (emptied slots place) + 1 ≡ count slots
  emptied_count = count_set slots place (slot_at slots place) (record { number = (slot_at slots place).number; key = 18446744073709551615 }) here live refl

-- the same, of what was read there
module _ (slots : List Slot) (place : ℕ) (s : Slot) (read : s ≡ get_or slots place s) (live : lives (slot_at slots place) ≡ true) where
  pub read_is : slot_at slots place ≡ s
  read_is = same_slot slots place s (slice_get-get_or slots place s (there slots place live) ∙ ap Some (sym read))

  pub read_live : lives s ≡ true
  read_live = ap lives (sym read_is) ∙ live

  pub read_less : (key : ℕ) → key < 18446744073709551615 → under key (set slots place (record { number = s.number; key = 18446744073709551615 })) + once key s ≡ under key slots
  read_less key lt =
      subst (λ (t : Slot). under key (set slots place (record { number = t.number; key = 18446744073709551615 })) + once key t ≡ under key slots) read_is
      (emptied_less slots place (there slots place live) live key lt)

  pub read_count : count (set slots place (record { number = s.number; key = 18446744073709551615 })) + 1 ≡ count slots
  read_count =
      subst (λ (t : Slot). count (set slots place (record { number = t.number; key = 18446744073709551615 })) + 1 ≡ count slots) read_is
      (emptied_count slots place (there slots place live) live)

-- ---- a number that goes

pub place_is : (slots read : List Slot) (top number place : ℕ) (o : Option ℕ) → IfSome o (λ p. IsAt (take top read) number p) → o ≡ Some place → read ≡ slots
    → IsAt (take top slots) number place
place_is slots read top number place o h e same =
    let at : IsAt (take top read) number place = subst (λ (x : Option ℕ). IfSome x (λ p. IsAt (take top read) number p)) e h in
    subst (λ (xs : List Slot). IsAt (take top xs) number place) same at

pub last_goes : (slots : List Slot) (ends : Ends) (place number : ℕ) → AreBelow slots ends → place + 1 ≡ ends.top → (r : (high : ℕ) × Rises 0 (take ends.top slots) high)
    → IsAt (take ends.top slots) number place → IsSome (key_of (take ends.top slots) number)
    → IsWithout (take ends.top slots) number (take place slots) × AreBelow slots (record { top = place; gone = ends.gone })
last_goes slots ends place number a is r at some =
    let got = get_taken ends.top place slots at.0 at.1 in
    let s : Slot = slot_at slots place in
    let same : slot_at slots place ≡ at.0 = same_slot slots place at.0 got.1 in
    let lt = slice_get_within slots place at.0 got.1 in
    let split : take ends.top slots ≡ take place slots ++ s ∷ [] = ap (λ n. take n slots) (sym is) ∙ take_one_more slots place lt in
    let live : lives s ≡ true = ap lives same ∙ (key_at_place (take ends.top slots) r.0 number place r.1 at some).0 in
    let its : s.number ≡ number = ap (λ (u : Slot). u.number) same ∙ at.2 in
    let rises : Rises 0 (take place slots ++ s ∷ []) r.0 = subst (λ xs. Rises 0 xs r.0) split r.1 in
    let many = count_push (take place slots) s in
    let adds = one_lives s live in (
      subst (λ xs. IsWithout xs number (take place slots)) (sym split) (record {
        gone = unborn (take place slots) number number (rises_init 0 (take place slots) s r.0 number its rises) (omega arith);
        others = λ other ne. sym (key_push_other (take place slots) s other (is_of_other other s (λ e. ne (sym its ∙ e))));
        rise = λ high k. rises_front 0 (take place slots) s high k;
        count = omega (arith, many, adds);
        shorter = omega (arith, length-append (take place slots) (s ∷ []));
      }),
      record {
        within = omega (arith, lt);
        gaps = omega (arith, a.gaps, ap (count_by lives) split, many, adds, is);
      },
    )
  where
    rises_init : (low : ℕ) (xs : List Slot) (s : Slot) (high n : ℕ) → s.number ≡ n → Rises low (xs ++ s ∷ []) high → Rises low xs n
    rises_init low [] s high n e r = omega (arith, r.0, e)
    rises_init low (x ∷ xs) s high n e r = (r.0, rises_init (suc x.number) xs s high n e r.1)

pub older_goes : (slots : List Slot) (ends : Ends) (place number : ℕ) → AreBelow slots ends → (r : (high : ℕ) × Rises 0 (take ends.top slots) high)
    → IsAt (take ends.top slots) number place → IsSome (key_of (take ends.top slots) number)
    → (lives (slot_at slots place) ≡ true) × IsWithout (take ends.top slots) number (take ends.top (emptied slots place))
    × AreBelow (emptied slots place) (record { top = ends.top; gone = ends.gone + 1 })
older_goes slots ends place number a r at some =
    let got = get_taken ends.top place slots at.0 at.1 in
    let same : slot_at slots place ≡ at.0 = same_slot slots place at.0 got.1 in
    let t : Slot = record { number = (slot_at slots place).number; key = 18446744073709551615 } in
    let live = (key_at_place (take ends.top slots) r.0 number place r.1 at some).0 in
    let split : take ends.top (emptied slots place) ≡ set (take ends.top slots) place t = take-set-lt ends.top slots place t got.0 in
    let less = without (take ends.top slots) (set (take ends.top slots) place t) r.0 number place t r.1 at live (ap (λ (u : Slot). u.number) same) refl
    (same_keys (set (take ends.top slots) place t)) in (
      ap lives same ∙ live,
      subst (λ xs. IsWithout (take ends.top slots) number xs) (sym split) less,
      record {
        within = omega (arith, a.within, length-set slots place t);
        gaps = omega (arith, a.gaps, less.count, ap (count_by lives) split);
      },
    )

-- Stretches of the table of a frame, which says what each of its slots holds. A table that goes on with two parts goes on with the first
-- here and with the second after it, so each statement gets the stretch of its own slots.
use Rattle.std.proofs.Common.{◌≡◌, ℕ, zero, suc, ◌+◌, ◌-◌, ◌<◌, ◌≤◌, List, [], ◌∷◌, ◌++◌, length, Some, refl, ap, ◌∙◌, length-append, arith}
use Rattle.std.specs.Prelude.{slice_get}
use Rattle.ac_resolve.specs.InPlace.{Use, AsInt}
use Rattle.ac_resolve.proofs.Uses.{ints, many_ints}

-- so many slots from that one on hold that
pub record Hold (us : List Use) (slot len : ℕ) (what : Use) : Type 0 where
  pub room : slot + len ≤ length us
  pub each : (at : ℕ) → slot ≤ at → at < slot + len → slice_get us at ≡ Some what

-- from that slot on the table goes on with these
pub record Stands (us part : List Use) (slot : ℕ) : Type 0 where
  pub room : slot + length part ≤ length us
  pub each : (at : ℕ) (what : Use) → slice_get part at ≡ Some what → slice_get us (slot + at) ≡ Some what

pub whole_stands : (us : List Use) → Stands us us 0
whole_stands us = record { room = omega arith; each = λ at what e. ap (slice_get us) (none_before at) ∙ e } where
  none_before : (at : ℕ) → 0 + at ≡ at
  none_before at = omega arith

get_sooner : (xs ys : List Use) (at : ℕ) (what : Use) → slice_get xs at ≡ Some what → slice_get (xs ++ ys) at ≡ Some what
get_sooner [] ys at what e = cc
get_sooner (x ∷ xs) ys zero what e = e
get_sooner (x ∷ xs) ys (suc at) what e = get_sooner xs ys at what e

get_later : (xs ys : List Use) (at : ℕ) → slice_get (xs ++ ys) (length xs + at) ≡ slice_get ys at
get_later [] ys at = ap (slice_get ys) (none_before at) where
  none_before : (at : ℕ) → 0 + at ≡ at
  none_before at = omega arith
get_later (x ∷ xs) ys at = ap (slice_get (x ∷ (xs ++ ys))) (one_before (length xs) at) ∙ get_later xs ys at where
  one_before : (n at : ℕ) → suc n + at ≡ suc (n + at)
  one_before n at = omega arith

pub stands_sooner : (us xs ys : List Use) (slot : ℕ) → Stands us (xs ++ ys) slot → Stands us xs slot
stands_sooner us xs ys slot h = let room = h.room in record {
  room = omega (arith, room, length-append xs ys);
  each = λ at what e. h.each at what (get_sooner xs ys at what e);
}

-- after so many
pub stands_later : (us xs ys : List Use) (slot n : ℕ) → length xs ≡ n → Stands us (xs ++ ys) slot → Stands us ys (slot + n)
stands_later us xs ys slot n l h = let room = h.room in record {
  room = omega (arith, room, l, length-append xs ys);
  each = λ at what e. ap (slice_get us) (further slot n (length xs) at l) ∙ h.each (length xs + at) what (get_later xs ys at ∙ e);
} where
  further : (slot n m at : ℕ) → m ≡ n → (slot + n) + at ≡ slot + (m + at)
  further slot n m at e = omega (arith, e)

pub hold_one : (us : List Use) (what : Use) (slot : ℕ) → Stands us (what ∷ []) slot → Hold us slot 1 what
hold_one us what slot h = record {
  room = h.room;
  each = λ at le lt. ap (slice_get us) (only slot at le lt) ∙ h.each 0 what refl;
} where
  only : (slot at : ℕ) → slot ≤ at → at < slot + 1 → at ≡ slot + 0
  only slot at le lt = omega (arith, le, lt)

get_int : (n at : ℕ) → at < n → slice_get (ints n) at ≡ Some AsInt
get_int zero at lt = absurd (omega (arith, lt))
get_int (suc n) zero lt = refl
get_int (suc n) (suc at) lt = get_int n at (omega (arith, lt))

pub hold_ints : (us : List Use) (len slot : ℕ) → Stands us (ints len) slot → Hold us slot len AsInt
hold_ints us len slot h = let room = h.room in let many = many_ints len in record {
  room = omega (arith, room, many);
  each = λ at le lt. ap (slice_get us) (apart slot at le) ∙ h.each (at - slot) AsInt (get_int len (at - slot) (below slot at le lt));
} where
  apart : (slot at : ℕ) → slot ≤ at → at ≡ slot + (at - slot)
  apart slot at le = omega (arith, le)

  below : (slot at : ℕ) → slot ≤ at → at < slot + len → at - slot < len
  below slot at le lt = omega (arith, le, lt)

-- one slot of those
pub hold_first : (us : List Use) (slot : ℕ) (what : Use) → Hold us slot 1 what → slice_get us slot ≡ Some what
hold_first us slot what h = h.each slot (omega arith) (omega arith)

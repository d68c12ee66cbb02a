-- What the definitions of Ends, of Cells and of inner/Cells say of a few cells.
-- Each law computes, but for those on how cells end, which differ in their last cell.
use Rattle.std.proofs.Common.{◌≡◌, refl, pos, List, [], ◌∷◌, map}
use Rattle.work_item.specs.declared.cell.Cell.{Cell}
use Rattle.work_item.specs.declared.cell.Cell.TheVariants as c
use Rattle.work_item.specs.Ends.{EndsInInt, EndsInPlace}
use Rattle.work_item.specs.Store.{int_in, no_place}
use Rattle.work_item.specs.Cells.{others_from, laid, AreKept}
use Rattle.work_item.specs.inner.Cells.{IsOther, IsAt, AreOthers}
use Rattle.work_item.proofs.Rows.{snoc_both}
use Rattle.work_item.proofs.RowCalls.{one}

abbrev pub front : List Cell
front = c.Int (pos 4) ∷ c.Array no_place ∷ []

pub an_int_is_last : EndsInInt (c.Int (pos 4) ∷ c.Array no_place ∷ c.Int (pos 5) ∷ []) × (EndsInInt front → ⊥)
an_int_is_last = (
  (front, (pos 5, refl)),
  λ h. let no_int_there = (snoc_both (c.Int (pos 4) ∷ []) h.0 (c.Array no_place) (c.Int h.1.0) h.1.1).1 in absurd (cc),
)

pub a_reference_is_last : EndsInPlace front × (EndsInPlace (c.Int (pos 4) ∷ []) → ⊥)
a_reference_is_last = (
  (c.Int (pos 4) ∷ [], (no_place, refl)),
  λ h. let no_place_there = (snoc_both [] h.0 (c.Int (pos 4)) (c.Array h.1.0) h.1.1).1 in absurd (cc),
)

-- the reference stands at its index, also where the first cell stands at another one than 0
pub others_stand_apart : (others_from 0 front ≡ one 1 (c.Array no_place) ∷ []) × (others_from 3 front ≡ one 4 (c.Array no_place) ∷ [])
    × (map int_in front ≡ pos 4 ∷ pos 0 ∷ []) × (laid 3 (pos 4 ∷ pos 0 ∷ []) (one 4 (c.Array no_place) ∷ []) ≡ front)
others_stand_apart = (refl, refl, refl, refl)

pub one_is_found : IsAt (one 4 (c.Array no_place) ∷ []) 0 4 × (IsAt [] 0 4 → ⊥) × AreOthers (one 4 (c.Array no_place) ∷ [])
one_is_found = ((one 4 (c.Array no_place), (refl, refl)), (λ h. let none_there = h.1.0 in absurd (cc)), (3, (front, refl)))

pub an_int_is_no_other : IsOther (c.Array no_place) × (IsOther (c.Int (pos 0)) → ⊥)
an_int_is_no_other = (tt, λ h. h)

-- a word is 0 where the cell is none, and no other stands where no cell does
pub a_reference_has_the_word_0 : AreKept 0 (pos 4 ∷ pos 0 ∷ []) (one 1 (c.Array no_place) ∷ []) × (AreKept 0 (pos 4 ∷ pos 7 ∷ []) (one 1 (c.Array no_place) ∷ []) → ⊥)
    × (AreKept 0 (pos 4 ∷ []) (one 1 (c.Array no_place) ∷ []) → ⊥)
a_reference_has_the_word_0 = (
  record { words_are = refl; others_are = refl },
  (λ k. let no_seven = k.words_are in absurd (cc)),
  (λ k. let no_other = k.others_are in absurd (cc)),
)

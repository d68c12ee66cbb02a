-- What always holds of the globals and the frames holds after each call.
-- `IsWhole`: a frame whose end has come has a child that lives, and all words fit 64 bits. A write keeps parent, end and length of a frame;
-- a new frame adds the words that the call has counted.
use Rattle.std.proofs.Common.{◌≡◌, ℕ, ◌+◌, ◌<◌, ◌≤◌, ◌^◌, List, [], ◌∷◌, ◌++◌, length, Option, Some, None, Result, Ok, Err, OnOk}
use Rattle.std.proofs.Common.{OnErr, true, false, ℤ, inl, inr, refl, sym, ap, ◌∙◌, subst, arith, set, get_or-set_same, length-set}
use Rattle.std.proofs.lemmas.Bool.{cases_eq}
use Rattle.std.proofs.lemmas.List.{set-get_or}
use Rattle.ac_base.specs.declared.memory.NoMemory.{NoMemory}
use Rattle.work_item.specs.declared.cell.Cell.{Cell}
use Rattle.work_item.specs.declared.ids.FrameId.{FrameId}
use Rattle.work_item.specs.Store.{Frame, no_cells, some_with, all_words}
use Rattle.work_item.specs.inner.Kept.{new_frame}
use Rattle.work_item.specs.Table.{at, children_of, IsSettled, IsWhole}
use Rattle.work_item.proofs.Filling.{filled, length-filled}
use Rattle.work_item.proofs.Children.{within, other, pushed, children_same, children-push, words_same, words-push}

settled_same : (t : List (Option Frame)) (n : ℕ) (x y : Frame) → IsSettled t → at t n ≡ Some x → y.parent ≡ x.parent → y.over ≡ x.over → IsSettled (set t n (Some y))
settled_same t n x y s e parent over m z ez o =
    let as_many = children_same t n x y m e parent in
    elim (cases_eq n m) as (λ _. 0 < children_of (set t n (Some y)) m) [
      | inl q ↦
          let here : at (set t n (Some y)) m ≡ Some y = subst (λ k. at (set t n (Some y)) k ≡ Some y) q (get_or-set_same t n (Some y) None (within t n x e)) in
          let is : y ≡ z = (let h : Some y ≡ Some z = sym here ∙ ez in cc) in
          let k = s m x (subst (λ j. at t j ≡ Some x) q e) (sym over ∙ ap (λ w. w.over) is ∙ o) in
          omega (arith, k, as_many)
      | inr ne ↦
          let k = s m z (sym (other t n m (Some y) ne) ∙ ez) o in
          omega (arith, k, as_many)
    ]

pub whole_with : (globals : List ℤ) (t : List (Option Frame)) (n : ℕ) (cells : List Cell) → IsWhole globals t → length cells ≡ length (no_cells (at t n))
    → IsWhole globals (set t n (some_with cells (at t n)))
whole_with globals t n cells w l = go (at t n) refl l
  where
    go : (o : Option Frame) → at t n ≡ o → length cells ≡ length (no_cells o) → IsWhole globals (set t n (some_with cells o))
    go None e k = subst (IsWhole globals) (sym (ap (set t n) (sym e) ∙ set-get_or t n None)) w
    go (Some x) e k = record {
      settled = settled_same t n x (record x { cells = cells }) w.settled e refl refl;
      fits = omega (arith, w.fits, words_same t n x (record x { cells = cells }) e k);
    }

-- a write for which memory may be wanted
pub whole_set : (globals : List ℤ) (t u : List (Option Frame)) (n slot : ℕ) (x : Cell) (r : Result Unit NoMemory) → IsWhole globals t
    → OnOk r (u ≡ set t n (some_with (set (no_cells (at t n)) slot x) (at t n))) → OnErr r (u ≡ t) → IsWhole globals u
whole_set globals t u n slot x (Ok v) w ok err =
    subst (IsWhole globals) (sym ok) (whole_with globals t n (set (no_cells (at t n)) slot x) w (length-set (no_cells (at t n)) slot x))
whole_set globals t u n slot x (Err e) w ok err = subst (IsWhole globals) (sym err) w

whole_made : (globals : List ℤ) (t : List (Option Frame)) (new : Frame) → IsWhole globals t → new.over ≡ false → length globals + all_words t + (length new.cells + 4) < 2 ^ 64
    → IsWhole globals (t ++ Some new ∷ [])
whole_made globals t new w going few = record {
  settled = λ m z ez o.
      elim (pushed t new m z ez) as (λ _. 0 < children_of (t ++ Some new ∷ []) m) [
        | inl was ↦ omega (arith, w.settled m z was o, children-push t (Some new) m)
        | inr is ↦ (let no : false ≡ true = sym going ∙ ap (λ x. x.over) is.1 ∙ o in absurd (cc))
      ];
  fits = omega (arith, few, words-push t (Some new));
}

whole_pushed : (globals : List ℤ) (t u : List (Option Frame)) (new : Frame) (r : Result FrameId NoMemory) → IsWhole globals t → OnOk r (u ≡ t ++ Some new ∷ []) → OnErr r (u ≡ t) → new.over ≡ false
    → length globals + all_words t + (length new.cells + 4) < 2 ^ 64 → IsWhole globals u
whole_pushed globals t u new (Ok f) w ok err going few = subst (IsWhole globals) (sym ok) (whole_made globals t new w going few)
whole_pushed globals t u new (Err e) w ok err going few = subst (IsWhole globals) (sym err) w

pub whole_filled : (globals : List ℤ) (t u : List (Option Frame)) (parent : Option FrameId) (first : List Cell) (words : ℕ) (r : Result FrameId NoMemory) → IsWhole globals t
    → OnOk r (u ≡ t ++ Some (new_frame parent (filled first words)) ∷ []) → OnErr r (u ≡ t) → length first ≤ words
    → length globals + all_words t + (words + 4) < 2 ^ 64 → IsWhole globals u
whole_filled globals t u parent first words r w ok err le few =
    let less = subst (λ k. length globals + all_words t + (k + 4) < 2 ^ 64) (sym (length-filled first words le)) few in
    whole_pushed globals t u (new_frame parent (filled first words)) r w ok err refl less

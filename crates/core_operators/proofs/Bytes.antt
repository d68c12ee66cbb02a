-- Bytes out of the ints of an array and into them, one by one.
-- For the loops of `bytes_at` and `write_bytes`: what was taken or set so far and what comes from this index on are together the whole, so
-- one more moves from the one to the other. And an array whose home lived lives on when an int of it is set.
use Rattle.std.proofs.Common.{◌≡◌, ℕ, suc, ◌+◌, ◌-◌, ◌<◌, List, [], ◌∷◌, ◌++◌, drop, Option, Some, None, IsSome, false, true, refl, sym, ap, ◌∙◌, subst, append_assoc, arith}
use Rattle.std.specs.Prelude.{ℤ}
use Rattle.std.proofs.lemmas.List.{get_or-set_same}
use Rattle.work_item.specs.declared.ids.FrameId.{FrameId}
use Rattle.work_item.specs.declared.cell.Cell.{Cell}
use Rattle.work_item.specs.declared.cell.Place.{Place}
use Rattle.work_item.specs.Store.{Store, Frame, frame_at, some_with, with_cells, int_at, with_int_at, with_int_from}
use Rattle.work_item.specs.Conditions.{Lives, HomeLives}
use Rattle.work_item.proofs.Children.{within}
use Rattle.core_state.specs.Arithmetic.{low_byte}
use Rattle.core_state.specs.Requests.{bytes_from, with_bytes_from, bytes_for}

module _ (store : Store) (array : Place) where
  -- those from this one on
  abbrev pub from_here : ℕ → List ℕ
  from_here index = bytes_from store array.home (array.start + index) (array.len - index)

  pub one_read : (index b : ℕ) (value : ℤ) (bytes after all : List ℕ) → index < array.len → value ≡ int_at store array index → b ≡ low_byte value → after ≡ bytes ++ b ∷ []
      → bytes ++ from_here index ≡ all → after ++ from_here (index + 1) ≡ all
  one_read index b value bytes after all lt is low pushed so_far =
      let more = from_here (index + 1) in
      let n : array.len - index ≡ suc (array.len - (index + 1)) = omega arith in
      let s : array.start + index + 1 ≡ array.start + (index + 1) = omega arith in
      ap (λ xs. xs ++ more) pushed ∙ append_assoc bytes (b ∷ []) more ∙ ap (λ x. bytes ++ x ∷ more) (low ∙ ap low_byte is)
      ∙ sym
      (ap (λ k. bytes ++ bytes_from store array.home (array.start + index) k) n
      ∙ ap (λ k. bytes ++ low_byte (int_at store array index) ∷ bytes_from store array.home k (array.len - (index + 1))) s)
      ∙ so_far

-- with the others in their ints too, from this one on
abbrev pub with_others : Place → List ℕ → Store → ℕ → Store
with_others into bytes store index = with_bytes_from store into.home (into.start + index) (drop index (bytes_for into bytes))

-- ---- the array is still there

still_there : (s : Store) (f : FrameId) (cells : List Cell) → Lives s f → Lives (with_cells s f cells) f
still_there s f cells lives = by (frame_at s f) refl lives
  where
    by : (o : Option Frame) → frame_at s f ≡ o → IsSome o → Lives (with_cells s f cells) f
    by None e h = let no : false ≡ true = h in absurd (cc)
    by (Some x) e h =
        let is : frame_at (with_cells s f cells) f ≡ some_with cells (frame_at s f) = get_or-set_same s.frames f.number (some_with cells (frame_at s f)) None (within s.frames f.number x e) in
        subst (λ o. IsSome o) (sym (is ∙ ap (some_with cells) e)) refl

put_there : (s : Store) (home : Option FrameId) (slot : ℕ) (value : ℤ) → HomeLives s home → HomeLives (with_int_from s home slot value) home
put_there s None slot value lives = tt
put_there s (Some f) slot value lives = still_there s f _ lives

pub still_lives : (s after : Store) (array : Place) (index : ℕ) (value : ℤ) → after ≡ with_int_at s array index value → HomeLives s array.home → HomeLives after array.home
still_lives s after array index value is lives = subst (λ t. HomeLives t array.home) (sym is) (put_there s array.home (array.start + index) value lives)

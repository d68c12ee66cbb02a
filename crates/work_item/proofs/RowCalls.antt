-- What the calls on rows of cells make of the words and of the others.
-- Each lemma takes the words and the others of some cells to those of others: at an index the row is split into what stands before, the cell, and
-- what stands after it, and so are the others.
use Rattle.std.proofs.Common.{◌≡◌, ℕ, zero, suc, ◌+◌, ◌-◌, ◌<◌, ◌≤◌, ℤ, pos, List, [], ◌∷◌, ◌++◌, length, map, take, drop, replicate}
use Rattle.std.proofs.Common.{sym, ap, ◌∙◌, refl, arith, get_or, set}
use Rattle.std.specs.List.{remove, insert, take-map, drop-map}
use Rattle.std.proofs.lemmas.Option.{slice_get_within, slice_get-get_or, get_or_from_slice_get}
use Rattle.std.proofs.lemmas.List.{take_more, append_assoc, map-append, map-set, length-map, length-append, take-append-drop, append-nil, length-take, get_or-append-add}
use Rattle.std.proofs.lemmas.List.{set-append_right, get_or-map}
use Rattle.std.proofs.lemmas.List.Edits.{remove-append_right, insert-append_right}
use Rattle.std.proofs.Math.Seq.{take-append_seam, drop-append_seam, drop-cons, set-append_seam, get_or-append_seam, map-set_same}
use Rattle.work_item.specs.declared.cell.Cell.{Cell}
use Rattle.work_item.specs.declared.cell.Cell.TheVariants as c
use Rattle.work_item.specs.declared.cell.Place.{Place}
use Rattle.work_item.specs.declared.others.Other.{Other}
use Rattle.work_item.specs.Store.{int_in, no_int}
use Rattle.work_item.specs.Cells.{others_from, laid, AreKept}
use Rattle.work_item.specs.inner.Cells.{IsOther, IsAt}
use Rattle.work_item.proofs.Rows.{index_at, low_others, cut, words_of, others_of, kept_view, kept, snoc_both, others_append}

abbrev pub one : ℕ → Cell → Other
one index x = record { index = index; cell = x }

-- these are the words and the others of those cells
pub record Keep (start : ℕ) (words : List ℤ) (others : List Other) (cells : List Cell) : Type 0 where
  pub words_are : words ≡ map int_in cells
  pub others_are : others ≡ others_from start cells

pub keep_of : (start : ℕ) (words : List ℤ) (others : List Other) (cells : List Cell) → AreKept start words others → laid start words others ≡ cells
    → Keep start words others cells
keep_of start words others cells k e = record { words_are = words_of start words others cells k e; others_are = others_of start words others cells k e }

pub view_of : (start : ℕ) (words : List ℤ) (others : List Other) (cells : List Cell) → Keep start words others cells → laid start words others ≡ cells
view_of start words others cells k = kept_view start words others cells k.words_are k.others_are

pub kept_of : (start : ℕ) (words : List ℤ) (others : List Other) (cells : List Cell) → Keep start words others cells → AreKept start words others
kept_of start words others cells k = kept start words others cells k.words_are k.others_are

pub length_words : (start : ℕ) (words : List ℤ) (others : List Other) (cells : List Cell) → Keep start words others cells → length words ≡ length cells
length_words start words others cells k = ap length k.words_are ∙ length-map cells int_in

-- ---- at the end

pub int_pushed : (start : ℕ) (words now : List ℤ) (others : List Other) (cells : List Cell) (v : ℤ) → Keep start words others cells → now ≡ words ++ v ∷ []
    → Keep start now others (cells ++ c.Int v ∷ [])
int_pushed start words now others cells v k e = record {
  words_are = e ∙ ap (λ w. w ++ v ∷ []) k.words_are ∙ sym (map-append int_in cells (c.Int v ∷ []));
  others_are = k.others_are ∙ sym (others_append start cells (c.Int v ∷ []) ∙ append-nil (others_from start cells));
}

others_snoc : (start : ℕ) (cells : List Cell) (x : Cell) → IsOther x → others_from start (cells ++ x ∷ []) ≡ others_from start cells ++ one (start + length cells) x ∷ []
others_snoc start cells (c.Int v) i = absurd i
others_snoc start cells (c.Array p) i = others_append start cells (c.Array p ∷ [])
others_snoc start cells (c.Block b) i = others_append start cells (c.Block b ∷ [])

no_int_in : (x : Cell) → IsOther x → int_in x ≡ pos 0
no_int_in (c.Int v) i = absurd i
no_int_in (c.Array p) i = refl
no_int_in (c.Block b) i = refl

pub other_pushed : (words now : List ℤ) (others left : List Other) (cells : List Cell) (x : Cell) → Keep 0 words others cells → IsOther x
    → now ≡ words ++ pos 0 ∷ [] → left ≡ others ++ one (length words) x ∷ [] → Keep 0 now left (cells ++ x ∷ [])
other_pushed words now others left cells x k i e f =
    let n : length words ≡ 0 + length cells = omega (arith, length_words 0 words others cells k) in
    record {
      words_are = e ∙ ap (λ w. w ++ pos 0 ∷ []) k.words_are ∙ ap (λ v. map int_in cells ++ v ∷ []) (sym (no_int_in x i)) ∙ sym (map-append int_in cells (x ∷ []));
      others_are =
          f ∙ ap (λ l. l ++ one (length words) x ∷ []) k.others_are ∙ ap (λ at. others_from 0 cells ++ one at x ∷ []) n ∙ sym (others_snoc 0 cells x i);
    }

pub int_popped : (start : ℕ) (words now : List ℤ) (others : List Other) (cells front : List Cell) (v u : ℤ) → Keep start words others cells
    → cells ≡ front ++ c.Int u ∷ [] → words ≡ now ++ v ∷ [] → (cells ≡ front ++ c.Int v ∷ []) × Keep start now others front
int_popped start words now others cells front v u k is e =
    let q : now ++ v ∷ [] ≡ map int_in front ++ u ∷ [] = sym e ∙ k.words_are ∙ ap (map int_in) is ∙ map-append int_in front (c.Int u ∷ []) in
    let b = snoc_both now (map int_in front) v u q in (
      is ∙ ap (λ z. front ++ c.Int z ∷ []) (sym b.1),
      record {
        words_are = b.0;
        others_are = k.others_are ∙ ap (others_from start) is ∙ others_append start front (c.Int u ∷ []) ∙ append-nil (others_from start front);
      },
    )

pub place_popped : (start : ℕ) (words now : List ℤ) (others left : List Other) (cells front : List Cell) (v : ℤ) (o : Other) (p : Place)
    → Keep start words others cells → cells ≡ front ++ c.Array p ∷ [] → words ≡ now ++ v ∷ [] → others ≡ left ++ o ∷ []
    → (o.cell ≡ c.Array p) × Keep start now left front
place_popped start words now others left cells front v o p k is e f =
    let q : now ++ v ∷ [] ≡ map int_in front ++ pos 0 ∷ [] = sym e ∙ k.words_are ∙ ap (map int_in) is ∙ map-append int_in front (c.Array p ∷ []) in
    let r : left ++ o ∷ [] ≡ others_from start front ++ one (start + length front) (c.Array p) ∷ [] =
    sym f ∙ k.others_are ∙ ap (others_from start) is ∙ others_append start front (c.Array p ∷ []) in
    let b = snoc_both now (map int_in front) v (pos 0) q in
    let d = snoc_both left (others_from start front) o (one (start + length front) (c.Array p)) r in
    (ap (λ (z : Other). z.cell) d.1, record { words_are = b.0; others_are = d.0 })

-- the last of each, where an int stands last, and where a reference does
pub int_ends : (start : ℕ) (words : List ℤ) (others : List Other) (front : List Cell) (u : ℤ) → Keep start words others (front ++ c.Int u ∷ [])
    → (words ≡ map int_in front ++ u ∷ []) × (length words ≡ length (map int_in front) + 1)
int_ends start words others front u k =
    let e : words ≡ map int_in front ++ u ∷ [] = k.words_are ∙ map-append int_in front (c.Int u ∷ []) in
    (e, ap length e ∙ length-append (map int_in front) (u ∷ []))

pub place_ends : (start : ℕ) (words : List ℤ) (others : List Other) (front : List Cell) (p : Place) → Keep start words others (front ++ c.Array p ∷ [])
    → (others ≡ others_from start front ++ one (start + length front) (c.Array p) ∷ []) × (length others ≡ length (others_from start front) + 1)
place_ends start words others front p k =
    let e : others ≡ others_from start front ++ one (start + length front) (c.Array p) ∷ [] = k.others_are ∙ others_append start front (c.Array p ∷ []) in
    (e, ap length e ∙ length-append (others_from start front) (one (start + length front) (c.Array p) ∷ []))

-- the last other is that reference
pub last_other_is : (start : ℕ) (words : List ℤ) (others : List Other) (front : List Cell) (p : Place) (last : ℕ) (o : Other)
    → Keep start words others (front ++ c.Array p ∷ []) → last + 1 ≡ length others → o ≡ get_or others last o → o ≡ one (start + length front) (c.Array p)
last_other_is start words others front p last o k n e =
    let w = place_ends start words others front p k in
    let x = one (start + length front) (c.Array p) in
    let at : last ≡ length (others_from start front) = omega (arith, w.1, n) in
    e ∙ ap (λ i. get_or others i o) at ∙ ap (λ l. get_or l (length (others_from start front)) o) w.0 ∙ get_or-append_seam (others_from start front) x [] o

pub last_other : (start : ℕ) (words : List ℤ) (others : List Other) (front : List Cell) (p : Place) (last : ℕ) (o : Other)
    → Keep start words others (front ++ c.Array p ∷ []) → last + 1 ≡ length others → o ≡ get_or others last o → o.cell ≡ c.Array p
last_other start words others front p last o k n e = ap (λ (z : Other). z.cell) (last_other_is start words others front p last o k n e)

pub int_replaced : (start : ℕ) (words now : List ℤ) (others : List Other) (front : List Cell) (u v : ℤ) (last : ℕ) → Keep start words others (front ++ c.Int u ∷ [])
    → last + 1 ≡ length words → now ≡ set words last v → Keep start now others (front ++ c.Int v ∷ [])
int_replaced start words now others front u v last k n e =
    let w = int_ends start words others front u k in
    let at : last ≡ length (map int_in front) = omega (arith, w.1, n) in
    record {
      words_are =
          e ∙ ap (λ i. set words i v) at ∙ ap (λ l. set l (length (map int_in front)) v) w.0 ∙ set-append_seam (map int_in front) u [] v
          ∙ sym (map-append int_in front (c.Int v ∷ []));
      others_are = k.others_are ∙ others_append start front (c.Int u ∷ []) ∙ sym (others_append start front (c.Int v ∷ []));
    }

pub place_replaced : (start : ℕ) (words : List ℤ) (others now : List Other) (front : List Cell) (p r : Place) (last : ℕ)
    → Keep start words others (front ++ c.Array p ∷ []) → last + 1 ≡ length others → now ≡ set others last (one (start + length front) (c.Array r))
    → Keep start words now (front ++ c.Array r ∷ [])
place_replaced start words others now front p r last k n e =
    let w = place_ends start words others front p k in
    let x = one (start + length front) (c.Array p) in
    let y = one (start + length front) (c.Array r) in
    let at : last ≡ length (others_from start front) = omega (arith, w.1, n) in
    record {
      words_are = k.words_are ∙ map-append int_in front (c.Array p ∷ []) ∙ sym (map-append int_in front (c.Array r ∷ []));
      others_are =
          e ∙ ap (λ i. set others i y) at ∙ ap (λ l. set l (length (others_from start front)) y) w.0 ∙ set-append_seam (others_from start front) x [] y
          ∙ sym (others_append start front (c.Array r ∷ []));
    }

pub place_by_int : (words : List ℤ) (others left : List Other) (front : List Cell) (p : Place) (o : Other) (v : ℤ) (last : ℕ)
    → Keep 0 words others (front ++ c.Array p ∷ []) → others ≡ left ++ o ∷ [] → last + 1 ≡ length words
    → Keep 0 (set words last v) left (front ++ c.Int v ∷ [])
place_by_int words others left front p o v last k e n =
    let w : words ≡ map int_in front ++ pos 0 ∷ [] = k.words_are ∙ map-append int_in front (c.Array p ∷ []) in
    let at : last ≡ length (map int_in front) = omega (arith, n, ap length w, length-append (map int_in front) (pos 0 ∷ [])) in
    let r : left ++ o ∷ [] ≡ others_from 0 front ++ one (0 + length front) (c.Array p) ∷ [] = sym e ∙ (place_ends 0 words others front p k).0 in
    record {
      words_are =
          ap (λ i. set words i v) at ∙ ap (λ l. set l (length (map int_in front)) v) w ∙ set-append_seam (map int_in front) (pos 0) [] v
          ∙ sym (map-append int_in front (c.Int v ∷ []));
      others_are =
          (snoc_both left (others_from 0 front) o (one (0 + length front) (c.Array p)) r).0
          ∙ sym (others_append 0 front (c.Int v ∷ []) ∙ append-nil (others_from 0 front));
    }

-- ---- parts

split_others : (start n : ℕ) (cells : List Cell)
    → others_from start cells ≡ others_from start (take n cells) ++ others_from (start + length (take n cells)) (drop n cells)
split_others start n cells = sym (ap (others_from start) (take-append-drop n cells)) ∙ others_append start (take n cells) (drop n cells)

pub front_kept : (start n : ℕ) (words : List ℤ) (others : List Other) (cells : List Cell) → Keep start words others cells
    → Keep start (take n words) (take (length (others_from start (take n cells))) others) (take n cells)
front_kept start n words others cells k =
    let fore = others_from start (take n cells) in
    record {
      words_are = ap (take n) k.words_are ∙ take-map int_in n cells;
      others_are =
          ap (take (length fore)) (k.others_are ∙ split_others start n cells)
          ∙ take-append_seam fore (others_from (start + length (take n cells)) (drop n cells));
    }

pub rest_kept : (n : ℕ) (words : List ℤ) (others : List Other) (cells : List Cell) → Keep 0 words others cells → n ≤ length cells
    → Keep n (drop n words) (drop (length (others_from 0 (take n cells))) others) (drop n cells)
rest_kept n words others cells k le =
    let fore = others_from 0 (take n cells) in
    let at : 0 + length (take n cells) ≡ n = omega (arith, length-take n cells, le) in
    record {
      words_are = ap (drop n) k.words_are ∙ drop-map int_in n cells;
      others_are =
          ap (drop (length fore)) (k.others_are ∙ split_others 0 n cells) ∙ drop-append_seam fore (others_from (0 + length (take n cells)) (drop n cells))
          ∙ ap (λ i. others_from i (drop n cells)) at;
    }

-- ---- at an index

-- what stands at an index and after it, where a cell stands there
head_index : (x : Cell) (cells : List Cell) (i : ℕ) → IsOther x → others_from i (x ∷ cells) ≡ one i x ∷ others_from (suc i) cells
head_index (c.Int v) cells i o = absurd o
head_index (c.Array p) cells i o = refl
head_index (c.Block b) cells i o = refl

-- an other is found at its index, and is the cell
found_cell : (x : Cell) (cells : List Cell) (i : ℕ) → 0 < length (others_from i (x ∷ cells)) → index_at (others_from i (x ∷ cells)) 0 ≡ i
    → IsOther x × ((get_or (others_from i (x ∷ cells)) 0 (one 0 no_int)).cell ≡ x)
found_cell (c.Int v) cells i lt e = absurd (omega (arith, low_others cells (suc i) 0 lt, e))
found_cell (c.Array p) cells i lt e = (tt, refl)
found_cell (c.Block b) cells i lt e = (tt, refl)

lost_cell : (x : Cell) (cells : List Cell) (i : ℕ) → (0 < length (others_from i (x ∷ cells)) → index_at (others_from i (x ∷ cells)) 0 ≡ i → ⊥)
    → (x ≡ c.Int (int_in x)) × (others_from i (x ∷ cells) ≡ others_from (suc i) cells)
lost_cell (c.Int v) cells i h = (refl, refl)
lost_cell (c.Array p) cells i h = absurd (h (omega arith) refl)
lost_cell (c.Block b) cells i h = absurd (h (omega arith) refl)

-- where there are none, none stands below an index, and none at it
pub none_below : (words : List ℤ) (others : List Other) (cells : List Cell) (index : ℕ) → Keep 0 words others cells → length others ≡ 0 → 0 ≡ cut 0 cells index
none_below words others cells index k none =
    let n = index - 0 in
    let parts = ap length (k.others_are ∙ split_others 0 n cells) ∙ length-append (others_from 0 (take n cells)) (others_from (0 + length (take n cells)) (drop n cells)) in
    omega (arith, none, parts)

pub none_at : (others : List Other) (place index : ℕ) → length others ≡ 0 → IsAt others place index → ⊥
none_at others place index none h = absurd (omega (arith, none, slice_get_within others place h.0 h.1.0))

module _ (words : List ℤ) (others : List Other) (cells : List Cell) (index place : ℕ) (k : Keep 0 words others cells) (lt : index < length cells)
    (at : place ≡ cut 0 cells index) where
  abbrev pub fore : List Other
  fore = others_from 0 (take index cells)

  abbrev pub x : Cell
  x = get_or cells index no_int

  abbrev pub rest : List Cell
  rest = drop (suc index) cells

  place_is : place ≡ length fore
  place_is = let none : index - 0 ≡ index = omega arith in at ∙ ap (λ n. length (others_from 0 (take n cells))) none

  others_are : others ≡ fore ++ others_from index (x ∷ rest)
  others_are =
      let long : 0 + length (take index cells) ≡ index = omega (arith, length-take index cells, lt) in
      k.others_are ∙ split_others 0 index cells
      ∙ (ap (λ i. fore ++ others_from i (drop index cells)) long ∙ ap (λ l. fore ++ others_from index l) (drop-cons cells index no_int lt))

  -- the part from the place on, read in the others
  reads : get_or others place (one 0 no_int) ≡ get_or (others_from index (x ∷ rest)) 0 (one 0 no_int)
  reads =
      let zero_more : place ≡ length fore + 0 = omega (arith, place_is) in
      ap (λ l. get_or l place (one 0 no_int)) others_are ∙ ap (λ n. get_or (fore ++ others_from index (x ∷ rest)) n (one 0 no_int)) zero_more
      ∙ get_or-append-add fore (others_from index (x ∷ rest)) 0 (one 0 no_int)

  long : length others ≡ place + length (others_from index (x ∷ rest))
  long = omega (arith, place_is, ap length others_are ∙ length-append fore (others_from index (x ∷ rest)))

  pub found : place < length others → index_at others place ≡ index → IsOther x × ((get_or others place (one 0 no_int)).cell ≡ x)
  found within same =
      let e : index_at (others_from index (x ∷ rest)) 0 ≡ index = sym (ap (λ (o : Other). o.index) reads) ∙ same in
      let f = found_cell x rest index (omega (arith, within, long)) e in
      (f.0, ap (λ (o : Other). o.cell) reads ∙ f.1)

  pub lost : (place < length others → index_at others place ≡ index → ⊥) → (x ≡ c.Int (int_in x)) × (others_from index (x ∷ rest) ≡ others_from (suc index) rest)
  lost none_there =
      lost_cell x rest index (λ some e. none_there (omega (arith, some, long)) (ap (λ (o : Other). o.index) reads ∙ e))

  pub found_at : IsAt others place index → IsOther x × ((get_or others place (one 0 no_int)).cell ≡ x)
  found_at h =
      let read = get_or_from_slice_get others place h.0 (one 0 no_int) h.1.0 in
      found (slice_get_within others place h.0 h.1.0) (ap (λ (o : Other). o.index) read ∙ h.1.1)

  pub lost_at : (IsAt others place index → ⊥) → (x ≡ c.Int (int_in x)) × (others_from index (x ∷ rest) ≡ others_from (suc index) rest)
  lost_at none_there =
      lost (λ within e. none_there (get_or others place (one 0 no_int), (slice_get-get_or others place (one 0 no_int) within, e)))

  pub word : (d : ℤ) → get_or words index d ≡ int_in x
  word d = ap (λ l. get_or l index d) k.words_are ∙ get_or-map int_in cells index no_int d lt

  others_set : (y : Cell) → others_from 0 (set cells index y) ≡ fore ++ others_from index (y ∷ rest)
  others_set y =
      let n : index ≡ length (take index cells) = omega (arith, length-take index cells, lt) in
      let split : cells ≡ take index cells ++ x ∷ rest = sym (take-append-drop index cells) ∙ ap (λ l. take index cells ++ l) (drop-cons cells index no_int lt) in
      let there : set cells index y ≡ take index cells ++ y ∷ rest =
      ap (λ l. set l index y) split ∙ ap (λ i. set (take index cells ++ x ∷ rest) i y) n ∙ set-append_seam (take index cells) x rest y in
      let zero_more : 0 + length (take index cells) ≡ index = omega (arith, n) in
      ap (others_from 0) there ∙ others_append 0 (take index cells) (y ∷ rest) ∙ ap (λ i. fore ++ others_from i (y ∷ rest)) zero_more

  words_set : (y : Cell) → set words index (int_in y) ≡ map int_in (set cells index y)
  words_set y = ap (λ l. set l index (int_in y)) k.words_are ∙ sym (map-set int_in cells index y)

  at_place : place - length fore ≡ 0
  at_place = omega (arith, place_is)

  pub int_set_found : (v : ℤ) → IsAt others place index → Keep 0 (set words index v) (remove others place) (set cells index (c.Int v))
  int_set_found v there =
      let f = found_at there in
      record {
        words_are = words_set (c.Int v);
        others_are =
            ap (λ l. remove l place) (others_are ∙ ap (λ l. fore ++ l) (head_index x rest index f.0))
            ∙ remove-append_right fore (one index x ∷ others_from (suc index) rest) (length fore) place refl (omega (arith, place_is))
            ∙ ap (λ n. fore ++ remove (one index x ∷ others_from (suc index) rest) n) at_place ∙ sym (others_set (c.Int v));
      }

  pub int_set_lost : (v : ℤ) → (IsAt others place index → ⊥) → Keep 0 (set words index v) others (set cells index (c.Int v))
  int_set_lost v none_there = record {
    words_are = words_set (c.Int v);
    others_are = others_are ∙ ap (λ l. fore ++ l) (lost_at none_there).1 ∙ sym (others_set (c.Int v));
  }

  pub other_set_found : (y : Cell) → IsOther y → IsAt others place index → Keep 0 words (set others place (one index y)) (set cells index y)
  other_set_found y i there =
      let f = found_at there in
      let zeros : int_in y ≡ int_in x = no_int_in y i ∙ sym (no_int_in x f.0) in
      record {
        words_are = k.words_are ∙ sym (map-set_same int_in cells index y no_int zeros);
        others_are =
            ap (λ l. set l place (one index y)) (others_are ∙ ap (λ l. fore ++ l) (head_index x rest index f.0))
            ∙ set-append_right fore (one index x ∷ others_from (suc index) rest) (length fore) place (one index y) refl (omega (arith, place_is))
            ∙ ap (λ n. fore ++ set (one index x ∷ others_from (suc index) rest) n (one index y)) at_place
            ∙ sym (others_set y ∙ ap (λ l. fore ++ l) (head_index y rest index i));
      }

  pub other_set_lost : (y : Cell) → IsOther y → (IsAt others place index → ⊥)
      → Keep 0 (set words index (pos 0)) (insert others place (one index y)) (set cells index y)
  other_set_lost y i none_there = record {
    words_are = ap (set words index) (sym (no_int_in y i)) ∙ words_set y;
    others_are =
        ap (λ l. insert l place (one index y)) (others_are ∙ ap (λ l. fore ++ l) (lost_at none_there).1)
        ∙ insert-append_right fore (others_from (suc index) rest) (length fore) place (one index y) refl (omega (arith, place_is))
        ∙ ap (λ n. fore ++ insert (others_from (suc index) rest) n (one index y)) at_place
        ∙ sym (others_set y ∙ ap (λ l. fore ++ l) (head_index y rest index i));
  }

-- ---- more at the end

pub row_appended : (words now more : List ℤ) (others left : List Other) (cells part : List Cell) → Keep 0 words others cells → more ≡ map int_in part
    → now ≡ words ++ more → left ≡ others ++ others_from (length words) part → Keep 0 now left (cells ++ part)
row_appended words now more others left cells part k m e f =
    let n : length words ≡ 0 + length cells = omega (arith, length_words 0 words others cells k) in
    record {
      words_are = e ∙ ap (λ w. w ++ more) k.words_are ∙ ap (λ w. map int_in cells ++ w) m ∙ sym (map-append int_in cells part);
      others_are =
          f ∙ ap (λ l. l ++ others_from (length words) part) k.others_are ∙ ap (λ i. others_from 0 cells ++ others_from i part) n
          ∙ sym (others_append 0 cells part);
    }

pub length_moved : (cells : List Cell) (from to : ℕ) → length (others_from to cells) ≡ length (others_from from cells)
length_moved [] from to = refl
length_moved (c.Int v ∷ cells) from to = length_moved cells (suc from) (suc to)
length_moved (c.Array p ∷ cells) from to = ap suc (length_moved cells (suc from) (suc to))
length_moved (c.Block b ∷ cells) from to = ap suc (length_moved cells (suc from) (suc to))

-- the same cells from another index on
pub moved : (cells : List Cell) (from to place : ℕ) → place < length (others_from from cells)
    → get_or (others_from to cells) place (one 0 no_int)
    ≡ one (to + (index_at (others_from from cells) place - from)) (get_or (others_from from cells) place (one 0 no_int)).cell
moved [] from to place lt = absurd (omega arith)
moved (c.Int v ∷ cells) from to place lt =
    let low = low_others cells (suc from) place lt in
    let e : suc to + (index_at (others_from (suc from) cells) place - suc from) ≡ to + (index_at (others_from (suc from) cells) place - from) = omega (arith, low) in
    moved cells (suc from) (suc to) place lt ∙ ap (λ i. one i (get_or (others_from (suc from) cells) place (one 0 no_int)).cell) e
moved (c.Array p ∷ cells) from to zero lt = let e : to ≡ to + (from - from) = omega arith in ap (λ i. one i (c.Array p)) e
moved (c.Array p ∷ cells) from to (suc place) lt =
    let low = low_others cells (suc from) place (omega arith) in
    let e : suc to + (index_at (others_from (suc from) cells) place - suc from) ≡ to + (index_at (others_from (suc from) cells) place - from) = omega (arith, low) in
    moved cells (suc from) (suc to) place (omega arith) ∙ ap (λ i. one i (get_or (others_from (suc from) cells) place (one 0 no_int)).cell) e
moved (c.Block b ∷ cells) from to zero lt = let e : to ≡ to + (from - from) = omega arith in ap (λ i. one i (c.Block b)) e
moved (c.Block b ∷ cells) from to (suc place) lt =
    let low = low_others cells (suc from) place (omega arith) in
    let e : suc to + (index_at (others_from (suc from) cells) place - suc from) ≡ to + (index_at (others_from (suc from) cells) place - from) = omega (arith, low) in
    moved cells (suc from) (suc to) place (omega arith) ∙ ap (λ i. one i (get_or (others_from (suc from) cells) place (one 0 no_int)).cell) e

pub moved_low : (more : List Other) (cells : List Cell) (from place : ℕ) → more ≡ others_from from cells → place < length more → from ≤ index_at more place
moved_low more cells from place e lt =
    let n : length more ≡ length (others_from from cells) = ap length e in
    let i : index_at more place ≡ index_at (others_from from cells) place = ap (λ l. index_at l place) e in
    omega (arith, i, low_others cells from place (omega (arith, n, lt)))

high_others : (cells : List Cell) (start place : ℕ) → place < length (others_from start cells) → index_at (others_from start cells) place < start + length cells
high_others [] start place h = absurd (omega arith)
high_others (c.Int v ∷ cells) start place h = omega (arith, high_others cells (suc start) place h)
high_others (c.Array p ∷ cells) start zero h = omega arith
high_others (c.Array p ∷ cells) start (suc place) h = omega (arith, high_others cells (suc start) place (omega arith))
high_others (c.Block b ∷ cells) start zero h = omega arith
high_others (c.Block b ∷ cells) start (suc place) h = omega (arith, high_others cells (suc start) place (omega arith))

pub moved_high : (more : List Other) (cells : List Cell) (from place : ℕ) → more ≡ others_from from cells → place < length more
    → index_at more place < from + length cells
moved_high more cells from place e lt =
    let n : length more ≡ length (others_from from cells) = ap length e in
    let i : index_at more place ≡ index_at (others_from from cells) place = ap (λ l. index_at l place) e in
    omega (arith, i, high_others cells from place (omega (arith, n, lt)))

-- one more of them
abbrev pub moved_one : List Other → ℕ → ℕ → ℕ → Other
moved_one more from to place = one (to + (index_at more place - from)) (get_or more place (one 0 no_int)).cell

pub moved_more : (old more : List Other) (cells : List Cell) (from to place : ℕ) → more ≡ others_from from cells → place < length more
    → (old ++ take place (others_from to cells)) ++ moved_one more from to place ∷ [] ≡ old ++ take (place + 1) (others_from to cells)
moved_more old more cells from to place e lt =
    let there = others_from to cells in
    let n : length more ≡ length (others_from from cells) = ap length e in
    let within : place < length there = omega (arith, n, lt, length_moved cells from to) in
    let o : moved_one more from to place ≡ get_or there place (one 0 no_int) =
    ap (λ l. moved_one l from to place) e ∙ sym (moved cells from to place (omega (arith, n, lt))) in
    append_assoc old (take place there) (moved_one more from to place ∷ []) ∙ ap (λ x. old ++ (take place there ++ x ∷ [])) o
    ∙ ap (λ l. old ++ l) (sym (take_more there place (one 0 no_int) within))

-- ---- a row that is filled

others_zeros : (n start : ℕ) → others_from start (replicate n no_int) ≡ []
others_zeros zero start = refl
others_zeros (suc n) start = others_zeros n (suc start)

words_zeros : (n : ℕ) → map int_in (replicate n no_int) ≡ replicate n (pos 0)
words_zeros zero = refl
words_zeros (suc n) = ap (λ l. pos 0 ∷ l) (words_zeros n)

pub row_filled : (words : List ℤ) (others : List Other) (first : List Cell) (n : ℕ) → words ≡ map int_in first ++ replicate n (pos 0)
    → others ≡ others_from 0 first → Keep 0 words others (first ++ replicate n no_int)
row_filled words others first n e f = record {
  words_are = e ∙ ap (λ l. map int_in first ++ l) (sym (words_zeros n)) ∙ sym (map-append int_in first (replicate n no_int));
  others_are =
      f ∙ sym (others_append 0 first (replicate n no_int) ∙ ap (λ l. others_from 0 first ++ l) (others_zeros n (0 + length first)) ∙ append-nil (others_from 0 first));
}

-- ---- an int in the place of the last

pub last_set : (cells front : List Cell) (x y : Cell) (last : ℕ) → cells ≡ front ++ x ∷ [] → last + 1 ≡ length cells → set cells last y ≡ front ++ y ∷ []
last_set cells front x y last e n =
    let at : last ≡ length front = omega (arith, n, ap length e, length-append front (x ∷ [])) in
    ap (λ i. set cells i y) at ∙ ap (λ l. set l (length front) y) e ∙ set-append_seam front x [] y

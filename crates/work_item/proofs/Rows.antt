-- Rows of cells and how they are kept.
-- The words and the others are functions of the cells, from which these come back; so a call is right where its words and its others are those
-- of the wanted cells, which are equations on lists. The others below an index are those of the cells below it.
use Rattle.std.proofs.Common.{◌≡◌, ℕ, zero, suc, ◌+◌, ◌-◌, ◌<◌, ◌≤◌, ℤ, List, [], ◌∷◌, ◌++◌, length, map, take, true, false, nat_eq, if◌then◌else◌}
use Rattle.std.proofs.Common.{sym, ap, ◌∙◌, refl, subst, arith, get_or, inl, inr}
use Rattle.std.specs.Prelude.{reverse}
use Rattle.std.proofs.lemmas.Bool.{cases_lt}
use Rattle.std.proofs.lemmas.Bool.Decides.{nat_tests}
use Rattle.std.proofs.lemmas.List.{reverse-append, reverse-reverse}
use Rattle.work_item.specs.declared.cell.Cell.{Cell}
use Rattle.work_item.specs.declared.cell.Cell.TheVariants as c
use Rattle.work_item.specs.declared.others.Other.{Other}
use Rattle.work_item.specs.Store.{int_in, no_int}
use Rattle.work_item.specs.Cells.{others_from, laid, AreKept}

abbrev pub index_at : List Other → ℕ → ℕ
index_at others place = (get_or others place (record { index = 0; cell = no_int })).index

-- ---- where the others stand

pub low_others : (cells : List Cell) (start place : ℕ) → place < length (others_from start cells) → start ≤ index_at (others_from start cells) place
low_others [] start place h = absurd (omega arith)
low_others (c.Int v ∷ cells) start place h = omega (arith, low_others cells (suc start) place h)
low_others (c.Array p ∷ cells) start zero h = omega arith
low_others (c.Array p ∷ cells) start (suc place) h = omega (arith, low_others cells (suc start) place (omega arith))
low_others (c.Block b ∷ cells) start zero h = omega arith
low_others (c.Block b ∷ cells) start (suc place) h = omega (arith, low_others cells (suc start) place (omega arith))

before : (cells : List Cell) (start n place : ℕ) → place < length (others_from start (take n cells)) → index_at (others_from start cells) place < start + n
before cells start zero place h = absurd (omega arith)
before [] start (suc n) place h = absurd (omega arith)
before (c.Int v ∷ cells) start (suc n) place h = omega (arith, before cells (suc start) n place h)
before (c.Array p ∷ cells) start (suc n) zero h = omega arith
before (c.Array p ∷ cells) start (suc n) (suc place) h = omega (arith, before cells (suc start) n place (omega arith))
before (c.Block b ∷ cells) start (suc n) zero h = omega arith
before (c.Block b ∷ cells) start (suc n) (suc place) h = omega (arith, before cells (suc start) n place (omega arith))

after : (cells : List Cell) (start n place : ℕ) → length (others_from start (take n cells)) ≤ place → place < length (others_from start cells)
    → start + n ≤ index_at (others_from start cells) place
after cells start zero place h lt = omega (arith, low_others cells start place lt)
after [] start (suc n) place h lt = absurd (omega arith)
after (c.Int v ∷ cells) start (suc n) place h lt = omega (arith, after cells (suc start) n place h lt)
after (c.Array p ∷ cells) start (suc n) zero h lt = absurd (omega arith)
after (c.Array p ∷ cells) start (suc n) (suc place) h lt = omega (arith, after cells (suc start) n place (omega arith) (omega arith))
after (c.Block b ∷ cells) start (suc n) zero h lt = absurd (omega arith)
after (c.Block b ∷ cells) start (suc n) (suc place) h lt = omega (arith, after cells (suc start) n place (omega arith) (omega arith))

-- how many stand below an index
abbrev pub cut : ℕ → List Cell → ℕ → ℕ
cut start cells index = length (others_from start (take (index - start) cells))

cut_front : (cells : List Cell) (start n : ℕ) → length (others_from start (take n cells)) ≤ length (others_from start cells)
cut_front cells start zero = omega arith
cut_front [] start (suc n) = omega arith
cut_front (c.Int v ∷ cells) start (suc n) = cut_front cells (suc start) n
cut_front (c.Array p ∷ cells) start (suc n) = omega (arith, cut_front cells (suc start) n)
cut_front (c.Block b ∷ cells) start (suc n) = omega (arith, cut_front cells (suc start) n)

pub cut_within : (others : List Other) (start : ℕ) (cells : List Cell) (index : ℕ) → others ≡ others_from start cells → cut start cells index ≤ length others
cut_within others start cells index e = subst (λ (l : List Other). cut start cells index ≤ length l) (sym e) (cut_front cells start (index - start))

pub under_cut : (others : List Other) (start : ℕ) (cells : List Cell) (index place : ℕ) → others ≡ others_from start cells → start ≤ index → place < length others
    → index_at others place < index → place < cut start cells index
under_cut others start cells index place e le lt h =
    let n : length others ≡ length (others_from start cells) = ap length e in
    let i : index_at others place ≡ index_at (others_from start cells) place = ap (λ l. index_at l place) e in
    elim (cases_lt place (cut start cells index)) as (λ _. place < cut start cells index) [
      | inl under ↦ under
      | inr below ↦ omega (arith, after cells start (index - start) place below (omega (arith, n, lt)), i, h, le)
    ]

pub over_cut : (others : List Other) (start : ℕ) (cells : List Cell) (index place : ℕ) → others ≡ others_from start cells → start ≤ index
    → index ≤ index_at others place → cut start cells index ≤ place
over_cut others start cells index place e le h =
    let i : index_at others place ≡ index_at (others_from start cells) place = ap (λ l. index_at l place) e in
    elim (cases_lt place (cut start cells index)) as (λ _. cut start cells index ≤ place) [
      | inl under ↦ omega (arith, before cells start (index - start) place under, i, h, le)
      | inr below ↦ below
    ]

-- ---- the cells that are kept so

laid_int : (start : ℕ) (v : ℤ) (words : List ℤ) (others : List Other) → (0 < length others → suc start ≤ index_at others 0)
    → laid start (v ∷ words) others ≡ c.Int v ∷ laid (suc start) words others
laid_int start v words [] h = refl
laid_int start v words (o ∷ others) h =
    let far : suc start ≤ o.index = h (omega arith) in
    let q : nat_eq start o.index ≡ false = grind (arith, nat_tests) in
    ap (λ b. if b then o.cell ∷ laid (suc start) words others else c.Int v ∷ laid (suc start) words (o ∷ others)) q

laid_other : (start : ℕ) (v : ℤ) (words : List ℤ) (x : Cell) (others : List Other)
    → laid start (v ∷ words) ((record { index = start; cell = x }) ∷ others) ≡ x ∷ laid (suc start) words others
laid_other start v words x others =
    let q : nat_eq start start ≡ true = grind (arith, nat_tests) in
    ap (λ b. if b then x ∷ laid (suc start) words others else c.Int v ∷ laid (suc start) words ((record { index = start; cell = x }) ∷ others)) q

pub laid_is : (start : ℕ) (cells : List Cell) → laid start (map int_in cells) (others_from start cells) ≡ cells
laid_is start [] = refl
laid_is start (c.Int v ∷ cells) =
    laid_int start v (map int_in cells) (others_from (suc start) cells) (λ h. low_others cells (suc start) 0 h) ∙ ap (λ l. c.Int v ∷ l) (laid_is (suc start) cells)
laid_is start (c.Array p ∷ cells) =
    laid_other start (int_in (c.Array p)) (map int_in cells) (c.Array p) (others_from (suc start) cells) ∙ ap (λ l. c.Array p ∷ l) (laid_is (suc start) cells)
laid_is start (c.Block b ∷ cells) =
    laid_other start (int_in (c.Block b)) (map int_in cells) (c.Block b) (others_from (suc start) cells) ∙ ap (λ l. c.Block b ∷ l) (laid_is (suc start) cells)

pub kept_view : (start : ℕ) (words : List ℤ) (others : List Other) (cells : List Cell) → words ≡ map int_in cells → others ≡ others_from start cells
    → laid start words others ≡ cells
kept_view start words others cells e f = ap (λ w. laid start w others) e ∙ ap (λ o. laid start (map int_in cells) o) f ∙ laid_is start cells

pub kept : (start : ℕ) (words : List ℤ) (others : List Other) (cells : List Cell) → words ≡ map int_in cells → others ≡ others_from start cells
    → AreKept start words others
kept start words others cells e f =
    let v = sym (kept_view start words others cells e f) in
    record { words_are = e ∙ ap (map int_in) v; others_are = f ∙ ap (others_from start) v }

pub words_of : (start : ℕ) (words : List ℤ) (others : List Other) (cells : List Cell) → AreKept start words others → laid start words others ≡ cells
    → words ≡ map int_in cells
words_of start words others cells k e = k.words_are ∙ ap (map int_in) e

pub others_of : (start : ℕ) (words : List ℤ) (others : List Other) (cells : List Cell) → AreKept start words others → laid start words others ≡ cells
    → others ≡ others_from start cells
others_of start words others cells k e = k.others_are ∙ ap (others_from start) e

-- ---- lists

pub snoc_both : {A : Type 0} (xs ys : List A) (x y : A) → xs ++ x ∷ [] ≡ ys ++ y ∷ [] → (xs ≡ ys) × (x ≡ y)
snoc_both xs ys x y e =
    let q : x ∷ reverse xs ≡ y ∷ reverse ys = sym (reverse-append xs (x ∷ [])) ∙ ap reverse e ∙ reverse-append ys (y ∷ []) in
    let r : reverse xs ≡ reverse ys = cc in
    (sym (reverse-reverse xs) ∙ ap reverse r ∙ reverse-reverse ys, cc)

from_at : (cells : List Cell) {i j : ℕ} → i ≡ j → others_from i cells ≡ others_from j cells
from_at cells e = ap (λ k. others_from k cells) e

pub others_append : (start : ℕ) (xs ys : List Cell) → others_from start (xs ++ ys) ≡ others_from start xs ++ others_from (start + length xs) ys
others_append start [] ys = from_at ys (omega arith)
others_append start (c.Int v ∷ xs) ys = others_append (suc start) xs ys ∙ ap (λ l. others_from (suc start) xs ++ l) (from_at ys (omega arith))
others_append start (c.Array p ∷ xs) ys =
    ap (λ l. (record { index = start; cell = c.Array p }) ∷ l)
    (others_append (suc start) xs ys ∙ ap (λ l. others_from (suc start) xs ++ l) (from_at ys (omega arith)))
others_append start (c.Block b ∷ xs) ys =
    ap (λ l. (record { index = start; cell = c.Block b }) ∷ l)
    (others_append (suc start) xs ys ∙ ap (λ l. others_from (suc start) xs ++ l) (from_at ys (omega arith)))

-- The last elements of a list, which are the first ones of the list turned round. For `Operands`, whose cells lie with the topmost last, where specifications name it first.
-- The list is split at `below` and turned round; what was cut off comes first, and is as long as the count.
use Rattle.std.proofs.Common.{◌≡◌, ℕ, ◌+◌, ◌-◌, ◌≤◌, List, [], ◌∷◌, ◌++◌, length, take, drop, replicate, refl, sym, ap, ◌∙◌, arith}
use Rattle.std.specs.Prelude.{reverse, Bool, true, false}
use Rattle.std.specs.Prelude.{slice_get, Some}
use Rattle.std.proofs.Common.{get_or, ◌<◌}
use Rattle.std.proofs.lemmas.Option.{slice_get-get_or}
use Rattle.work_item.specs.declared.cell.Cell.{Cell}
use Rattle.work_item.specs.declared.cell.Cell.TheVariants as cell
use Rattle.work_item.specs.Store.{no_int}
use Rattle.work_item.specs.Ends.{EndsInInt, EndsInPlace}
use Rattle.code_safety.specs.Fit.{is_int}
use Rattle.thread_table.specs.Operands.{is_reference, on_top}
use Rattle.std.proofs.lemmas.List.{reverse-append, reverse-reverse, length-reverse, length-append, take-append-drop, length-drop, get_or-reverse, append-nil}
use Rattle.std.proofs.Math.Seq.{take-append_seam, drop-append_seam, get_or-append_seam}

module _ {A : Type 0} (items now : List A) (below count : ℕ) (turned : reverse items ≡ now) (here : count ≤ length now) (lies : below ≡ length items - count) where
  split_top : now ≡ reverse (drop below items) ++ reverse (take below items)
  split_top = sym turned ∙ ap reverse (sym (take-append-drop below items)) ∙ reverse-append (take below items) (drop below items)

  many : count ≡ length (reverse (drop below items))
  many =
      let same : length now ≡ length items = ap length (sym turned) ∙ length-reverse items in
      omega (arith, length-reverse (drop below items), length-drop below items)

  pub taken : drop below items ≡ reverse (take count now)
  taken =
      sym
      (ap (λ l. reverse (take count l)) split_top ∙ ap (λ k. reverse (take k (reverse (drop below items) ++ reverse (take below items)))) many
      ∙ ap reverse (take-append_seam (reverse (drop below items)) (reverse (take below items))) ∙ reverse-reverse (drop below items))

  pub left : reverse (take below items) ≡ drop count now
  left =
      sym
      (ap (λ l. drop count l) split_top ∙ ap (λ k. drop k (reverse (drop below items) ++ reverse (take below items))) many
      ∙ drop-append_seam (reverse (drop below items)) (reverse (take below items)))

-- ---- the topmost operand

pub one_at_least : (cells : List Cell) (fits : Cell → Bool) → on_top fits cells ≡ true → 1 ≤ length cells
one_at_least [] fits e = let no : false ≡ true = e in absurd (cc)
one_at_least (x ∷ xs) fits e = omega arith

-- ---- the last of some cells is the topmost operand

front_of : {A : Type 0} (items : List A) (x : A) (xs : List A) → reverse items ≡ x ∷ xs → items ≡ reverse xs ++ x ∷ []
front_of items x xs turned = sym (reverse-reverse items) ∙ ap reverse turned ∙ reverse-append (x ∷ []) xs

pub ends_in_int : (items now : List Cell) → reverse items ≡ now → on_top is_int now ≡ true → EndsInInt items
ends_in_int items [] turned e = let no : false ≡ true = e in absurd (cc)
ends_in_int items (cell.Int v ∷ below) turned e = (reverse below, (v, front_of items (cell.Int v) below turned))
ends_in_int items (cell.Array p ∷ below) turned e = let no : false ≡ true = e in absurd (cc)
ends_in_int items (cell.Block b ∷ below) turned e = let no : false ≡ true = e in absurd (cc)

pub ends_in_place : (items now : List Cell) → reverse items ≡ now → on_top is_reference now ≡ true → EndsInPlace items
ends_in_place items [] turned e = let no : false ≡ true = e in absurd (cc)
ends_in_place items (cell.Int v ∷ below) turned e = let no : false ≡ true = e in absurd (cc)
ends_in_place items (cell.Array p ∷ below) turned e = (reverse below, (p, front_of items (cell.Array p) below turned))
ends_in_place items (cell.Block b ∷ below) turned e = let no : false ≡ true = e in absurd (cc)

-- the last is known
pub ended : (items now front : List Cell) (x : Cell) → reverse items ≡ now → items ≡ front ++ x ∷ [] → now ≡ x ∷ drop 1 now
ended items now front x turned e =
    let is : now ≡ x ∷ reverse front = sym turned ∙ ap reverse e ∙ reverse-append front (x ∷ []) in
    is ∙ ap (λ l. x ∷ drop 1 l) (sym is)

-- the last was replaced
pub ended_by : (items now left : List Cell) (y : Cell) → reverse items ≡ now → 1 ≤ length now
    → ((front : List Cell) (x : Cell) → items ≡ front ++ x ∷ [] → left ≡ front ++ y ∷ []) → reverse left ≡ y ∷ drop 1 now
ended_by items [] left y turned some h = absurd (omega (arith, some))
ended_by items (x ∷ xs) left y turned some h =
    ap reverse (h (reverse xs) x (front_of items x xs turned)) ∙ reverse-append (reverse xs) (y ∷ []) ∙ ap (λ l. y ∷ l) (reverse-reverse xs)

-- the last was taken
pub popped : (items now : List Cell) (top : ℕ) (d : Cell) → reverse items ≡ now → 1 ≤ length now → top ≡ length items - 1
    → now ≡ get_or items top d ∷ reverse (take top items)
popped items [] top d turned some at = absurd (omega (arith, some))
popped items (x ∷ xs) top d turned some at =
    let is : items ≡ reverse xs ++ x ∷ [] = front_of items x xs turned in
    let end : top ≡ length (reverse xs) = omega (arith, at, ap length is, length-append (reverse xs) (x ∷ [])) in
    let read : get_or items top d ≡ x =
    ap (λ i. get_or items i d) end ∙ ap (λ l. get_or l (length (reverse xs)) d) is ∙ get_or-append_seam (reverse xs) x [] d in
    let rest : reverse (take top items) ≡ xs =
    ap (λ i. reverse (take i items)) end ∙ ap (λ l. reverse (take (length (reverse xs)) l)) is ∙ ap reverse (take-append_seam (reverse xs) (x ∷ [])) ∙ reverse-reverse xs in
    sym (ap (λ y. y ∷ reverse (take top items)) read ∙ ap (λ l. x ∷ l) rest)

-- one is left, where there was one
pub first_only : (cells : List Cell) → 1 ≤ length cells → take 1 cells ≡ get_or cells 0 no_int ∷ []
first_only [] some = absurd (omega (arith, some))
first_only (x ∷ xs) some = refl

-- one 0 more than these
pub one_more : (others : List Cell) (n : ℕ) → n ≡ length others → others ++ replicate (n + 1 - length others) no_int ≡ others ++ no_int ∷ []
one_more others n is = let one : n + 1 - length others ≡ 1 = omega (arith, is) in ap (λ k. others ++ replicate k no_int) one

pub none_more : (cells more : List Cell) → length more ≡ 0 → cells ≡ cells ++ more
none_more cells [] is = sym (append-nil cells)
none_more cells (x ∷ xs) is = absurd (omega (arith, is))

-- the operand so many below the topmost
pub read_below : (items now : List Cell) (below index : ℕ) (d : Cell) → reverse items ≡ now → below < length now → index ≡ length items - 1 - below
    → slice_get now below ≡ Some (get_or items index d)
read_below items now below index d turned lt at =
    let same : length now ≡ length items = ap length (sym turned) ∙ length-reverse items in
    slice_get-get_or now below d lt ∙ ap Some (ap (λ l. get_or l below d) (sym turned) ∙ get_or-reverse items below d (omega (arith, same, lt)) ∙ ap (λ i. get_or items i d) (sym at))

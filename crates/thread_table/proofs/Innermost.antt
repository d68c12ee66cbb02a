-- The innermost of the activations that wait is the last of the list, and its operands are the last cells. For `pop` and `forget` of `Callers`.
-- Both lists are turned round, so that the innermost comes first; one that left no operands below needs no cells, and is told apart.
use Rattle.std.proofs.Common.{◌≡◌, ℕ, zero, suc, ◌+◌, ◌-◌, ◌≤◌, List, [], ◌∷◌, ◌++◌, length, take, drop, Some, None, refl, sym, ap, ◌∙◌, arith}
use Rattle.std.specs.Prelude.{reverse, slice_get}
use Rattle.std.proofs.lemmas.List.{reverse-append, reverse-reverse, length-reverse, take-append-drop, drop_all}
use Rattle.std.proofs.lemmas.Option.{slice_get_within}
use Rattle.work_item.specs.declared.cell.Cell.{Cell}
use Rattle.code_meaning.specs.Machine.{Caller}
use Rattle.thread_table.specs.declared.callers.WaitingCall.{WaitingCall}
use Rattle.thread_table.specs.Callers.{callers_of, all_below}
use Rattle.thread_table.proofs.Tops.{taken, left}

module _ (waiting rest : List WaitingCall) (w : WaitingCall) (cells : List Cell) (end : ℕ)
    (last : waiting ≡ rest ++ w ∷ []) (all : all_below (reverse waiting) ≡ length cells) (lies : end ≡ length cells - w.below) where
  turned : reverse waiting ≡ w ∷ reverse rest
  turned = ap reverse last ∙ reverse-append rest (w ∷ [])

  enough : w.below ≤ length (reverse cells)
  enough =
      let sum : w.below + all_below (reverse rest) ≡ length cells = sym (ap all_below turned) ∙ all in
      let same = length-reverse cells in
      omega (arith, sum, same)

  abbrev pub innermost : Caller
  innermost = record { place = w.place; frame = w.frame; operands = reverse (drop end cells) }

  pub innermost_first : callers_of (reverse waiting) (reverse cells) ≡ innermost ∷ callers_of (reverse rest) (reverse (take end cells))
  innermost_first =
      let top : take w.below (reverse cells) ≡ reverse (drop end cells) =
      sym (reverse-reverse (take w.below (reverse cells))) ∙ ap reverse (sym (taken cells (reverse cells) end w.below refl enough lies)) in
      let below : drop w.below (reverse cells) ≡ reverse (take end cells) = sym (left cells (reverse cells) end w.below refl enough lies) in
      ap (λ l. callers_of l (reverse cells)) turned
      ∙ ap (λ l. (record { place = w.place; frame = w.frame; operands = l }) ∷ callers_of (reverse rest) (drop w.below (reverse cells))) top
      ∙ ap (λ l. innermost ∷ callers_of (reverse rest) l) below

-- one that has left no operands below
module _ (waiting rest : List WaitingCall) (w : WaitingCall) (cells : List Cell) (last : waiting ≡ rest ++ w ∷ []) (none : w.below ≡ 0) where
  abbrev pub alone : Caller
  alone = record { place = w.place; frame = w.frame; operands = [] }

  pub alone_first : callers_of (reverse waiting) (reverse cells) ≡ alone ∷ callers_of (reverse rest) (reverse cells)
  alone_first =
      ap (λ l. callers_of l (reverse cells)) (ap reverse last ∙ reverse-append rest (w ∷ []))
      ∙ ap (λ n. (record { place = w.place; frame = w.frame; operands = take n (reverse cells) }) ∷ callers_of (reverse rest) (drop n (reverse cells))) none

-- ---- the last of a list

drop_at : {A : Type 0} (xs : List A) (n : ℕ) (x : A) → slice_get xs n ≡ Some x → drop n xs ≡ x ∷ drop (suc n) xs
drop_at [] n x e = let no : None ≡ Some x = e in cc
drop_at (y ∷ xs) zero x e = let same : y ≡ x = cc in ap (λ z. z ∷ xs) same
drop_at (y ∷ xs) (suc n) x e = drop_at xs n x e

pub last_is : {A : Type 0} (xs : List A) (x : A) → slice_get xs (length xs - 1) ≡ Some x → xs ≡ take (length xs - 1) xs ++ x ∷ []
last_is xs x e =
    let within = slice_get_within xs (length xs - 1) x e in
    let end : length xs ≤ suc (length xs - 1) = omega arith in
    sym (take-append-drop (length xs - 1) xs) ∙ ap (λ l. take (length xs - 1) xs ++ l) (drop_at xs (length xs - 1) x e ∙ ap (λ l. x ∷ l) (drop_all (suc (length xs - 1)) xs end))

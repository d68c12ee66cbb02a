-- Clearing cells one by one.
-- For the loop of `clear_words`, and for what is left of the others: after so many turns just so many cells hold 0, and one turn more is one cell more. By induction on the
-- first slot and then on the count.
use Rattle.std.proofs.Common.{◌≡◌, ℕ, zero, suc, ◌+◌, ◌<◌, List, [], ◌∷◌, length, refl, ap, ◌∙◌, arith, set}
use Rattle.work_item.specs.declared.cell.Cell.{Cell}
use Rattle.work_item.specs.Store.{no_int, cleared_front, cleared}

length-front : (n : ℕ) (xs : List Cell) → length (cleared_front n xs) ≡ length xs
length-front zero xs = refl
length-front (suc n) [] = refl
length-front (suc n) (x ∷ xs) = ap suc (length-front n xs)

pub length-cleared : (slot n : ℕ) (xs : List Cell) → length (cleared slot n xs) ≡ length xs
length-cleared zero n xs = length-front n xs
length-cleared (suc slot) n [] = refl
length-cleared (suc slot) n (x ∷ xs) = ap suc (length-cleared slot n xs)

front_more : (n : ℕ) (xs : List Cell) → n < length xs → set (cleared_front n xs) n no_int ≡ cleared_front (suc n) xs
front_more n [] h = absurd (omega arith)
front_more zero (x ∷ xs) h = refl
front_more (suc n) (x ∷ xs) h = ap (λ ys. no_int ∷ ys) (front_more n xs (omega arith))

more : (slot n : ℕ) (xs : List Cell) → slot + n < length xs → set (cleared slot n xs) (slot + n) no_int ≡ cleared slot (suc n) xs
more slot n [] h = absurd (omega arith)
more zero n (x ∷ xs) h =
    let e : zero + n ≡ n = omega arith in
    ap (λ k. set (cleared_front n (x ∷ xs)) k no_int) e ∙ front_more n (x ∷ xs) (omega arith)
more (suc slot) n (x ∷ xs) h =
    let e : suc slot + n ≡ suc (slot + n) = omega arith in
    ap (λ k. set (x ∷ cleared slot n xs) k no_int) e ∙ ap (λ ys. x ∷ ys) (more slot n xs (omega arith))

pub cleared_more : (slot n : ℕ) (xs : List Cell) → slot + n < length xs → set (cleared slot n xs) (slot + n) no_int ≡ cleared slot (n + 1) xs
cleared_more slot n xs h = let e : suc n ≡ n + 1 = omega arith in more slot n xs h ∙ ap (λ k. cleared slot k xs) e

pub cleared_none : (slot : ℕ) (xs : List Cell) → xs ≡ cleared slot 0 xs
cleared_none zero xs = refl
cleared_none (suc slot) [] = refl
cleared_none (suc slot) (x ∷ xs) = ap (λ ys. x ∷ ys) (cleared_none slot xs)

-- Clearing cells one by one, where they are there.
-- For the loop of `clear_cells`: one cell more is set to 0, by induction on the first slot and the count. One past the end is not there,
-- and setting it changes nothing.
use Rattle.std.proofs.Common.{◌≡◌, ℕ, zero, suc, ◌+◌, List, [], ◌∷◌, refl, ap, ◌∙◌, arith, set}
use Rattle.work_item.specs.declared.cell.Cell.{Cell}
use Rattle.work_item.specs.Store.{no_int, cleared_front, cleared}

front_one : (n : ℕ) (xs : List Cell) → set (cleared_front n xs) n no_int ≡ cleared_front (suc n) xs
front_one zero [] = refl
front_one zero (x ∷ xs) = refl
front_one (suc n) [] = refl
front_one (suc n) (x ∷ xs) = ap (λ ys. no_int ∷ ys) (front_one n xs)

one : (slot n : ℕ) (xs : List Cell) → set (cleared slot n xs) (slot + n) no_int ≡ cleared slot (suc n) xs
one zero n xs = let e : zero + n ≡ n = omega arith in ap (λ k. set (cleared_front n xs) k no_int) e ∙ front_one n xs
one (suc slot) n [] = refl
one (suc slot) n (x ∷ xs) =
    let e : suc slot + n ≡ suc (slot + n) = omega arith in
    ap (λ k. set (x ∷ cleared slot n xs) k no_int) e ∙ ap (λ ys. x ∷ ys) (one slot n xs)

pub cleared_one : (slot n : ℕ) (xs : List Cell) → set (cleared slot n xs) (slot + n) no_int ≡ cleared slot (n + 1) xs
cleared_one slot n xs = let e : suc n ≡ n + 1 = omega arith in one slot n xs ∙ ap (λ k. cleared slot k xs) e

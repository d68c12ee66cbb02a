-- The cells of a call.
-- For the loop of `cells_of_call`: the cells so far and the arguments of the parameters that are left are all arguments; where parameters
-- or operands have come to their end none is left, and 0 fills the other slots.
use Rattle.std.proofs.Common.{◌≡◌, ℕ, zero, suc, ◌-◌, ◌≤◌, List, [], ◌∷◌, ◌++◌, length, take, drop, min, max, replicate, Bool, refl, sym, ap, ◌∙◌, arith, length-append, append-nil}
use Rattle.std.proofs.lemmas.List.{length-replicate, take_all}
use Rattle.work_item.specs.declared.cell.Cell.{Cell}
use Rattle.work_item.specs.Store.{no_int}
use Rattle.core_state.specs.Frames.{arguments, first_cells}

pub length-arguments : (params : List Bool) (args : List Cell) → length (arguments params args) ≡ min (length params) (length args)
length-arguments [] args = omega arith
length-arguments (array ∷ params) [] = omega arith
length-arguments (array ∷ params) (x ∷ args) = let e = length-arguments params args in omega (arith, e)

pub length-first_cells : (params : List Bool) (args : List Cell) (slots : ℕ) → length (first_cells (arguments params args) slots) ≡ max (min (length params) (length args)) slots
length-first_cells params args slots =
    let all = arguments params args in
    let e = length-arguments params args in
    let a = length-append all (replicate (slots - length all) no_int) in
    let b = length-replicate (slots - length all) no_int in
    omega (arith, e, a, b)

no_params : (params : List Bool) → arguments params [] ≡ []
no_params [] = refl
no_params (array ∷ params) = refl

pub none_left : (params : List Bool) (args : List Cell) (n : ℕ) → min (length params) (length args) ≤ n → arguments (drop n params) (drop n args) ≡ []
none_left [] args zero h = refl
none_left [] args (suc n) h = refl
none_left (array ∷ params) [] zero h = refl
none_left (array ∷ params) [] (suc n) h = no_params (drop n params)
none_left (array ∷ params) (x ∷ args) zero h = absurd (omega arith)
none_left (array ∷ params) (x ∷ args) (suc n) h = none_left params args n (omega arith)

-- the slots that no parameter has hold 0
pub filled : (params : List Bool) (args cells after : List Cell) (slots n long count : ℕ)
    → cells ++ arguments (drop n params) (drop n args) ≡ arguments params args → min (length params) (length args) ≤ n
    → length cells ≡ long → count ≡ max long slots → after ≡ take count cells ++ replicate (count - long) no_int → after ≡ first_cells (arguments params args) slots
filled params args cells after slots n long count h le l m is =
    let all : cells ≡ arguments params args = sym (append-nil cells) ∙ sym (ap (λ xs. cells ++ xs) (none_left params args n le)) ∙ h in
    let whole : take count cells ≡ cells = take_all count cells (omega (arith, l, m)) in
    let rest : count - long ≡ slots - length cells = omega (arith, l, m) in
    is ∙ ap (λ xs. xs ++ replicate (count - long) no_int) whole ∙ ap (λ k. cells ++ replicate k no_int) rest ∙ ap (λ xs. first_cells xs slots) all

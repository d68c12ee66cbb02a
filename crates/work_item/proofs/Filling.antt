-- Filling a frame: what is given, and 0 from there on.
-- A new frame has just so many cells as it was asked for.
use Rattle.std.proofs.Common.{◌≡◌, ℕ, ◌+◌, ◌-◌, ◌≤◌, List, ◌++◌, length, replicate, ap, ◌∙◌, arith}
use Rattle.std.proofs.lemmas.List.{length-append, length-replicate}
use Rattle.work_item.specs.declared.cell.Cell.{Cell}
use Rattle.work_item.specs.Store.{no_int}

abbrev pub filled : List Cell → ℕ → List Cell
filled first words = first ++ replicate (words - length first) no_int

pub length-filled : (first : List Cell) (words : ℕ) → length first ≤ words → length (filled first words) ≡ words
length-filled first words le =
    let n : length (filled first words) ≡ length first + (words - length first) = length-append first (replicate (words - length first) no_int)
    ∙ ap (λ k. length first + k) (length-replicate (words - length first) no_int) in
    omega (arith, n, le)

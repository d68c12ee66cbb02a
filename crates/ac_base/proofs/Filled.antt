-- A row of places that is filled up with one value stays so where the first of these places is set and belongs to the front now.
use Rattle.std.proofs.Common.{◌≡◌, ℕ, ◌+◌, ◌-◌, List, drop, replicate, slice_set, ap, ◌∙◌, sym, arith}
use Rattle.std.proofs.lemmas.List.{drop-set-lt, drop-drop, drop-replicate}

pub one_less : {X : Type 0} (count size : ℕ) (xs : List X) (x rest : X) → drop count xs ≡ replicate (size - count) rest
    → drop (count + 1) (slice_set xs count x) ≡ replicate (size - (count + 1)) rest
one_less count size xs x rest filled =
    drop-set-lt (count + 1) xs count x (omega arith) ∙ (sym (drop-drop 1 count xs) ∙ (ap (drop 1) filled ∙ (drop-replicate 1 (size - count) rest
    ∙ ap (λ (n : ℕ). replicate n rest) (omega arith))))

-- A call can be merged; and a status that is 1 unless it is 8.
use Rattle.std.proofs.Common.{◌≡◌, ℕ, List, arith, inl, inr, ⊎_elim, ◌⊎◌}
use Rattle.std.proofs.lemmas.Bool.{cases_eq}
use Rattle.merge_program.specs.Words.{IsCall, MayMerge}

pub may_merge : (words : List (List ℕ)) (n w : ℕ) → IsCall words n w → MayMerge n w
may_merge words n w h = (h.messages.within, (let l = h.producers.least in omega (arith, l)), h.producers.within)

pub one_or_eight : (n : ℕ) → ((n ≡ 8 → ⊥) → n ≡ 1) → (n ≡ 1) ⊎ (n ≡ 8)
one_or_eight n h = ⊎_elim (λ (e : n ≡ 8). inr e) (λ (d : n ≡ 8 → ⊥). inl (h d)) (cases_eq n 8)

-- Words and seats of one link more.
use Rattle.std.proofs.Common.{◌≡◌, ⊎_elim, ℕ, List, [], ◌∷◌, ◌++◌, Some, sym, ap, ◌∙◌, subst, arith, length, append-nil}
use Rattle.std.specs.Prelude.{slice_get}
use Rattle.std.proofs.lemmas.Option.{slice_get_within}
use Rattle.completion_word.specs.declared.words.Words.{Words}
use Rattle.run_ends.specs.declared.words.Seats.{Seats}
use Rattle.run_ends.specs.Unused.{IsUnused, AreUnusedAt}
use Rattle.run_ends.proofs.Places.{at_more, same_some}

pub unused_more : (cs : List ℕ) (ws : List Words) (ss : List Seats) (n c : ℕ) (w : Words) (s : Seats) → length ws ≡ n → length ss ≡ n → slice_get cs n ≡ Some c
    → AreUnusedAt cs ws ss → IsUnused c w s → AreUnusedAt cs (ws ++ w ∷ []) (ss ++ s ∷ [])
unused_more cs ws ss n c w s many as_many here old new l d v t is_c is_w is_s =
    ⊎_elim
    (λ before. ⊎_elim (λ also. old l d v t is_c before also)
    (λ last. let within = slice_get_within ws l v before in absurd (omega (arith, within, many, as_many, last.0)))
    (at_more ss s t l is_s))
    (λ last. ⊎_elim (λ before. let within = slice_get_within ss l t before in absurd (omega (arith, within, many, as_many, last.0)))
    (λ also.
    let place : l ≡ n = last.0 ∙ many in
    let capacity : c ≡ d = same_some c d (sym here ∙ ap (slice_get cs) (sym place) ∙ is_c) in
    subst (λ x. IsUnused x v t) capacity (subst (λ x. IsUnused c x t) last.1 (subst (λ x. IsUnused c w x) also.1 new)))
    (at_more ss s t l is_s))
    (at_more ws w v l is_w)

-- where the seats of the channels are full, the next ones are those of the requests
pub seats_first : (fs os : List Seats) (s : Seats) → os ≡ [] → (fs ++ s ∷ []) ++ os ≡ (fs ++ os) ++ s ∷ []
seats_first fs os s none = ap (λ xs. (fs ++ s ∷ []) ++ xs) none ∙ append-nil (fs ++ s ∷ []) ∙ sym (ap (λ xs. xs ++ s ∷ []) (append-nil fs)) ∙ sym (ap (λ xs. (fs ++ xs) ++ s ∷ []) none)

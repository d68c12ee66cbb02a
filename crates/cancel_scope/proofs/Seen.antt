-- What is seen of a list of operations: a test of it, and one more of the list.
-- For `waits`, which asks the operations and not what is seen of them, and for the loop of `seen`, whose invariant is that what was seen
-- and what is left to see are the whole.
use Rattle.std.proofs.Common.{◌≡◌, ℕ, zero, suc, ◌+◌, List, [], ◌∷◌, ◌++◌, drop, refl, sym, ap, ◌∙◌, append_assoc, arith}
use Rattle.std.specs.Prelude.{Some, None, Bool, map, slice_get, ◌||◌}
use Rattle.std.specs.List.{list_any}
use Rattle.ac_base.specs.declared.ends.Waiting.{Waiting}
use Rattle.cancel_scope.specs.declared.operation.Operation.{Operation}
use Rattle.cancel_scope.specs.Outstanding.{waiting_as, waits_on}

pub any_seen : (link : ℕ) (xs : List Operation) → list_any (λ o. waits_on link (waiting_as o)) xs ≡ list_any (waits_on link) (map waiting_as xs)
any_seen link [] = refl
any_seen link (x ∷ xs) = ap (λ (b : Bool). waits_on link (waiting_as x) || b) (any_seen link xs)

drop_at : (xs : List Operation) (i : ℕ) (o : Operation) → slice_get xs i ≡ Some o → drop i xs ≡ o ∷ drop (suc i) xs
drop_at [] i o at = let no : None ≡ Some o = at in cc
drop_at (x ∷ xs) zero o at = let same : x ≡ o = cc in ap (λ y. y ∷ xs) same
drop_at (x ∷ xs) (suc i) o at = drop_at xs i o at

-- the ones up to a place have been seen, and so has the one there
pub seen_more : (xs : List Operation) (i : ℕ) (o : Operation) (seen after all : List Waiting) → slice_get xs i ≡ Some o → seen ++ map waiting_as (drop i xs) ≡ all
    → after ≡ seen ++ waiting_as o ∷ [] → after ++ map waiting_as (drop (i + 1) xs) ≡ all
seen_more xs i o seen after all at so_far is =
    let next : i + 1 ≡ suc i = omega arith in
    ap (λ l. l ++ map waiting_as (drop (i + 1) xs)) is ∙ append_assoc seen (waiting_as o ∷ []) (map waiting_as (drop (i + 1) xs))
    ∙ ap (λ k. seen ++ waiting_as o ∷ map waiting_as (drop k xs)) next ∙ ap (λ l. seen ++ map waiting_as l) (sym (drop_at xs i o at)) ∙ so_far

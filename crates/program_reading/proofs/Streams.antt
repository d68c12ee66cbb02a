-- What several writes do to the bytes that a sink tells: a front of a text and the next bytes of it are together a longer front.
-- Where the sink tells nothing, nothing is claimed; where it does, the two pieces are joined.
use Rattle.std.proofs.Common.{◌≡◌, ℕ, ◌+◌, List, ◌++◌, None, Some, sym, ap, ◌∙◌, append_assoc, subst, take, drop}
use Rattle.std.specs.declared.option.Option.{Option}
use Rattle.std.proofs.Math.Seq.{take-add}
use Rattle.ac_outside.specs.Told.{GrewBy}

-- two pieces, one after the other
GrewBy-more : (a b c : Option (List ℕ)) (xs ys : List ℕ) → GrewBy a b xs → GrewBy b c ys → GrewBy a c (xs ++ ys)
GrewBy-more a b None xs ys g h = tt
GrewBy-more a None (Some zs) xs ys g h = absurd h
GrewBy-more None (Some bs) (Some zs) xs ys g h = absurd g
GrewBy-more (Some old) (Some bs) (Some zs) xs ys g h = h ∙ ap (λ ws. ws ++ ys) g ∙ append_assoc old xs ys

-- n more bytes of a text
pub taken_more : (a b c : Option (List ℕ)) (text piece : List ℕ) (at n : ℕ) → GrewBy a b (take at text) → GrewBy b c (take n piece) → piece ≡ drop at text → GrewBy a c (take (at + n) text)
taken_more a b c text piece at n g h e = subst (λ xs. GrewBy a c xs) (sym (take-add at n text)) (GrewBy-more a b c (take at text) (take n (drop at text)) g (subst (λ xs. GrewBy b c (take n xs)) e h))

-- Reading parts one after the other, as a loop does: what is read so far, in front of what the rest is read as, is what the whole is read as.
-- That is the invariant of the loops for links and arguments, and of the parser's; a lemma for each way a turn ends, by what `many_at` comes to.
use Rattle.std.proofs.Common.{◌≡◌, ℕ, suc, ◌-◌, ◌+◌, ◌≤◌, ◌<◌, List, [], ◌∷◌, ◌++◌, Ok, Err, refl, sym, ap, ◌∙◌, append_assoc, arith}
use Rattle.std.specs.Prelude.{Bool, true, false}
use Rattle.std.proofs.lemmas.List.{append-nil}
use Rattle.ac_lexer.specs.declared.token.Token.{Token}
use Rattle.ac_expressions.specs.declared.cursor.Halt.{Halt}
use Rattle.ac_expressions.specs.declared.cursor.Halt.TheVariants as h
use Rattle.reading_laws.specs.Readers.{Reads, ◌>>=◌, halt, unexpected, too_deep, many_at, with_front}
use Rattle.ac_expressions.specs.Returned.{Fails}

module _ {X : Type 0} (more : List Token → Bool) (inner : List Token → Reads X) where
  regroup : (front : List X) (n : X) (read : Reads (List X)) → with_front front (read >>= λ x. Ok (n ∷ x.0, x.1)) ≡ with_front (front ++ n ∷ []) read
  regroup front n (Ok x) = ap (λ (ns : List X). Ok (ns, x.1)) (simp append_assoc)
  regroup front n (Err e) = refl

  -- another one was read
  pub goes_on : (front : List X) (most i : ℕ) (ts : List Token) (x : X) (rest : List Token) (total : Reads (List X))
      → i < most → more ts ≡ true → inner ts ≡ Ok (x, rest) → with_front front (many_at more inner (most - i) ts) ≡ total
      → with_front (front ++ x ∷ []) (many_at more inner (most - (i + 1)) rest) ≡ total
  unfolding many_at
  goes_on front most i ts x rest total lt q g so_far =
      let k : most - i ≡ suc (most - (i + 1)) = omega arith in
      let one : with_front front (many_at more inner (most - i) ts) ≡ with_front (front ++ x ∷ []) (many_at more inner (most - (i + 1)) rest) =
      rw (k, q, g) (regroup front x (many_at more inner (most - (i + 1)) rest)) in
      sym one ∙ so_far

  -- the next one stops
  pub ends : (left : List Token) (e : Halt) (front : List X) (most i : ℕ) (ts : List Token) (total : Reads (List X))
      → i < most → more ts ≡ true → Fails left e (inner ts) → with_front front (many_at more inner (most - i) ts) ≡ total → Fails left e total
  unfolding many_at
  ends left h.Memory front most i ts total lt q g so_far = tt
  ends left h.Unexpected front most i ts total lt q g so_far =
      let k : most - i ≡ suc (most - (i + 1)) = omega arith in
      let one : with_front front (many_at more inner (most - i) ts) ≡ Err (halt unexpected left) = rw (k, q, g) refl in sym so_far ∙ one
  ends left h.TooDeep front most i ts total lt q g so_far =
      let k : most - i ≡ suc (most - (i + 1)) = omega arith in
      let one : with_front front (many_at more inner (most - i) ts) ≡ Err (halt too_deep left) = rw (k, q, g) refl in sym so_far ∙ one

  -- no more comes
  pub is_over : (front : List X) (most i : ℕ) (ts : List Token) (total : Reads (List X)) → i < most → more ts ≡ false → with_front front (many_at more inner (most - i) ts) ≡ total
      → total ≡ Ok (front, ts)
  unfolding many_at
  is_over front most i ts total lt q so_far =
      let k : most - i ≡ suc (most - (i + 1)) = omega arith in
      let one : with_front front (many_at more inner (most - i) ts) ≡ Ok (front, ts) = rw (k, q) (ap (λ (ns : List X). Ok (ns, ts)) (append-nil front)) in sym so_far ∙ one

  pub is_done : (front : List X) (most i : ℕ) (ts : List Token) (total : Reads (List X)) → most ≤ i → with_front front (many_at more inner (most - i) ts) ≡ total → total ≡ Ok (front, ts)
  unfolding many_at
  is_done front most i ts total le so_far =
      let k : most - i ≡ 0 = omega arith in
      let one : with_front front (many_at more inner (most - i) ts) ≡ Ok (front, ts) = rw k (ap (λ (ns : List X). Ok (ns, ts)) (append-nil front)) in sym so_far ∙ one

-- Runs that go on by one move more.
-- By induction on the number of moves: `moves` takes the first move off, and here one comes behind the last.
use Rattle.std.proofs.Common.{◌≡◌, ℕ, zero, suc, refl, sym, ap, ◌∙◌}
use Rattle.core_state.specs.Moves.{Move, On, Over, and_then, moves, GoesOn}

and_then_on : {S E : Type 0} (m : Move S E) → and_then m (λ s. On s) ≡ m
and_then_on (On s) = refl
and_then_on (Over e) = refl

module _ {S E : Type 0} (f : S → Move S E) where
  pass : (k : ℕ) (m : Move S E) → ((s : S) → moves f (suc k) s ≡ and_then (moves f k s) f) → and_then m (moves f (suc k)) ≡ and_then (and_then m (moves f k)) f
  pass k (On s) h = h s
  pass k (Over e) h = refl

  moves_more : (k : ℕ) (s : S) → moves f (suc k) s ≡ and_then (moves f k s) f
  moves_more zero s = and_then_on (f s)
  moves_more (suc k) s = pass k (f s) (moves_more k)

  -- no move
  pub GoesOn-none : (a : Move S E) → GoesOn f a a
  GoesOn-none a = (0, sym (and_then_on a))

  -- one move more
  pub GoesOn-more : (a : Move S E) (m : S) → GoesOn f a (On m) → GoesOn f a (f m)
  GoesOn-more (On s) m h = (suc h.0, ap (λ x. and_then x f) h.1 ∙ sym (moves_more h.0 s))
  GoesOn-more (Over e) m h = let no : On m ≡ Over e = h.1 in cc

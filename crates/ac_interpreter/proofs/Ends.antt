-- A run that comes to an end has a least number of moves, and with each move less is left of it.
-- The interpreter's loop ends since its core comes to an end: what is left of the run, by that number, falls with each move that does not
-- stay. The least number is found by a search below one by which the run is over.
use Rattle.std.proofs.Common.{◌≡◌, ℕ, zero, suc, ◌<◌, Bool, true, false, refl, sym, ap, subst, arith}
use Rattle.core_state.specs.Moves.{Move, On, Over, and_then, moves, ComesTo}
use Rattle.ac_interpreter.specs.Ends.{is_over, IsOverBy, HasCount, apart}
use Rattle.ac_interpreter.specs.inner.Left.{left_by}

-- ---- the least number

abbrev Least : (ℕ → Bool) → Type 0
Least p = (k : ℕ) × (p k ≡ true) × ((j : ℕ) → j < k → p j ≡ false)

one_more : (p : ℕ → Bool) → p 0 ≡ false → Least (λ i. p (suc i)) → Least p
one_more p h r = (suc r.0, r.1, before)
  where
    before : (j : ℕ) → j < suc r.0 → p j ≡ false
    before zero lt = h
    before (suc j) lt = r.2 j (omega arith)

by_first : (p : ℕ → Bool) (b : Bool) → p 0 ≡ b → Least (λ i. p (suc i)) → Least p
by_first p true h r = (0, h, λ j lt. absurd (omega arith))
by_first p false h r = one_more p h r

least : (p : ℕ → Bool) (n : ℕ) → p n ≡ true → Least p
least p zero h = (0, h, λ j lt. absurd (omega arith))
least p (suc n) h = by_first p (p 0) refl (least (λ i. p (suc i)) n h)

module _ {S E : Type 0} (f : S → Move S E) where
  pub has_count : (a : Move S E) (e : E) → ComesTo f a e → HasCount f a
  has_count a e h =
      let r = least (λ k. is_over (and_then a (moves f k))) h.0 (sym (ap is_over h.1)) in
      (r.0, (r.1, r.2))

  -- ---- with each move

  longer : (n : ℕ) (a : Move S E) → IsOverBy f a n → IsOverBy f a (suc n)
  longer n (Over e) h = refl
  longer zero (On s) h = apart false h refl
  longer (suc n) (On s) h = longer n (f s) h

  -- it still is over by that number
  pub over_next : (n : ℕ) (s : S) → IsOverBy f (On s) n → IsOverBy f (f s) n
  over_next zero s h = apart false h refl
  over_next (suc n) s h = longer n (f s) h

  same_left : (n : ℕ) (a : Move S E) → IsOverBy f a n → left_by f (suc n) a ≡ left_by f n a
  same_left n (Over e) h = refl
  same_left zero (On s) h = apart false h refl
  same_left (suc n) (On s) h = ap suc (same_left n (f s) h)

  pub less_left : (n : ℕ) (s : S) → IsOverBy f (On s) n → left_by f n (f s) < left_by f n (On s)
  less_left zero s h = apart false h refl
  less_left (suc n) s h = let e = same_left n (f s) h in omega (arith, e)

  -- it does not stay where it is
  pub never_stays : (n : ℕ) (s : S) → IsOverBy f (On s) n → f s ≡ On s → ⊥
  never_stays zero s h e = apart false h refl
  never_stays (suc n) s h e = never_stays n s (subst (λ (a : Move S E). IsOverBy f a n) e h) e

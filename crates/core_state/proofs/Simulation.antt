-- Two machines of which the one follows the other come to the same ends.
-- `Follows`: for one move of the first, the second takes one move or more to a related state, or comes to the same end. By induction on the
-- moves of the first. The way back needs that each move takes at least one of the second, so that a run of the second which ends bounds
-- that of the first (`Kept`).
use Rattle.std.proofs.Common.{◌≡◌, ℕ, zero, suc, ◌<◌, ◌≤◌, refl, sym, ap, ◌∙◌, subst, ⊎_elim, arith, ◌↔◌}
use Rattle.std.proofs.lemmas.Bool.{cases_lt}
use Rattle.core_state.specs.Moves.{Move, On, Over, and_then, moves, EndsAs}

module _ {S E : Type 0} (f : S → Move S E) where
  -- one state leads to another in one move or more
  pub record Leads (a b : S) : Type 0 where
    pub by : (k : ℕ) → (j : ℕ) × (k < j) × (moves f j a ≡ moves f k b)

  pub one : (a b : S) → f a ≡ On b → Leads a b
  one a b e = record { by = λ k. (suc k, omega arith, ap (λ m. and_then m (moves f k)) e) }

  pub then_on : (a b c : S) → Leads a b → Leads b c → Leads a c
  then_on a b c l m = record { by = λ k. let y = m.by k in let x = l.by y.0 in (x.0, omega (arith, x.1, y.1), x.2 ∙ y.2) }

  pub over_at : (a : S) (e : E) → f a ≡ Over e → EndsAs f a e
  over_at a e h = (1, ap (λ m. and_then m (moves f 0)) h)

  pub over_later : (a b : S) (e : E) → Leads a b → EndsAs f b e → EndsAs f a e
  over_later a b e l h = let x = l.by h.0 in (x.0, x.2 ∙ h.1)

  -- more moves change nothing of a run that is over
  and_longer : (k j : ℕ) (m : Move S E) (e : E) → ((s : S) → moves f k s ≡ Over e → moves f j s ≡ Over e) → and_then m (moves f k) ≡ Over e → and_then m (moves f j) ≡ Over e
  and_longer k j (On s) e h r = h s r
  and_longer k j (Over x) e h r = r

  pub longer : (k j : ℕ) (s : S) (e : E) → k ≤ j → moves f k s ≡ Over e → moves f j s ≡ Over e
  longer zero j s e le r = cc
  longer (suc k) zero s e le r = absurd (omega arith)
  longer (suc k) (suc j) s e le r = and_longer k j (f s) e (λ t h. longer k j t e (omega arith) h) r

  -- so a run has one end
  pub one_end : (s : S) (d e : E) → EndsAs f s d → EndsAs f s e → d ≡ e
  one_end s d e x y =
      ⊎_elim
      (λ lt. let h = longer x.0 y.0 s d (omega arith) x.1 in let k : Over d ≡ Over e = sym h ∙ y.1 in cc)
      (λ le. let h = longer y.0 x.0 s e le y.1 in let k : Over d ≡ Over e = sym x.1 ∙ h in cc)
      (cases_lt x.0 y.0)

-- what the second machine has to do for one move of the first
pub data Follows {S E C F : Type 0} (g : C → Move C F) (R : S → C → Type 0) (seen : F → E) (c : C) : Move S E → Type 0 where
  follows_on : {s : S} → (d : C) → Leads g c d → R s d → Follows g R seen c (On s)
  follows_over : {e : E} → (x : F) → EndsAs g c x → seen x ≡ e → Follows g R seen c (Over e)

-- what it has done for so many moves
data Kept {S E C F : Type 0} (g : C → Move C F) (R : S → C → Type 0) (seen : F → E) (k : ℕ) (c : C) : Move S E → Type 0 where
  kept_on : {s : S} → (d : C) (j : ℕ) → k ≤ j → moves g j c ≡ On d → R s d → Kept g R seen k c (On s)
  kept_over : {e : E} → (x : F) → EndsAs g c x → seen x ≡ e → Kept g R seen k c (Over e)

module _ {S E C F : Type 0} (f : S → Move S E) (g : C → Move C F) (R : S → C → Type 0) (seen : F → E) where
  after : (k : ℕ) (c d : C) (m : Move S E) → Leads g c d → Kept g R seen k d m → Kept g R seen (suc k) c m
  after k c d m l (kept_on x j le e r) = let a = l.by j in kept_on x a.0 (omega (arith, a.1)) (a.2 ∙ e) r
  after k c d m l (kept_over x h e) = kept_over x (over_later g c d x l h) e

  next : (k : ℕ) (c : C) (m : Move S E) → ((s : S) (d : C) → R s d → Kept g R seen k d (moves f k s)) → Follows g R seen c m → Kept g R seen (suc k) c (and_then m (moves f k))
  next k c m all (follows_on {s} d l r) = after k c d (moves f k s) l (all s d r)
  next k c m all (follows_over x h e) = kept_over x h e

  module _ (sim : (s : S) (c : C) → R s c → Follows g R seen c (f s)) where
    all_follows : (k : ℕ) (s : S) (c : C) → R s c → Kept g R seen k c (moves f k s)
    all_follows zero s c r = kept_on c 0 (omega arith) refl r
    all_follows (suc k) s c r = next k c (f s) (all_follows k) (sim s c r)

    forth : (k : ℕ) (c : C) (e : E) → Kept g R seen k c (Over e) → (x : F) × EndsAs g c x × (seen x ≡ e)
    forth k c e (kept_over x h q) = (x, h, q)

    back : (k : ℕ) (s : S) (c : C) (x : F) (m : Move S E) → moves f k s ≡ m → moves g k c ≡ Over x → Kept g R seen k c m → EndsAs f s (seen x)
    back k s c x m e h (kept_on d j le q r) =
        let l = longer g k j c x le h in
        let no : On d ≡ Over x = sym q ∙ l in
        cc
    back k s c x m e h (kept_over y q p) =
        let same = one_end g c y x q (k, h) in
        (k, e ∙ ap Over (sym p ∙ ap seen same))

    -- the second comes to just the ends that the first comes to
    pub same_ends : (s : S) (c : C) → R s c → (e : E) → EndsAs f s e ↔ ((x : F) × EndsAs g c x × (seen x ≡ e))
    same_ends s c r e = (
      λ h. forth h.0 c e (subst (Kept g R seen h.0 c) h.1 (all_follows h.0 s c r)),
      λ h. subst (EndsAs f s) h.2 (back h.1.0 s c h.0 (moves f h.1.0 s) refl h.1.1 (all_follows h.1.0 s c r)),
    )

-- moves of the second machine before it follows
pub follows_later : {S E C F : Type 0} (g : C → Move C F) (R : S → C → Type 0) (seen : F → E) (c d : C) (m : Move S E) → Leads g c d → Follows g R seen d m → Follows g R seen c m
follows_later g R seen c d m l (follows_on x m' r) = follows_on x (then_on g c d x l m') r
follows_later g R seen c d m l (follows_over x h e) = follows_over x (over_later g c d x l h) e

-- the same where the first may have come to its next state already
pub data Reaches {S E C F : Type 0} (g : C → Move C F) (R : S → C → Type 0) (seen : F → E) (c : C) : Move S E → Type 0 where
  arrived : {s : S} → R s c → Reaches g R seen c (On s)
  follows : {m : Move S E} → Follows g R seen c m → Reaches g R seen c m

-- one move or more before that
pub reaches_later : {S E C F : Type 0} (g : C → Move C F) (R : S → C → Type 0) (seen : F → E) (c d : C) (m : Move S E) → Leads g c d → Reaches g R seen d m → Follows g R seen c m
reaches_later g R seen c d m l (arrived r) = follows_on d l r
reaches_later g R seen c d m l (follows f) = follows_later g R seen c d m l f

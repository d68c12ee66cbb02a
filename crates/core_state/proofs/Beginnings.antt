-- Two machines of which the one follows the other, each from what it begins with: a state, or an end at once.
-- Where both begin with related states the theorem of Simulation says it; where both are over at once, their ends are the same by what is
-- given.
use Rattle.std.proofs.Common.{◌≡◌, refl, sym, ap, ◌∙◌, ◌↔◌}
use Rattle.core_state.specs.Moves.{Move, On, Over, ComesTo}
use Rattle.core_state.proofs.Simulation.{Follows, same_ends}

-- both begin with related states, or are over with the same end
pub data BothBegin {S E C F : Type 0} (R : S → C → Type 0) (seen : F → E) : Move S E → Move C F → Type 0 where
  begin_on : {s : S} {c : C} → R s c → BothBegin R seen (On s) (On c)
  begin_over : {e : E} {x : F} → seen x ≡ e → BothBegin R seen (Over e) (Over x)

module _ {S E C F : Type 0} (f : S → Move S E) (g : C → Move C F) (R : S → C → Type 0) (seen : F → E) (sim : (s : S) (c : C) → R s c → Follows g R seen c (f s)) where
  -- the second comes to just the ends that the first comes to
  pub same_comes : (a : Move S E) (b : Move C F) → BothBegin R seen a b → (e : E) → ComesTo f a e ↔ ((x : F) × ComesTo g b x × (seen x ≡ e))
  same_comes _ _ (begin_on {s} {c} r) e =
      let both = same_ends f g R seen sim s c r e in (
        λ h. let x = both.0 (h.0, sym h.1) in (x.0, (x.1.0, sym x.1.1), x.2),
        λ h. let x = both.1 (h.0, (h.1.0, sym h.1.1), h.2) in (x.0, sym x.1),
      )
  same_comes _ _ (begin_over {e = d} {x} same) e = (
    λ h. let is : Over e ≡ Over d = h.1 in let back : d ≡ e = cc in (x, (0, refl), same ∙ back),
    λ h. let is : Over h.0 ≡ Over x = h.1.1 in let back : x ≡ h.0 = cc in (0, ap Over (sym h.2 ∙ sym (ap seen back) ∙ same)),
  )

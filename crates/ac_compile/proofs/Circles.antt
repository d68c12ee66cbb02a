-- Where each way from an address without a `Step` goes forward, to a `Step` or to the end of a function, each circle has a `Step`.
-- A circle without a `Step` passes no `Step`, and no end of a function, since nothing is behind a return; so each of its ways goes forward,
-- and none leads back.
use Rattle.std.proofs.Common.{◌≡◌, ℕ, ◌+◌, ◌<◌, ◌⊎◌, Bool, true, false, Some, None, ⊎_elim, sym, ap, ◌∙◌, subst, arith}
use Rattle.std.specs.Prelude.{slice_get, pos, if◌then◌else◌}
use Rattle.stack_code.specs.declared.instr.Instr.{Instr}
use Rattle.stack_code.specs.declared.instr.Instr.TheVariants as i
use Rattle.stack_code.specs.declared.shape.CellKind.TheVariants as kind
use Rattle.stack_code.specs.declared.shape.Shape.{Shape}
use Rattle.stack_code.specs.declared.shape.Leads.{Leads}
use Rattle.stack_code.specs.declared.shape.Leads.TheVariants.{Stop, One}
use Rattle.stack_code.specs.Parts.{Parts}
use Rattle.stack_code.specs.Shapes.{effect, LeadsTo, can_return, pushed}
use Rattle.stack_code.specs.Valid.{Quiet, QuietWay, one, more}
use Rattle.ac_compile.proofs.StepAt.{IsStep}
use Rattle.ac_compile.proofs.Points.{IsEnd, IsStart}

-- ---- the end of a function

stops : (test : Bool) (leads : Leads) → (if test then Some Stop else None) ≡ Some leads → Stop ≡ leads
stops true leads e = cc
stops false leads e = cc

module _ (code : Parts) where
  abbrev Is : ℕ → Instr → Type 0
  Is at instr = slice_get code.instrs at ≡ Some instr

  found : (at : ℕ) (s : Shape) (instr given : Instr) (leads : Leads) → Is at instr → Is at given → effect code at given s ≡ Some leads → effect code at instr s ≡ Some leads
  found at s instr given leads e f g = let same : given ≡ instr = cc in ap (λ x. effect code at x s) (sym same) ∙ g

  -- nothing is behind a return
  no_return : (at to : ℕ) → Is at i.Ret → Quiet code at to → ⊥
  no_return at to e q =
      let f = q.goes.fits in
      let last = stops (can_return q.shape) f.leads (found at q.shape i.Ret f.instr f.leads e f.here f.finds) in
      subst (λ leads. LeadsTo leads to q.next) (sym last) q.goes.leads

  one_next : (at : ℕ) (s : Shape) (leads : Leads) → Some (One (at + 1) s) ≡ Some leads → (to : ℕ) (t : Shape) → LeadsTo leads to t → at + 1 ≡ to
  one_next at s leads e to t l = let same : One (at + 1) s ≡ leads = cc in let h = subst (λ x. LeadsTo x to t) (sym same) l in h.0

  -- the end of a function goes on to its return alone
  end_next : (at to : ℕ) → IsEnd code at → Quiet code at to → at + 1 ≡ to
  end_next at to e q =
      let f = q.goes.fits in
      one_next at (pushed kind.Int q.shape) f.leads (found at q.shape (i.Push (pos 0)) f.instr f.leads e.0 f.here f.finds) to q.next q.goes.leads

  -- ---- circles

  no_way : (at to : ℕ) → Is at i.Ret → QuietWay code at to → ⊥
  no_way _ _ r (one at to q) = no_return at to r q
  no_way _ _ r (more at next to q w) = no_return at next r q

  end_way : (at to : ℕ) → IsEnd code at → QuietWay code at to → at + 1 ≡ to
  end_way _ _ e (one at to q) = end_next at to e q
  end_way _ _ e (more at next to q w) = absurd (no_way next to (subst (λ n. Is n i.Ret) (end_next at next e q) e.1) w)

  -- what it begins with is no `Step`
  begins_quiet : (at to : ℕ) → QuietWay code at to → IsStep code at → ⊥
  begins_quiet _ _ (one at to q) = q.no_step
  begins_quiet _ _ (more at next to q w) = q.no_step

  module _ (ahead : (at to : ℕ) → Quiet code at to → (at < to) ⊎ IsStart code to) where
    -- an address that a circle passes is no start
    passed : (at to : ℕ) → QuietWay code at to → QuietWay code to to → IsStart code at → ⊥
    passed at to w c x = ⊎_elim (begins_quiet at to w) (λ e. no_way to to (subst (λ n. Is n i.Ret) (end_way at to e w) e.1) c) x

    all_forward : (at to : ℕ) → QuietWay code at to → QuietWay code to to → at < to
    all_forward _ _ (one at to q) c = ⊎_elim (λ lt. lt) (λ x. absurd (passed to to c c x)) (ahead at to q)
    all_forward _ _ (more at next to q w) c =
        let far = all_forward next to w c in
        ⊎_elim (λ lt. omega (arith, far, lt)) (λ x. absurd (passed next to w c x)) (ahead at next q)

    pub no_circle : (at : ℕ) → QuietWay code at at → ⊥
    no_circle at c = let lt = all_forward at at c c in omega (arith, lt)

-- The least mark of all entries tells whether the cut is closed, or where it is open.
use Rattle.std.proofs.Common.{◌≡◌, ℕ, zero, suc, ◌<◌, ◌≤◌, ◌-◌, List, length, refl, sym, subst, arith}
use Rattle.ac_causal.specs.Cuts.{IsCutAnswer}
use Rattle.ac_causal.specs.Run.{CausalRun}
use Rattle.ac_causal.specs.declared.cut.CutAnswer.TheVariants.{Closed, Open}
use Rattle.ac_causal.specs.inner.Opening.{IsLeastMark}
use Rattle.ac_causal.proofs.Cutting.{least_goes_on, is_closed, is_open}
use Rattle.ac_causal.proofs.causal.Causal.cut.Goals as goal

positive : (m : ℕ) → (m ≡ 0 → ⊥) → 0 < m
positive zero h = absurd (h refl)
positive (suc m) h = omega arith

pub loop-entry-preserved : goal.loop-entry-preserved
loop-entry-preserved c =
    least_goes_on c.self.inside.vectors.entries c.as_slice-counts.result.now c.loop-entry.entry c.loop-entry.least c.open_mark.result c.lesser-least.result
    c.lesser-least.ensures.first c.lesser-least.ensures.second c.lesser-least.ensures.both c.loop-entry.invariant c.open_mark.ensures

pub returns-then-least-eq0 : goal.returns-then-least-eq0
returns-then-least-eq0 c =
    let es = c.self.inside.vectors.entries in
    let all : length es ≤ c.loop-entry.entry = let n = c.len-entry-end.ensures in let end = c.loop-entry-test.false in omega (arith, n, end) in
    subst (λ (r : CausalRun). IsCutAnswer r.entries c.args.counts.now Closed) c.self.view_is
    (subst (λ (xs : List ℕ). IsCutAnswer es xs Closed) c.as_slice-counts.ensures
    (is_closed es c.as_slice-counts.result.now c.loop-entry.entry all
    (subst (λ m. IsLeastMark es c.as_slice-counts.result.now c.loop-entry.entry m) c.if-least-eq0.true c.loop-entry.invariant)))

pub returns-else-least-eq0 : goal.returns-else-least-eq0
returns-else-least-eq0 c =
    let es = c.self.inside.vectors.entries in
    let all : length es ≤ c.loop-entry.entry = let n = c.len-entry-end.ensures in let end = c.loop-entry-test.false in omega (arith, n, end) in
    subst (λ k. IsCutAnswer c.args.self.now.entries c.args.counts.now (Open k)) (sym c.from.ensures)
    (subst (λ (r : CausalRun). IsCutAnswer r.entries c.args.counts.now (Open (c.loop-entry.least - 1))) c.self.view_is
    (subst (λ (xs : List ℕ). IsCutAnswer es xs (Open (c.loop-entry.least - 1))) c.as_slice-counts.ensures
    (is_open es c.as_slice-counts.result.now c.loop-entry.entry c.loop-entry.least all (positive c.loop-entry.least c.if-least-eq0.false) c.loop-entry.invariant)))

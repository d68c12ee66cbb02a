-- Each core comes to its end under its entries of the cut.
use Rattle.std.proofs.Common.{◌≡◌, ◌+◌, ℕ, List, length, refl, sym, ap, subst, arith}
use Rattle.ac_base.specs.declared.ends.CoreEnd.{CoreEnd}
use Rattle.ac_causal.specs.inner.Standing.{AreRunsTo}
use Rattle.ac_causal.proofs.Stating.{none_yet, one_core_more}
use Rattle.ac_causal.proofs.states.states_of.Goals as goal

pub loop-core-init : goal.loop-core-init
loop-core-init c =
    let t = c.args.trace.now in
    subst (λ (ends : List CoreEnd). AreRunsTo c.args.code.now t.steps t.entries c.args.counts.now 0 ends) (sym c.new-ends.ensures)
    (none_yet c.args.code.now t.steps t.entries c.args.counts.now)

pub loop-core-preserved : goal.loop-core-preserved
loop-core-preserved c =
    let t = c.args.trace.now in
    let core = c.loop-core.core in
    subst (λ (ends : List CoreEnd). AreRunsTo c.args.code.now t.steps t.entries c.args.counts.now (core + 1) ends) (sym c.in_ok-push.ensures.ok)
    (one_core_more c.args.code.now t.steps t.entries c.args.counts.now core _ c.loop-core.ends c.in_ok-state_of.field-0 c.loop-core.invariant refl c.in_ok-state_of.ensures)

pub returns : goal.returns
returns c =
    let t = c.args.trace.now in
    let all : c.loop-core.core ≡ length c.args.code.now.entries = let known = ap (λ (es : List ℕ). length es) c.entries.ensures in omega (arith, known) in
    subst (λ (cores : ℕ). AreRunsTo c.args.code.now t.steps t.entries c.args.counts.now cores c.loop-core.ends) all c.loop-core.invariant

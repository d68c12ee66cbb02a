use Rattle.std.proofs.Common.{arith, ◌≡◌, ◌++◌, ◌≤◌, drop, length, map, ◌∙◌, subst, List}
use Rattle.interpreter_steps.specs.declared.pending.Context.{Context}
use Rattle.interpreter_steps.specs.inner.Pending.{context_of}
use Rattle.interpreter_steps.proofs.Copying.{copied}
use Rattle.interpreter_steps.proofs.pending.Around.copy.Goals as goal

pub returns : goal.returns
returns c =
    let new = c.loop-context.contexts.items in
    let n = c.loop-context.context-index in
    let le : length c.deref-context-items.result.now ≤ n = omega (arith, c.loop-context-test.false) in
    copied context_of new c.self.inside.contexts.items n (subst (λ (ys : List Context). length ys ≤ n) c.deref-context-items.ensures.value le)
    (subst (λ (ys : List Context). map context_of new ++ map context_of (drop n ys) ≡ map context_of ys) c.deref-context-items.ensures.value c.loop-context.invariant)
    ∙ c.self.view_is

use Rattle.std.proofs.Common.{arith, ◌≡◌, ◌++◌, ◌≤◌, drop, length, map, ◌∙◌, subst, List}
use Rattle.interpreter_steps.specs.declared.work.Work.{Work}
use Rattle.interpreter_steps.specs.Works.{work_of}
use Rattle.interpreter_steps.proofs.Copying.{copied}
use Rattle.interpreter_steps.proofs.work.Agenda.copy.Goals as goal

pub returns : goal.returns
returns c =
    let new = c.loop-work.items.items in
    let n = c.loop-work.work-index in
    let le : length c.deref-work-items.result.now ≤ n = omega (arith, c.loop-work-test.false) in
    copied work_of new c.self.inside.items.items n (subst (λ (ys : List Work). length ys ≤ n) c.deref-work-items.ensures.value le)
    (subst (λ (ys : List Work). map work_of new ++ map work_of (drop n ys) ≡ map work_of ys) c.deref-work-items.ensures.value c.loop-work.invariant)
    ∙ c.self.view_is

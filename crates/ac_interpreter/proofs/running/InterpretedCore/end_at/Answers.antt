use Rattle.std.proofs.Common.{refl, sym, ap, ◌∙◌}
use Rattle.ac_interpreter.specs.declared.cancelling.Fate.{Fate}
use Rattle.ac_interpreter.specs.inner.Cancels.{after_outcome}
use Rattle.ac_interpreter.specs.inner.Cores.{core_of}
use Rattle.ac_interpreter.specs.inner.Outcomes.{outcome_of}
use Rattle.interpreter_state.specs.State.{shared_of}
use Rattle.ac_interpreter.proofs.Trying.{never_there}
use Rattle.ac_interpreter.proofs.Turning.{on_ok}
use Rattle.ac_interpreter.proofs.running.InterpretedCore.end_at.Goals as goal

pub returns-in-NeverHappens-clause-state : goal.returns-in-NeverHappens-clause-state
returns-in-NeverHappens-clause-state c =
    let s = c.args.self.now in
    on_ok c.resume.result _ _ c.resume.ensures.state (λ e test o oldest. e
    ∙ never_there (core_of s) test c.args.place o c.remove-operation.result c.remove-operation.new.self.items _ c.item.result oldest c.remove-operation.ensures.value
    c.remove-operation.ensures.items refl
    c.item.ensures
    ∙ sym (ap (λ (f : Fate). after_outcome test o (core_of s) (shared_of s.held) (outcome_of f)) c.in-NeverHappens.is))

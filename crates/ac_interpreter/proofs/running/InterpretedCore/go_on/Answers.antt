use Rattle.std.proofs.Common.{sym, ap, ◌∙◌, subst}
use Rattle.interpreter_state.specs.State.{held_of}
use Rattle.interpreter_steps.specs.Nexts.{next_with}
use Rattle.ac_interpreter.specs.inner.Cores.{core_of}
use Rattle.ac_interpreter.specs.inner.Under.{move_under, IsMoved}
use Rattle.interpreter_steps.specs.declared.statements.Next.{Next}
use Rattle.ac_interpreter.proofs.Growing.{Moved}
use Rattle.ac_interpreter.proofs.Turning.{is_plain, cancels_here, plain_here, if_ok}
use Rattle.ac_interpreter.proofs.running.InterpretedCore.go_on.Goals as goal

pub apply-requires-clause-plain : goal.apply-requires-clause-plain
apply-requires-clause-plain c =
    let h = held_of c.next_step.new.held in
    let ws = c.next_step.new.work in
    is_plain c.in_ok-next.next c.in_default.not-Cancels (λ stays. c.requires.meaning (sym c.in_ok-next.ensures ∙ ap (λ (x : Next). next_with x h ws) stays))

pub returns-in-Cancels-clause-state : goal.returns-in-Cancels-clause-state
returns-in-Cancels-clause-state c =
    let s = c.args.self.now in
    let todo = c.args.todo.now in
    let h = held_of c.next_step.new.held in
    let ws = c.next_step.new.work in
    if_ok c.call_off.result _ _ c.call_off.ensures.state (λ now moved past.
    subst (λ (m : Moved). IsMoved now past todo m c.call_off.new.self)
    (sym (cancels_here s.program.now s.bound past todo (core_of s) c.args.item c.requires.item c.in_ok-next.next h ws c.in_ok-next.ensures c.in-Cancels.block c.in-Cancels.is)) (moved past))

pub returns-in_ok-apply-in_default-clause-state : goal.returns-in_ok-apply-in_default-clause-state
returns-in_ok-apply-in_default-clause-state c = λ past.
    let s = c.args.self.now in
    let todo = c.args.todo.now in
    let h = held_of c.next_step.new.held in
    let ws = c.next_step.new.work in
    let plain = is_plain c.in_ok-next.next c.in_default.not-Cancels (λ stays. c.requires.meaning (sym c.in_ok-next.ensures ∙ ap (λ (x : Next). next_with x h ws) stays)) in
    plain_here s.program.now s.bound past todo (core_of s) c.args.item c.requires.item c.in_ok-next.next h ws c.in_ok-next.ensures plain
    ∙ ap (move_under past todo) (sym c.in_ok-apply-in_default.ensures.state)

use Rattle.std.proofs.Common.{◌≡◌, [], ◌∷◌, ◌++◌, drop, sym, ap, ◌∙◌, eq-eqb, arith}
use Rattle.cancel_scope.specs.declared.operation.Operation.{Operation}
use Rattle.core_state.specs.Moves.{On}
use Rattle.core_state.specs.Cancelling.{outcome}
use Rattle.ac_semantics.specs.Threads.{CoreState}
use Rattle.ac_interpreter.specs.inner.Cores.{core_of}
use Rattle.ac_interpreter.specs.inner.Outcomes.{outcome_of}
use Rattle.ac_interpreter.specs.inner.Under.{core_under}
use Rattle.interpreter_state.proofs.Finding.{the_same}
use Rattle.ac_interpreter.proofs.Trying.{undecided, comes_out}
use Rattle.ac_interpreter.proofs.running.InterpretedCore.decide.Goals as goal

pub returns-in_ok-end_at-in-Some-outcome-clause-state : goal.returns-in_ok-end_at-in-Some-outcome-clause-state
returns-in_ok-end_at-in-Some-outcome-clause-state c = λ past test o oldest.
    let s = c.args.self.now in
    let todo = c.args.todo.now in
    let e = c.in-Some.entry.now in
    let es = drop 1 todo in
    let here = the_same s.held.operations.items test c.args.place o c.index.result.now oldest c.index.ensures in
    let now : e.turn ≡ s.held.turn = omega arith in
    record {
      entry = e;
      others = es;
      front = c.in-Some.ensures;
      on = comes_out test o c.args.number (core_of s) past todo e es c.in-Some.ensures (outcome_of c.in-Some-outcome.fate) (eq-eqb _ _ now)
          (ap (λ (x : Operation). outcome x.link c.args.number e.event) (sym here) ∙ ap (λ link. outcome link c.args.number e.event) (sym c.link-link.ensures) ∙ c.in-Some-outcome.ensures)
          ∙ ap (λ (x : CoreState). On (core_under (past ++ e ∷ []) es x)) (sym (c.in_ok-end_at-in-Some-outcome.ensures.state test o oldest));
      ended = c.end_at.ensures.ended ∙ c.requires.running;
    }

pub returns-in-None-clause-state : goal.returns-in-None-clause-state
returns-in-None-clause-state c = λ past test o oldest.
    let s = c.args.self.now in
    let todo = c.args.todo.now in
    let e = c.in-Some.entry.now in
    let here = the_same s.held.operations.items test c.args.place o c.index.result.now oldest c.index.ensures in
    let now : e.turn ≡ s.held.turn = omega arith in
    undecided test o c.args.number (core_of s) past todo e (drop 1 todo) c.in-Some.ensures (eq-eqb _ _ now)
    (ap (λ (x : Operation). outcome x.link c.args.number e.event) (sym here) ∙ ap (λ link. outcome link c.args.number e.event) (sym c.link-link.ensures) ∙ c.in-None.ensures)

use Rattle.std.proofs.Common.{[], ◌∷◌, ◌++◌, drop, sym, ap, ◌∙◌}
use Rattle.core_state.specs.Moves.{On}
use Rattle.ac_semantics.specs.Threads.{CoreState}
use Rattle.ac_interpreter.specs.inner.Cores.{core_of}
use Rattle.ac_interpreter.specs.inner.Under.{core_under, move_under}
use Rattle.ac_interpreter.proofs.Journals.{none_comes, comes_now, does_not_fit}
use Rattle.ac_interpreter.proofs.Turning.{if_true, if_false}
use Rattle.ac_interpreter.proofs.running.InterpretedCore.rest.Goals as goal

pub returns-in_ok-dispatch-in-None-clause-state : goal.returns-in_ok-dispatch-in-None-clause-state
returns-in_ok-dispatch-in-None-clause-state c =
    none_comes (core_of c.args.self.now) c.args.past.now c.args.todo.now c.in-None.ensures ∙ ap (move_under c.args.past.now c.args.todo.now) (sym c.in_ok-dispatch-in-None.ensures.state)

pub returns-then-branch-clause-state : goal.returns-then-branch-clause-state
returns-then-branch-clause-state c =
    let fits = if_true _ _ c.in_ok-arrive-in-Some.field-0 c.if-branch.true c.in_ok-arrive-in-Some.ensures.fits in
    let past = c.args.past.now in
    let e = c.in-Some.entry.now in
    let es = drop 1 c.args.todo.now in
    record {
      entry = e;
      others = es;
      front = c.in-Some.ensures.0;
      on = comes_now (core_of c.args.self.now) past c.args.todo.now e es c.in-Some.ensures.0 fits.0 c.in-Some.ensures.1 fits.1
          ∙ ap (λ (s : CoreState). On (core_under (past ++ e ∷ []) es s)) (sym fits.2);
      ended = c.arrive.ensures.ended ∙ c.requires.running;
    }

pub returns-else-branch-clause-state : goal.returns-else-branch-clause-state
returns-else-branch-clause-state c =
    let unfit = if_false _ _ c.in_ok-arrive-in-Some.field-0 c.if-branch.false c.in_ok-arrive-in-Some.ensures.fits in
    does_not_fit (core_of c.args.self.now) c.args.past.now c.args.todo.now c.in-Some.entry.now (drop 1 c.args.todo.now) c.in-Some.ensures.0 c.in-Some.ensures.1 unfit

use Rattle.std.proofs.Common.{◌≡◌, List, true, false, refl, sym, ap, ◌∙◌, subst}
use Rattle.std.specs.Prelude.{Option, Some, None, find, position}
use Rattle.cancel_scope.specs.Outstanding.{has_begun}
use Rattle.interpreter_state.proofs.Finding.{none_found, found_at}
use Rattle.ac_interpreter.proofs.Searching.{is_not_begun}
use Rattle.core_state.specs.Moves.{On}
use Rattle.core_state.specs.Cancelling.{is_to_try}
use Rattle.ac_semantics.specs.Threads.{CoreState, is_inside}
use Rattle.ac_semantics.specs.Work as w
use Rattle.ac_interpreter.specs.declared.running.CoreStop.{CoreStop}
use Rattle.ac_interpreter.specs.inner.Cores.{core_of, end_or}
use Rattle.ac_interpreter.specs.inner.Under.{core_under, move_under, IsMoved}
use Rattle.ac_interpreter.proofs.Growing.{Moved}
use Rattle.ac_interpreter.proofs.Trying.{none_to_try, never_happens, is_decided}
use Rattle.ac_interpreter.proofs.Turning.{if_ok}
use Rattle.ac_interpreter.proofs.running.InterpretedCore.try_oldest.Goals as goal

pub returns-in-None-clause-state : goal.returns-in-None-clause-state
returns-in-None-clause-state c = λ past.
    let s = c.args.self.now in
    let todo = c.args.todo.now in
    let test = is_to_try (is_inside s.threads c.args.block) in
    let os = s.held.operations.items in
    let there : c.in_ok-oldest_to_try.field-0 ≡ position test os = c.in_ok-oldest_to_try.ensures in
    let none : None ≡ position test os = sym c.in-None.is ∙ there in
    none_to_try past todo c.args.block (core_of s) (none_found test os os none refl)
    ∙ ap (λ (ws : List w.Work). On (core_under past todo (record (core_of s) { work = ws }))) (sym c.drop_first.ensures)
    ∙ sym (ap (λ (o : Option CoreStop). move_under past todo (end_or (record (core_of s) { work = c.drop_first.new.self }) o)) c.requires.running)

pub returns-in_ok-end_at-in-Waiting-clause-state : goal.returns-in_ok-end_at-in-Waiting-clause-state
returns-in_ok-end_at-in-Waiting-clause-state c = λ past.
    let s = c.args.self.now in
    let todo = c.args.todo.now in
    let test = is_to_try (is_inside s.threads c.args.block) in
    let os = s.held.operations.items in
    let o = c.index.result.now in
    let there : c.in_ok-oldest_to_try.field-0 ≡ position test os = c.in_ok-oldest_to_try.ensures in
    let at : Some c.in-Some.place ≡ position test os = sym c.in-Some.is ∙ there in
    let first : find test os ≡ Some o = found_at test os os c.in-Some.place o at refl c.index.ensures in
    never_happens past todo c.args.block (core_of s) o first (sym c.in-Waiting.ensures)
    ∙ ap (λ (x : CoreState). On (core_under past todo x)) (sym (c.in_ok-end_at-in-Waiting.ensures.state test o (sym at, first)))
    ∙ sym (ap (λ (x : Option CoreStop). move_under past todo (end_or (core_of c.end_at.new.self) x)) (c.end_at.ensures.ended ∙ c.requires.running))

pub returns-in-Offered-clause-state : goal.returns-in-Offered-clause-state
returns-in-Offered-clause-state c =
    let s = c.args.self.now in
    let todo = c.args.todo.now in
    let test = is_to_try (is_inside s.threads c.args.block) in
    let os = s.held.operations.items in
    let o = c.index.result.now in
    let there : c.in_ok-oldest_to_try.field-0 ≡ position test os = c.in_ok-oldest_to_try.ensures in
    let at : Some c.in-Some.place ≡ position test os = sym c.in-Some.is ∙ there in
    let first : find test os ≡ Some o = found_at test os os c.in-Some.place o at refl c.index.ensures in
    if_ok c.decide.result _ _ c.decide.ensures.state (λ now moved past.
    subst (λ (m : Moved). IsMoved now past todo m c.decide.new.self) (sym (is_decided past todo c.args.block (core_of s) o first c.in-Offered.number (sym c.in-Offered.ensures))) (moved past test o
    (sym at, first)))

pub unreachable-requires : goal.unreachable-requires
unreachable-requires c =
    let s = c.args.self.now in
    let inside = is_inside s.threads c.args.block in
    let test = is_to_try inside in
    let os = s.held.operations.items in
    let o = c.index.result.now in
    let there : c.in_ok-oldest_to_try.field-0 ≡ position test os = c.in_ok-oldest_to_try.ensures in
    let at : Some c.in-Some.place ≡ position test os = sym c.in-Some.is ∙ there in
    let first : find test os ≡ Some o = found_at test os os c.in-Some.place o at refl c.index.ensures in
    let no : true ≡ false = ap has_begun (sym c.in-Started.is ∙ c.progress.ensures) ∙ is_not_begun inside os o first in
    cc

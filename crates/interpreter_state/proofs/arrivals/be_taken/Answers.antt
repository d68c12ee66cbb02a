use Rattle.std.proofs.Common.{List, set, sym, ap, ◌∙◌}
use Rattle.std.specs.Prelude.{Some, None}
use Rattle.work_item.specs.declared.ids.Item.{Item}
use Rattle.cancel_scope.specs.declared.operation.Operation.{Operation}
use Rattle.cancel_scope.specs.Outstanding.{is_request}
use Rattle.core_state.specs.Arrivals.{ok}
use Rattle.interpreter_state.specs.declared.arrivals.Woken.{Woken}
use Rattle.interpreter_state.specs.Arrivals.{left_after}
use Rattle.interpreter_state.proofs.Finding.{the_same}
use Rattle.interpreter_state.proofs.Taken.{begins, ends}
use Rattle.interpreter_state.proofs.arrivals.be_taken.Goals as goal

pub returns-then-is_request : goal.returns-then-is_request
returns-then-is_request c = λ store test o oldest.
    let os = c.args.operations.now.items in
    let place = c.args.place in
    let seen = c.index.result.now in
    let there = c.index_mut-operation.result.now in
    let same = the_same os test place o there oldest c.index_mut-operation.ensures.value ∙ sym (the_same os test place o seen oldest c.index.ensures) in
    begins os place there c.index_mut-operation.ensures.value store test o oldest (ap (λ (x : Operation). is_request x.asked) same ∙ sym c.is_request.ensures ∙ c.if-is_request.true)
    ∙ ap (λ (x : Operation). left_after store (set os place x) None) (sym c.begin.ensures)

pub returns : goal.returns
returns c = λ store test o oldest.
    let os = c.args.operations.now.items in
    let place = c.args.place in
    let seen = c.index.result.now in
    let there = c.remove-operation.result in
    let same = the_same os test place o there oldest c.remove-operation.ensures.value ∙ sym (the_same os test place o seen oldest c.index.ensures) in
    let woken : Woken = record { item = there.item; value = ok } in
    ends os place there c.remove-operation.ensures.value store test o oldest (ap (λ (x : Operation). is_request x.asked) same ∙ sym c.is_request.ensures ∙ c.if-is_request.false)
    ∙ ap (λ (xs : List Operation). left_after store xs (Some woken)) (sym c.remove-operation.ensures.items)
    ∙ ap (λ (w : Woken). left_after store c.remove-operation.new.self.items (Some w)) (ap (λ (i : Item). record { item = i; value = ok }) (sym c.item.ensures) ∙ sym c.done.ensures)

-- An operation whose peer has taken it: a request has begun, and anything else has ended.
-- For `be_taken`, by that case: the operation at the place that was found is the oldest (Finding), so it is the one of which the meaning
-- speaks.
use Rattle.std.proofs.Common.{◌≡◌, ℕ, List, get_or, set, Bool, true, false, refl, sym, ap, ◌∙◌}
use Rattle.std.specs.Prelude.{Some, None, if◌then◌else◌}
use Rattle.std.specs.List.{remove}
use Rattle.work_item.specs.Store.{Store}
use Rattle.cancel_scope.specs.declared.operation.Operation.{Operation}
use Rattle.cancel_scope.specs.Outstanding.{is_request, as_begun, change_first, without_first}
use Rattle.core_state.specs.Arrivals.{Arrival, ok, goes_on_waiting, has_ended, is_taken}
use Rattle.interpreter_state.specs.Operations.{IsOldest}
use Rattle.interpreter_state.specs.Arrivals.{left_after}
use Rattle.interpreter_state.proofs.Finding.{the_same, changed_at, without_at}

module _ (os : List Operation) (place : ℕ) (there : Operation) (is : there ≡ get_or os place there) (store : Store) (test : Operation → Bool) (o : Operation) (oldest : IsOldest test os place o) where
  abbrev by_test : Operation → Bool → Arrival
  by_test x b = if b then goes_on_waiting store (change_first test as_begun os) else has_ended store (without_first test os) x

  taken : (b : Bool) → is_request there.asked ≡ b → is_taken store test os o ≡ by_test there b
  taken b request = ap (λ (x : Operation). by_test x (is_request x.asked)) (sym (the_same os test place o there oldest is)) ∙ ap (by_test there) request

  pub begins : is_request there.asked ≡ true → is_taken store test os o ≡ left_after store (set os place (as_begun there)) None
  begins request = taken true request ∙ ap (goes_on_waiting store) (changed_at test os os place there (sym oldest.0) refl as_begun is)

  pub ends : is_request there.asked ≡ false → is_taken store test os o ≡ left_after store (remove os place) (Some (record { item = there.item; value = ok }))
  ends request = taken false request ∙ ap (λ xs. has_ended store xs there) (without_at test os os place there (sym oldest.0) refl)

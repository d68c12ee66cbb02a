-- An entry that comes in leaves no more to do.
-- By the cases of `Comes`: an operation that is offered or has begun has one entry less before it, and one that has ended makes way for its
-- thread, which weighs the same.
use Rattle.std.proofs.Common.{◌≡◌, ℕ, ◌+◌, ◌-◌, ◌*◌, ◌<◌, ◌≤◌, List, [], ◌∷◌, ◌++◌, true, refl, sym, ap, ◌∙◌, subst, inl, inr, arith}
use Rattle.std.specs.Prelude.{ℤ, sum, slice_set, ◌&&◌}
use Rattle.std.proofs.lemmas.Bool.{cases_eq}
use Rattle.std.proofs.lemmas.List.{get_or-set_same, get_or-set_other}
use Rattle.work_item.specs.declared.ids.Item.{Item}
use Rattle.work_item.specs.declared.cell.Cell.TheVariants as cell
use Rattle.work_item.specs.Store.{Store}
use Rattle.core_state.specs.Messages.{with_ints_at}
use Rattle.cancel_scope.specs.declared.operation.Operation.{Operation}
use Rattle.cancel_scope.specs.declared.operation.Progress.TheVariants.{Offered}
use Rattle.cancel_scope.specs.Outstanding.{is_outgoing, is_request, is_waiting, offered_as, as_begun}
use Rattle.core_state.specs.Arrivals.{Arrival, goes_on_waiting, has_ended_as, ok}
use Rattle.core_state.specs.Requests.{value_of, with_answer}
use Rattle.core_state.specs.Shared.{Shared}
use Rattle.stack_code.specs.Parts.{Parts}
use Rattle.code_meaning.specs.Machine.{Flat, arrived, given, nobody, thread_at}
use Rattle.code_safety.specs.Fit.{IsFit}
use Rattle.code_safety.specs.Left.{entries_left, grown, left, operation_weight, operations_weight, parked_weight, thread_weight}
use Rattle.code_safety.proofs.Arriving.{Comes, offered, known, begun, answered, received, passed, within_threads}
use Rattle.code_safety.proofs.Lives.{same_item}
use Rattle.code_safety.proofs.Waiting.{total_between}
use Rattle.code_safety.proofs.Weights.{one_to_three, one_less_offered, one_less_begun, operations_same, ready_append, ready_same, waiting_same}

module _ (code : Parts) (bound : ℕ) (m : Flat) (fit : IsFit code m) (ranks : List ℕ) (shared : Shared) (steps : shared.steps ≡ m.shared.steps) where
  abbrev Less : Flat → Type 0
  Less n = left ranks bound n < left ranks bound m

  steps_left : (bound - shared.steps) * grown (sum ranks) ≡ (bound - m.shared.steps) * grown (sum ranks)
  steps_left = ap (λ k. (bound - k) * grown (sum ranks)) steps

  module _ (front back : List Operation) (o : Operation) (is : m.operations ≡ front ++ o ∷ back) where
    abbrev weight : Operation → ℕ
    weight p = operation_weight ranks m.threads p

    was : operations_weight ranks m.threads m.operations ≡ weight o + operations_weight ranks m.threads (front ++ back)
    was = ap (operations_weight ranks m.threads) is ∙ total_between weight front back o

    -- one entry less is to come of it, and its thread waits on
    changed_falls : (p : Operation) → p.item ≡ o.item → entries_left o ≡ 1 + entries_left p → Less (arrived m shared (goes_on_waiting m.store (front ++ p ∷ back)))
    changed_falls p same fewer =
        let w = was in
        let now : operations_weight ranks m.threads (front ++ p ∷ back) ≡ weight p + operations_weight ranks m.threads (front ++ back) = total_between weight front back p in
        let thread : parked_weight ranks m.threads p.item ≡ parked_weight ranks m.threads o.item = ap (parked_weight ranks m.threads) same in
        let s = steps_left in
        omega (arith, fewer, w, now, thread, s)

    -- its offer was still to come
    offered_falls : (number : ℕ) → (is_outgoing o.asked && is_waiting o.progress) ≡ true → Less (arrived m shared (goes_on_waiting m.store (front ++ offered_as number o ∷ back)))
    offered_falls number waits = changed_falls (offered_as number o) refl (one_less_offered o number waits)

    -- its beginning was still to come
    pub begun_falls : (number : ℕ) → is_request o.asked ≡ true → o.progress ≡ Offered number → Less (arrived m shared (goes_on_waiting m.store (front ++ as_begun o ∷ back)))
    begun_falls number request offer = changed_falls (as_begun o) refl (one_less_begun o number request offer)

    -- its end was still to come, and an operand more weighs nothing
    pub ended_falls : (value : ℤ) (store : Store) → Less (arrived m shared (has_ended_as value store (front ++ back) o))
    ended_falls value store =
        let threads = slice_set m.threads o.item.number (given (cell.Int value) (thread_at m.threads o.item)) in
        let a = ready_append ranks threads m.ready (o.item ∷ []) in
        let r = ready_same ranks m.threads threads m.ready (λ u some. same u) in
        let own : parked_weight ranks threads o.item ≡ parked_weight ranks m.threads o.item = ap (λ w. 1 + w) (same o.item) in
        let q = operations_same ranks m.threads threads (front ++ back) (λ u some. same u) in
        let w = waiting_same ranks m.threads threads m.blocks (λ n x e k. same x.owner) in
        let some = (one_to_three o).0 in
        let before = was in
        let s = steps_left in
        omega (arith, a, r, own, q, w, some, before, s)
      where
        same : (u : Item) → thread_weight ranks (thread_at (slice_set m.threads o.item.number (given (cell.Int value) (thread_at m.threads o.item))) u) ≡ thread_weight ranks (thread_at m.threads u)
        same u = elim (cases_eq o.item.number u.number) as
            (λ _. thread_weight ranks (thread_at (slice_set m.threads o.item.number (given (cell.Int value) (thread_at m.threads o.item))) u) ≡ thread_weight ranks (thread_at m.threads u)) [
              | inl e ↦
                  let there = within_threads code m fit shared front back o is in
                  subst (λ (z : Item). thread_weight ranks (thread_at (slice_set m.threads o.item.number (given (cell.Int value) (thread_at m.threads o.item))) z) ≡ thread_weight ranks
                  (thread_at m.threads z))
                  (same_item o.item u e) (ap (thread_weight ranks) (get_or-set_same m.threads o.item.number (given (cell.Int value) (thread_at m.threads o.item)) nobody there))
              | inr ne ↦ ap (thread_weight ranks) (get_or-set_other m.threads o.item.number u.number (given (cell.Int value) (thread_at m.threads o.item)) nobody (λ e. ne (sym e)))
            ]

  pub arrived_falls : (x : Arrival) → Comes m.store m.operations x → left ranks bound (arrived m shared x) ≤ left ranks bound m
  arrived_falls _ (offered front back o number is waits) = let f = offered_falls front back o is number waits in omega (arith, f)
  arrived_falls _ (known front back o is other) = let f = ended_falls front back o is ok m.store in omega (arith, f)
  arrived_falls _ (received front back o place message is asks) = let f = ended_falls front back o is ok (with_ints_at m.store place message) in omega (arith, f)
  arrived_falls _ (begun front back o number is request offer) = let f = begun_falls front back o is number request offer in omega (arith, f)
  arrived_falls _ (answered front back o answer is) =
      let f = ended_falls front back o is (value_of o.asked answer) (with_answer m.store o.asked answer) in
      omega (arith, f)
  arrived_falls _ passed = let s = steps_left in omega (arith, s)

-- What a cancel comes to in a core whose running thread stands at it.
use Rattle.std.specs.Prelude.{ℕ, List, Bool, Option}
use Rattle.ac_base.specs.declared.ends.CoreEnd.{CoreEnd}
use Rattle.ac_base.specs.declared.entry.Entry.{Entry}
use Rattle.work_item.specs.declared.ids.BlockId.{BlockId}
use Rattle.cancel_scope.specs.declared.operation.Operation.{Operation}
use Rattle.core_state.specs.Moves.{Move, On}
use Rattle.core_state.specs.Shared.{Shared}
use Rattle.core_state.specs.Cancelling.{Fate, by_outcome, decided, cancels}
use Rattle.ac_semantics.specs.Threads.{CoreState, is_inside, arrived}
use Rattle.interpreter_steps.specs.Works.{past_first}
use Rattle.ac_interpreter.specs.inner.Under.{held_under, core_under}

-- this has become of the first operation for which the test holds
abbrev pub after_outcome : (Operation → Bool) → Operation → CoreState → Shared → Fate → CoreState
after_outcome test o c shared it = arrived c shared (by_outcome it c.held.store test c.held.operations o)

-- the first of these entries decides what becomes of its offer
abbrev pub deciding : (Operation → Bool) → Operation → ℕ → CoreState → List Entry → Move CoreState (Option CoreEnd)
deciding test o number c todo =
    decided (λ (end : Option CoreEnd). end) c.held.shared c.held.store.globals c.held.operations o.link number
    (λ shared it. On (after_outcome test o c shared it)) todo

-- the block is marked; the oldest operation within it that is to be tried is, and where none is left the thread goes on
abbrev pub trying : List Entry → List Entry → BlockId → CoreState → Move CoreState (Option CoreEnd)
trying past todo block c =
    cancels (λ (end : Option CoreEnd). end) (held_under past todo c.held).shared c.held.store c.held.operations (is_inside c.threads block)
    (λ shared x. On (arrived (core_under past todo c) shared x)) (On (core_under past todo (record c { work = past_first c.work })))

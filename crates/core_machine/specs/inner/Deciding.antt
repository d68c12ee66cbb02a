-- What the outcome of an offer changes of a running core.
use Rattle.std.specs.Prelude.{◌≡◌, ℕ, [], Some, find}
use Rattle.ac_base.specs.declared.entry.Event.{Event}
use Rattle.work_item.specs.declared.ids.BlockId.{BlockId}
use Rattle.cancel_scope.specs.declared.operation.Operation.{Operation}
use Rattle.core_state.specs.Arrivals.{Arrival}
use Rattle.core_state.specs.Cancelling.{Fate, by_outcome, is_to_try}
use Rattle.core_state.specs.Shared.{with_entry}
use Rattle.code_meaning.specs.Machine.{Flat, arrived, is_inside, marked}
use Rattle.core_machine.specs.declared.running.Running.{Running}
use Rattle.core_machine.specs.State.{shared_of, flat_of}
use Rattle.core_machine.specs.Tried.{cancelled_in}
use Rattle.core_machine.specs.inner.Changes.{IsSameCode, entry_now}

-- at the cancel of a block this was made of the operations, by an entry of this stamp
pub record Makes (before : Running) (block : BlockId) (event : Event) (stamp : ℕ) (arrival : Arrival) (after : Running) : Type 0 where
  pub flat : flat_of after ≡
      arrived (marked (flat_of before) block) (with_entry (shared_of before) (entry_now before event stamp) []) arrival
  pub ended : after.ended ≡ before.ended
  pub lives : after.threads.lives ≡ before.threads.lives
  pub same : IsSameCode before after

-- what the outcome makes of the oldest operation within a block that its peer has not begun
abbrev pub decided_within : Flat → BlockId → Fate → Operation → Arrival
decided_within m block it o = by_outcome it m.store (is_to_try (is_inside m block)) m.operations o

-- at the cancel of a block the outcome has been made of the oldest operation within it that its peer has not begun, by an entry of this
-- stamp
pub record Decides (before : Running) (it : Fate) (event : Event) (stamp : ℕ) (after : Running) : Type 0 where
  pub block : BlockId
  pub cancels : cancelled_in before.code.now (flat_of before) ≡ Some block
  pub operation : Operation
  pub found : find (is_to_try (is_inside (flat_of before) block)) before.outstanding.operations ≡ Some operation
  pub makes : Makes before block event stamp (decided_within (flat_of before) block it operation) after

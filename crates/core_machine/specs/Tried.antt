-- For which offer a core asks for an outcome, and what comes of it.
use Rattle.std.specs.Prelude.{◌≡◌, ℕ, [], ◌∷◌, ◌++◌, Option, Some, None, find, slice_get}
use Rattle.ac_base.specs.declared.entry.Event.{Event}
use Rattle.work_item.specs.declared.ids.Item.{Item}
use Rattle.work_item.specs.declared.ids.BlockId.{BlockId}
use Rattle.work_item.specs.Store.{cell_at}
use Rattle.cancel_scope.specs.declared.operation.Progress.{Progress}
use Rattle.cancel_scope.specs.declared.operation.Progress.TheVariants as progress
use Rattle.cancel_scope.specs.declared.operation.Operation.{Operation}
use Rattle.core_state.specs.Moves.{Move, On, Over}
use Rattle.core_state.specs.Cancelling.{Fate, by_outcome, is_to_try}
use Rattle.core_state.specs.Frames.{block_in}
use Rattle.core_state.specs.Shared.{with_entry}
use Rattle.stack_code.specs.declared.instr.Instr.{Instr}
use Rattle.stack_code.specs.declared.instr.Instr.TheVariants as i
use Rattle.stack_code.specs.Parts.{Parts}
use Rattle.code_meaning.specs.Machine.{Flat, FlatEnd, arrived, is_inside, marked}
use Rattle.core_machine.specs.declared.tried.Tried.{Tried}
use Rattle.core_machine.specs.Machine.{Machine}
use Rattle.core_machine.specs.Points.{entry_of}

-- ---- which offer

-- the block that an instruction cancels
abbrev pub cancelled_by : Flat → Option Instr → Option BlockId
cancelled_by m (Some (i.Cancel level slot)) = Some (block_in (cell_at m.store m.current.frame level slot))
cancelled_by m _ = None

-- the block at whose cancel the running thread stands
abbrev pub cancelled_at : Parts → Flat → Option Item → Option BlockId
cancelled_at code m None = None
cancelled_at code m (Some t) = cancelled_by m (slice_get code.instrs m.current.place)

abbrev pub cancelled_in : Parts → Flat → Option BlockId
cancelled_in code m = cancelled_at code m m.running

abbrev pub tried_as : ℕ → Progress → Option Tried
tried_as link progress.Waiting = None
tried_as link (progress.Offered number) = Some (record { link = link; number = number })
tried_as link (progress.Started number) = None

-- an operation that is tried, and was offered
abbrev pub tried_in : Option Operation → Option Tried
tried_in None = None
tried_in (Some o) = tried_as o.link o.progress

-- the oldest operation within a block that its peer has not begun
abbrev pub tried_within : Flat → Option BlockId → Option Tried
tried_within m None = None
tried_within m (Some block) = tried_in (find (is_to_try (is_inside m block)) m.operations)

-- the running thread stands at a cancel, and the oldest operation within its block that its peer has not begun was offered: what comes of
-- the offer is not the core's to decide
abbrev pub tried_of : Parts → Move Flat FlatEnd → Option Tried
tried_of code (Over x) = None
tried_of code (On m) = tried_within m (cancelled_in code m)

-- ---- its outcome

-- the running thread stands at a cancel of a block, and of the oldest operation within it that its peer has not begun this has become, by
-- an entry of this stamp
pub record HasDecided (before : Machine) (tried : Tried) (it : Fate) (event : Event) (stamp : ℕ) (after : Machine) : Type 0 where
  pub flat : Flat
  pub stood : before.state ≡ On flat
  pub block : BlockId
  pub cancels : cancelled_in before.code flat ≡ Some block
  pub operation : Operation
  pub found : find (is_to_try (is_inside flat block)) flat.operations ≡ Some operation
  pub offered : tried_in (Some operation) ≡ Some tried
  pub state :
      after.state
      ≡ On
      (arrived (marked flat block) (with_entry flat.shared (entry_of flat event stamp) [])
      (by_outcome it flat.store (is_to_try (is_inside flat block)) flat.operations operation))
  pub journal : after.journal ≡ before.journal ++ entry_of flat event stamp ∷ []
  pub code : after.code ≡ before.code
  pub core : after.core ≡ before.core
  pub bound : after.bound ≡ before.bound

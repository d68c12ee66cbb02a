-- What contracts see of a core that runs code.
use Rattle.std.specs.Prelude.{◌≡◌, ℕ, true, false, Bool, List, [], ◌∷◌, Option, Some, None, IfSome, is_none, ◌&&◌, map}
use Rattle.std.specs.List.{list_any}
use Rattle.ac_base.specs.declared.ends.EndWord.TheVariants.{Stalled}
use Rattle.ac_base.specs.declared.ends.CoreEnd.{CoreEnd}
use Rattle.ac_base.specs.declared.ends.MachineEnd.{MachineEnd}
use Rattle.ac_base.specs.declared.ends.Waiting.{Waiting}
use Rattle.ac_base.specs.declared.entry.Entry.{Entry}
use Rattle.work_item.specs.declared.ids.Item.{Item}
use Rattle.cancel_scope.specs.Outstanding.{waiting_as, waits_on}
use Rattle.core_state.specs.Moves.{Move, On, Over, GoesOn}
use Rattle.core_state.specs.Shared.{core_end}
use Rattle.core_machine.specs.declared.ending.Ending.{Ending}
use Rattle.core_machine.specs.Words.{word_of}
use Rattle.stack_code.specs.declared.parts.Entered.{Entered}
use Rattle.stack_code.specs.Parts.{Parts, Begins}
use Rattle.code_meaning.specs.Machine.{Flat, FlatEnd, exec, first_flat, Runs}

pub record Machine : Type 0 where
  pub code : Parts
  pub core : ℕ
  pub bound : ℕ
  pub journal : List Entry
  pub state : Move Flat FlatEnd
  -- there is room for an entry, and for the thread that it may wake
  pub room : Bool

-- the core's thread is ready to enter its function; or there was no room for its frame
pub record IsFirst (m : Machine) : Type 0 where
  pub function : Entered
  pub begins : Begins m.code m.core function
  pub state : m.state ≡ first_flat m.code m.core function m.journal

-- the machine has come to its state from the core's beginning, by moves of the code under its journal
pub record IsOnItsWay (m : Machine) : Type 0 where
  pub function : Entered
  pub begins : Begins m.code m.core function
  pub goes : GoesOn (exec m.code m.bound) (first_flat m.code m.core function m.journal) m.state

-- all but the state stays
pub record IsSameCore (before after : Machine) : Type 0 where
  pub code : after.code ≡ before.code
  pub core : after.core ≡ before.core
  pub bound : after.bound ≡ before.bound
  pub journal : after.journal ≡ before.journal

-- ---- what is seen

abbrev pub none_ready : List Item → Bool
none_ready [] = true
none_ready (t ∷ ready) = false

-- no thread runs, and none is ready
abbrev pub is_resting : Flat → Bool
is_resting m = is_none m.running && none_ready m.ready

-- it has not ended, and is idle
abbrev pub is_idle : Move Flat FlatEnd → Bool
is_idle (On m) = is_resting m
is_idle (Over x) = false

abbrev pub has_ended : Move Flat FlatEnd → Bool
has_ended (On m) = false
has_ended (Over x) = true

-- it has ended, or is idle
abbrev pub has_stopped : Move Flat FlatEnd → Bool
has_stopped (On m) = is_resting m
has_stopped (Over x) = true

-- what is seen of a machine: its end, or its present state as that of a core that is stalled
abbrev pub IsSeen : Move Flat FlatEnd → MachineEnd → Type 0
IsSeen (Over x) end = (x.core ≡ Some end.core) × (x.count ≡ end.instructions)
IsSeen (On m) end =
    (core_end Stalled (is_resting m) m.store.globals m.operations m.shared ≡ end.core) × (m.count ≡ end.instructions)

-- under the journal of the machine its code comes to this end; and where the machine has stopped, this is what is seen of it. One that has
-- ended is not idle
pub record ComesToEnd (m : Machine) : Type 0 where
  pub end : MachineEnd
  pub comes : Runs m.code m.core m.bound m.journal (record { core = Some end.core; count = end.instructions })
  pub seen : has_stopped m.state ≡ true → IsSeen m.state end
  pub busy : has_ended m.state ≡ true → end.core.idle ≡ false

abbrev pub waiting_at_end : Option CoreEnd → List Waiting
waiting_at_end None = []
waiting_at_end (Some end) = end.waiting

-- the operations that have not ended
abbrev pub waiting_of : Move Flat FlatEnd → List Waiting
waiting_of (On m) = map waiting_as m.operations
waiting_of (Over x) = waiting_at_end x.core

-- an operation of the link is only known to its core
abbrev pub waits : Move Flat FlatEnd → ℕ → Bool
waits state link = list_any (waits_on link) (waiting_of state)

-- ---- how it has ended

-- the machine is over, by this end
abbrev pub HasEnded : Move Flat FlatEnd → Ending → Type 0
HasEnded (On m) ending = ⊥
HasEnded (Over x) ending = IfSome x.core (λ end. end.word ≡ word_of ending)

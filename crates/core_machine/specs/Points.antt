-- What callers see of a core at its dispatch points, where entries come in.
use Rattle.std.specs.Prelude.{◌≡◌, ℕ, suc, Bool, false, List, [], ◌∷◌, ◌++◌, length}
use Rattle.std.specs.Prelude.{Option, Some, None, find, is_none, is_some}
use Rattle.ac_base.specs.declared.entry.Entry.{Entry}
use Rattle.ac_base.specs.declared.entry.Event.{Event}
use Rattle.ac_base.specs.declared.entry.Payload.{Payload}
use Rattle.cancel_scope.specs.declared.operation.Operation.{Operation}
use Rattle.cancel_scope.specs.Outstanding.{is_to_offer, is_to_receive, carries}
use Rattle.core_state.specs.Moves.{Move, On, Over}
use Rattle.core_state.specs.Arrivals.{Arrival, arrives}
use Rattle.core_state.specs.Shared.{request_link, with_entry}
use Rattle.code_meaning.specs.Machine.{Flat, FlatEnd, arrived}
use Rattle.code_safety.specs.KeptEnds.{KeepsEnds, AreAtEnds}
use Rattle.code_safety.specs.Left.{left}
use Rattle.core_machine.specs.Machine.{Machine, has_ended}
use Rattle.core_machine.specs.Tracks.{Tracks}

-- it has not ended, and no thread runs
abbrev pub is_at_point : Move Flat FlatEnd → Bool
is_at_point (On m) = is_none m.running
is_at_point (Over x) = false

-- ---- operations

-- those that have not ended, the oldest first, of a core that has not
abbrev pub operations_of : Move Flat FlatEnd → List Operation
operations_of (On m) = m.operations
operations_of (Over x) = []

-- whether one of these operations is to be offered on a link
abbrev pub has_to_offer : List Operation → ℕ → Bool
has_to_offer os link = is_some (find (is_to_offer link) os)

abbrev pub carried_by : Option Operation → Payload → Bool
carried_by None payload = false
carried_by (Some o) payload = carries o.asked payload

-- whether an offer of the oldest of these operations that is to be offered on a link carries this
abbrev pub offer_carries : List Operation → ℕ → Payload → Bool
offer_carries os link payload = carried_by (find (is_to_offer link) os) payload

-- whether one of these operations waits for a message from a link
abbrev pub receives_from : List Operation → ℕ → Bool
receives_from os link = is_some (find (is_to_receive link) os)

-- ---- what holds of them

-- the link of the core's requests
abbrev pub requests_of : Machine → ℕ
requests_of m = request_link (length m.code.ends) m.core

-- each offer of its journal that has not ended is that of an operation, and each request that waits for its answer has begun, where the
-- core has not ended
abbrev pub HasTracks : Machine → Type 0
HasTracks m = has_ended m.state ≡ false → Tracks (requests_of m) m.journal (operations_of m.state)

-- where the code keeps its ends, each operation of the core is at one of them
abbrev pub KeepsOperations : Machine → Type 0
KeepsOperations m = KeepsEnds m.code → AreAtEnds m.code m.core (operations_of m.state)

-- ---- an entry

abbrev pub entry_of : Flat → Event → ℕ → Entry
entry_of m event stamp = record { stamp = stamp; turn = m.shared.turn; event = event }

-- the event has come in at this point, by an entry of this stamp
pub record HasCome (before : Machine) (event : Event) (stamp : ℕ) (after : Machine) : Type 0 where
  pub flat : Flat
  pub stood : before.state ≡ On flat
  pub arrival : Arrival
  pub fits : arrives before.journal flat.store flat.operations event ≡ Some arrival
  pub state : after.state ≡ On (arrived flat (with_entry flat.shared (entry_of flat event stamp) []) arrival)
  pub journal : after.journal ≡ before.journal ++ entry_of flat event stamp ∷ []
  pub code : after.code ≡ before.code
  pub core : after.core ≡ before.core
  pub bound : after.bound ≡ before.bound

-- ---- what is left

abbrev pub left_at : List ℕ → ℕ → Move Flat FlatEnd → ℕ
left_at ranks bound (On m) = suc (left ranks bound m)
left_at ranks bound (Over x) = 0

-- a bound on what the core can still do: it falls with each instruction and each dispatch, and no entry raises it
abbrev pub work_left : List ℕ → Machine → ℕ
work_left ranks m = left_at ranks m.bound m.state

-- ---- turns

-- where it has not ended, it is in this turn, and the whole journal has come in
abbrev pub IsInTurn : List Entry → ℕ → Move Flat FlatEnd → Type 0
IsInTurn journal turn (On m) = (m.shared.turn ≡ turn) × ((m.shared.past ≡ journal) × (m.shared.todo ≡ []))
IsInTurn journal turn (Over x) = Unit {0}

abbrev pub IsOfTurn : Machine → ℕ → Type 0
IsOfTurn m turn = IsInTurn m.journal turn m.state

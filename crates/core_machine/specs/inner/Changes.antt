-- What an instruction changes of a running core.
use Rattle.std.specs.Prelude.{◌≡◌, ℕ, [], ◌∷◌, ◌++◌, length, Option, Some, None, true, false, slice_set}
use Rattle.ac_base.specs.declared.entry.Entry.{Entry}
use Rattle.ac_base.specs.declared.entry.Event.{Event}
use Rattle.work_item.specs.declared.ids.Item.{Item}
use Rattle.core_scheduler.specs.Schedule.{Schedule, at_front}
use Rattle.core_state.specs.Shared.{with_entry}
use Rattle.core_state.specs.Arrivals.{Arrival, arrives}
use Rattle.stack_code.specs.declared.instr.Instr.{Instr}
use Rattle.stack_code.specs.declared.instr.Instr.TheVariants as i
use Rattle.code_meaning.specs.Machine.{arrived, begin, first_item}
use Rattle.thread_table.specs.Table.{Table, HasPlace}
use Rattle.core_machine.specs.declared.running.Running.{Running}
use Rattle.core_machine.specs.State.{shared_of, flat_of, state_of, HasSeats}

-- the code, the core and the bound stay; and if the ready list had room for all threads that live, it has room for all that live now
pub record IsSameCode (before after : Running) : Type 0 where
  pub code : after.code.now ≡ before.code.now
  pub core : after.core ≡ before.core
  pub bound : after.bound ≡ before.bound
  pub seats : HasSeats before → HasSeats after

-- the same of these, and the journal stays
pub record KeepsCode (before after : Running) : Type 0 where
  pub code : after.code.now ≡ before.code.now
  pub core : after.core ≡ before.core
  pub bound : after.bound ≡ before.bound
  pub journal : after.journal.entries ≡ before.journal.entries
  pub seats : HasSeats before → HasSeats after

-- and so does which threads have their places
pub record Keeps (before after : Running) : Type 0 where
  pub code : after.code.now ≡ before.code.now
  pub core : after.core ≡ before.core
  pub bound : after.bound ≡ before.bound
  pub journal : after.journal.entries ≡ before.journal.entries
  pub lives : after.threads.lives ≡ before.threads.lives
  pub seats : HasSeats before → HasSeats after

-- whether the core has ended, which threads run and are ready, and whether a value is still to be put onto operands, stays
pub record Continues (before after : Running) : Type 0 where
  pub ended : after.ended ≡ before.ended
  pub schedule : after.schedule ≡ before.schedule
  pub pending : after.threads.pending ≡ before.threads.pending

-- the thread that runs
abbrev pub item_of : Option Item → Item
item_of None = first_item
item_of (Some t) = t

-- the running thread has done this instruction
abbrev pub Does : Running → Instr → Running → Type 0
Does before instr after =
    state_of after ≡ begin before.code.now before.bound (flat_of before) (item_of before.schedule.running) (Some instr)

-- the owner that is woken, if one is, goes to the front of the ready list
abbrev pub with_woken : Schedule → Option Item → Schedule
with_woken s None = s
with_woken s (Some t) = at_front s t

-- which threads have their places after this instruction of that one: a thread that starts has the next number, and its place; one that
-- ends has its place no more
abbrev pub PlacesAfter : Instr → Item → Table → Table → Type 0
PlacesAfter (i.Async slots to) t before after =
    (after.lives ≡ before.lives ++ true ∷ []) × HasPlace after (record { number = length before.threads })
PlacesAfter i.End t before after = after.lives ≡ slice_set before.lives t.number false
PlacesAfter instr t before after = after.lives ≡ before.lives

-- where the core has not ended by it
abbrev pub Places : Running → Instr → Running → Type 0
Places before instr after = after.ended ≡ None → PlacesAfter instr (item_of before.schedule.running) before.threads after.threads

-- nothing has changed that the code's meaning sees, nor which threads have their places
pub record Stays (before after : Running) : Type 0 where
  pub flat : flat_of after ≡ flat_of before
  pub ended : after.ended ≡ before.ended
  pub lives : after.threads.lives ≡ before.threads.lives

-- ---- with the address of its running thread held apart

abbrev pub at_address : Running → ℕ → Running
at_address m address = record m { place = address }

abbrev pub DoesAt : Running → ℕ → Instr → Running → ℕ → Type 0
DoesAt before from instr after to = Does (at_address before from) instr (at_address after to)

abbrev pub StaysAt : Running → ℕ → Running → ℕ → Type 0
StaysAt before from after to = Stays (at_address before from) (at_address after to)

-- ---- an entry

-- an entry that is made now
abbrev pub entry_now : Running → Event → ℕ → Entry
entry_now m event stamp = record { stamp = stamp; turn = m.turn; event = event }

-- the event has come in, by an entry of this stamp
pub record Enters (before : Running) (event : Event) (stamp : ℕ) (after : Running) : Type 0 where
  pub arrival : Arrival
  pub fits : arrives before.journal.entries before.frames before.outstanding.operations event ≡ Some arrival
  pub flat : flat_of after ≡ arrived (flat_of before) (with_entry (shared_of before) (entry_now before event stamp) []) arrival
  pub ended : after.ended ≡ before.ended
  pub lives : after.threads.lives ≡ before.threads.lives
  pub same : IsSameCode before after

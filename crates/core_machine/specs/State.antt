-- The state that the fields of a running core stand for.
use Rattle.std.specs.Prelude.{◌≡◌, ℕ, ◌+◌, ◌≤◌, [], length, Option, Some, None, Bool, false, not, nat_lt, ◌&&◌}
use Rattle.core_machine.specs.declared.ending.Ending.{Ending}
use Rattle.core_machine.specs.Words.{word_of}
use Rattle.core_state.specs.Moves.{Move, On, Over}
use Rattle.core_state.specs.Shared.{Shared, request_link}
use Rattle.code_meaning.specs.Machine.{Thread, Flat, FlatEnd, seen_of}
use Rattle.stack_code.specs.Valid.{IsValid}
use Rattle.code_safety.specs.Fit.{IsFit}
use Rattle.code_safety.specs.Chains.{AreChained}
use Rattle.code_safety.specs.Living.{LivesAs}
use Rattle.work_item.specs.declared.ids.Item.{Item}
use Rattle.thread_table.specs.Table.{HasPlace, living}
use Rattle.core_machine.specs.declared.running.Running.{Running}
use Rattle.core_machine.specs.Blocks.{blocks_of}
use Rattle.core_machine.specs.Tracks.{Tracks}
use Rattle.core_machine.specs.Machine.{Machine, IsOnItsWay}

-- the whole journal has come in
abbrev pub shared_of : Running → Shared
shared_of m = record { steps = m.steps; turn = m.turn; output = m.output.items; past = m.journal.entries; todo = []; requests = m.requests }

abbrev pub thread_of : Running → Thread
thread_of m = record { place = m.place; frame = m.frame; operands = m.operands; callers = m.callers; block = m.block }

abbrev pub flat_of : Running → Flat
flat_of m =
    record {
      shared = shared_of m;
      store = m.frames;
      operations = m.outstanding.operations;
      running = m.schedule.running;
      current = thread_of m;
      ready = m.schedule.ready;
      threads = m.threads.threads;
      blocks = blocks_of m.blocks.blocks;
      count = m.count;
    }

abbrev pub end_or : Flat → Option Ending → Move Flat FlatEnd
end_or m None = On m
end_or m (Some ending) = Over (record { core = seen_of (word_of ending) false m; count = m.count })

abbrev pub state_of : Running → Move Flat FlatEnd
state_of m = end_or (flat_of m) m.ended

-- an entry takes no memory, and neither does the value of the thread that it may wake
abbrev pub has_room : Running → Bool
has_room m = nat_lt 0 m.journal.spare && (nat_lt 0 m.schedule.spare && not m.threads.pending)

abbrev pub machine_of : Running → Machine
machine_of m =
    record { code = m.code.now; core = m.core; bound = m.bound; journal = m.journal.entries; state = state_of m; room = has_room m }

-- the link of the core's requests
abbrev pub own_link : Running → ℕ
own_link m = request_link (length m.code.now.ends) m.core

-- each thread that lives has its place in the table
abbrev pub HavePlaces : Running → Type 0
HavePlaces m = (t : Item) (h : Thread) → LivesAs (flat_of m) t h → HasPlace m.threads t

-- the ready list has room for all threads that live, those in it among them
abbrev pub HasSeats : Running → Type 0
HasSeats m = living m.threads ≤ length m.schedule.ready + m.schedule.spare

-- a core that has not ended stands where its code can stand, no reference dangles there, it asks for reads and writes on its own link,
-- each offer that has not ended is that of an operation, and each thread that lives has its place; and the ready list has room for all
-- that live
pub record IsSound (m : Running) : Type 0 where
  pub fit : m.ended ≡ None → IsFit m.code.now (flat_of m)
  pub chained : m.ended ≡ None → AreChained m.code.now (flat_of m)
  pub requests : m.ended ≡ None → m.requests ≡ own_link m
  pub tracks : m.ended ≡ None → Tracks (own_link m) m.journal.entries m.outstanding.operations
  pub places : m.ended ≡ None → HavePlaces m
  pub seats : HasSeats m
  pub valid : IsValid m.code.now
  pub ran : IsOnItsWay (machine_of m)

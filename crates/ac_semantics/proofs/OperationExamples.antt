-- Operations that start and end, and a short program that sends 5 on channel 0.
-- A thread starts a send and stops; an entry of the journal ends it, and the thread goes on with its value. Without the entry the core
-- waits.
use Rattle.std.proofs.Common.{◌≡◌, refl, sym, ℕ, pos, List, [], ◌∷◌, codes, Option, None, Some, true, false}
use Rattle.ac_base.specs.declared.ends.EndWord.TheVariants.{Finished, Stalled}
use Rattle.ac_base.specs.declared.ends.CoreEnd.{CoreEnd}
use Rattle.ac_base.specs.declared.ends.Phase.TheVariants as phase
use Rattle.ac_base.specs.declared.entry.Entry.{Entry}
use Rattle.ac_base.specs.declared.entry.Event.{Event}
use Rattle.ac_base.specs.declared.entry.Event.TheVariants.{Offer, Know, Got, Pass}
use Rattle.ac_base.specs.declared.entry.Payload.TheVariants.{Int}
use Rattle.work_item.specs.declared.cell.Cell.TheVariants as cell
use Rattle.work_item.specs.Store.{Store}
use Rattle.cancel_scope.specs.declared.operation.Asked.TheVariants as asked
use Rattle.cancel_scope.specs.declared.operation.Operation.{Operation}
use Rattle.cancel_scope.specs.Outstanding.{started, offered_as}
use Rattle.core_state.specs.Moves.{Move, On, Over, moves, and_then}
use Rattle.core_state.specs.Frames.{first_frame}
use Rattle.core_state.specs.Shared.{first_shared}
use Rattle.core_state.specs.Arrivals.{goes_on_waiting}
use Rattle.ac_commands.specs.declared.value.Action.TheVariants.{Send, Recv}
use Rattle.ac_commands.specs.declared.value.Value.{Value}
use Rattle.ac_commands.specs.declared.value.Value.TheVariants as v
use Rattle.ac_commands.specs.declared.command.Command.{Command, out-Command}
use Rattle.ac_commands.specs.declared.command.Command.TheVariants as c
use Rattle.ac_commands.specs.declared.command.Command.TheOpen.{Command-F}
use Rattle.ac_commands.specs.declared.program.Resolved.{Resolved}
use Rattle.ac_semantics.specs.Evaluation.{Acting, Context, Stops}
use Rattle.ac_semantics.specs.Held.{with_started}
use Rattle.ac_semantics.specs.Work.{Work, Pend, Given, Leave}
use Rattle.ac_semantics.specs.Statements.{Operates, Next, settles}
use Rattle.ac_semantics.specs.Threads.{Thread, Active, CoreState, applied, resumed, arrived, rests, step, first_state}
use Rattle.ac_semantics.specs.Replay.{Replays}
use Rattle.ac_semantics.proofs.Forms.{number_goes, act_goes}
use Rattle.ac_semantics.proofs.Examples.{number, value, program, function, form, finish_by}
use Rattle.ac_semantics.proofs.PartExamples.{int, item, held, both_globals}

-- ---- a thread that waits for the value of an operation

abbrev pub waits : Work
waits = Pend first_frame c.Yield []

abbrev pub given_nought : Work
given_nought = Given (int 0) first_frame c.Yield []

-- what takes the last operand of an action
abbrev pub settled : List Work → Next
settled ws = settles (program []) c.Yield first_frame ws held (Stops (Acting (Send 2)) (int 5 ∷ []) [])

pub a_send_starts : settled (Leave ∷ []) ≡ Operates 2 (asked.Send (pos 5 ∷ [])) held (waits ∷ Leave ∷ [])
a_send_starts = refl

-- all elements of an array are sent, as they are now: the globals are 8 and 9
pub an_array_is_sent_whole : settles (program []) c.Yield first_frame (Leave ∷ []) held (Stops (Acting (Send 2)) (cell.Array both_globals ∷ []) [])
    ≡ Operates 2 (asked.Send (pos 8 ∷ pos 9 ∷ [])) held (waits ∷ Leave ∷ [])
an_array_is_sent_whole = refl

pub a_receive_starts : settles (program []) c.Yield first_frame [] held (Stops (Acting (Recv 1)) (cell.Array both_globals ∷ []) [])
    ≡ Operates 1 (asked.Recv both_globals) held (waits ∷ [])
a_receive_starts = refl

abbrev pub five : Operation
five = started 0 (asked.Send (pos 5 ∷ [])) (item 0)

pub the_youngest_is_last : (with_started held 0 (asked.Send (pos 5 ∷ [])) (item 0) ≡ record held { operations = five ∷ [] })
    × (with_started (record held { operations = five ∷ [] }) 1 (asked.Recv both_globals) (item 1)
    ≡ record held { operations = five ∷ started 1 (asked.Recv both_globals) (item 1) ∷ [] })
the_youngest_is_last = (refl, refl)

-- ---- a core whose one thread waits for the end of its send

abbrev pub with_work : List Work → Thread
with_work ws = record { around = []; phase = Active; work = ws }

abbrev pub core : List Entry → List Operation → CoreState
core todo operations = record {
  held = record held { shared = record (first_shared 2 []) { todo = todo }; operations = operations };
  running = None;
  work = [];
  ready = [];
  threads = with_work (waits ∷ Leave ∷ []) ∷ [];
}

pub it_waits_for_its_end : applied (record (core [] []) { running = Some (item 0); threads = with_work [] ∷ [] }) (item 0) (Operates 0 (asked.Send (pos 5 ∷ [])) held (waits ∷ Leave ∷ []))
    ≡ On (core [] (five ∷ []))
it_waits_for_its_end = refl

-- its value has come, and it is ready
abbrev pub woken : List Entry → List Operation → CoreState
woken past operations = record (core [] operations) {
  held = record held { shared = record (first_shared 2 []) { past = past }; operations = operations };
  ready = item 0 ∷ [];
  threads = with_work (given_nought ∷ Leave ∷ []) ∷ [];
}

pub its_value_comes : (resumed (core [] []) (int 0) (Some (item 0)) ≡ woken [] []) × (resumed (core [] []) (int 0) None ≡ core [] [])
its_value_comes = (refl, refl)

pub it_goes_to_the_back : (resumed (record (core [] []) { ready = item 1 ∷ [] }) (int 0) (Some (item 0))).ready ≡ item 1 ∷ item 0 ∷ []
it_goes_to_the_back = refl

pub an_entry_leaves_it_so : (arrived (core [] []) (first_shared 2 []) (record { operations = []; store = held.store; woken = Some (item 0); value = pos 0 }) ≡ woken [] [])
    × (arrived (core [] []) (first_shared 2 []) (goes_on_waiting held.store (five ∷ [])) ≡ core [] (five ∷ []))
an_entry_leaves_it_so = (refl, refl)

abbrev pub at_turn : ℕ → Event → Entry
at_turn turn event = record { stamp = 4; turn = turn; event = event }

-- it is known that the offer 3 was taken
pub an_entry_that_fits : rests (core (at_turn 0 (Know 0 3) ∷ []) (offered_as 3 five ∷ [])) ≡ On (woken (at_turn 0 (Know 0 3) ∷ []) [])
an_entry_that_fits = refl

-- an entry of a later turn does not come in, so the core waits, and nothing is seen of it
pub an_entry_of_a_later_turn : rests (core (at_turn 1 (Know 0 3) ∷ []) (offered_as 3 five ∷ [])) ≡ Over None
an_entry_of_a_later_turn = refl

-- with a thread that is ready the core goes on
pub the_ready_one_runs_before_it : rests (record (core (at_turn 1 (Know 0 3) ∷ []) (offered_as 3 five ∷ [])) { ready = item 0 ∷ [] })
    ≡ On (record (core (at_turn 1 (Know 0 3) ∷ []) (offered_as 3 five ∷ [])) {
      held = record held { shared = record (first_shared 2 []) { turn = 1; todo = at_turn 1 (Know 0 3) ∷ [] }; operations = offered_as 3 five ∷ [] };
      running = Some (item 0);
      work = waits ∷ Leave ∷ [];
    })
the_ready_one_runs_before_it = refl

pub an_entry_that_does_not_fit : (rests (core (at_turn 0 (Know 0 3) ∷ []) (offered_as 2 five ∷ [])) ≡ Over None) × (rests (core (at_turn 0 (Got 0 0 (pos 1 ∷ [])) ∷ []) (five ∷ [])) ≡ Over None)
an_entry_that_does_not_fit = (refl, refl)

-- a withdrawn offer is passed over, and its thread waits on for a message
abbrev pub hears : Operation
hears = started 1 (asked.Recv both_globals) (item 0)

pub a_pass_ends_nothing : rests (core (at_turn 0 (Pass 1 0) ∷ []) (hears ∷ []))
    ≡ On (record (core [] []) { held = record held { shared = record (first_shared 2 []) { past = at_turn 0 (Pass 1 0) ∷ [] }; operations = hears ∷ [] } })
a_pass_ends_nothing = refl

pub no_entry_comes : rests (core [] (five ∷ []))
    ≡ Over (Some (record { word = Stalled; steps = 0; output = []; globals = pos 8 ∷ pos 9 ∷ []; waiting = record { link = 0; phase = phase.Waiting } ∷ []; idle = true }))
no_entry_comes = refl

-- ---- a program whose core `a` has the statement send(c, 5)

abbrev pub sends_five : Value
sends_five = v.Act (Send 0) (number 5 ∷ [])

abbrev pub sends : Command
sends = c.Run sends_five

-- its other core has no statement
abbrev pub two_cores : Resolved
two_cores = record (program (sends ∷ [])) {
  cores = record { name = codes "a"; entry = 0 } ∷ record { name = codes "b"; entry = 1 } ∷ [];
  functions = function (sends ∷ []) ∷ function [] ∷ [];
  channels = record { from = 0; to = 1; capacity = 1; width = 1 } ∷ [];
}

-- what so many moves of it come to under a journal
abbrev pub after : List Entry → ℕ → Move CoreState (Option CoreEnd)
after journal count = and_then (first_state two_cores 0 (function (sends ∷ [])) journal) (moves (step two_cores 9) count)

pub send_form : out-Command sends ≡ Command-F.Run sends_five
send_form = form sends _ (c.rolls-Run sends_five)

pub it_stops_at_the_send : (s : Store) (around : List Context) → value s sends_five around ≡ Stops (Acting (Send 0)) (int 5 ∷ []) around
it_stops_at_the_send s around = simp (act_goes s first_frame, number_goes s first_frame)

-- the send is offered as the number 0 at the turn 1, and it is taken
abbrev pub taken : List Entry
taken = record { stamp = 1; turn = 1; event = Offer 0 0 (Int (pos 5 ∷ [])) } ∷ record { stamp = 3; turn = 1; event = Know 0 0 } ∷ []

-- the dispatch, the send, the two entries, the second dispatch, what goes on with the value, and the end
pub a_send_that_is_taken : after taken 7 ≡ Over (Some (record { word = Finished; steps = 1; output = []; globals = pos 0 ∷ pos 5 ∷ []; waiting = []; idle = false }))
a_send_that_is_taken = rw (send_form, it_stops_at_the_send, finish_by two_cores sends _ send_form) refl

pub it_is_an_end_of_the_core : Replays two_cores 0 9 taken (Some (record { word = Finished; steps = 1; output = []; globals = pos 0 ∷ pos 5 ∷ []; waiting = []; idle = false }))
it_is_an_end_of_the_core = record {
  function = function (sends ∷ []);
  enters = record { here = record { name = codes "a"; entry = 0 }; core_is = refl; function_is = refl };
  ends = (7, sym a_send_that_is_taken);
}

-- without an entry it waits for ever
pub a_send_that_no_one_takes : after [] 3
    ≡ Over (Some (record { word = Stalled; steps = 1; output = []; globals = pos 0 ∷ pos 5 ∷ []; waiting = record { link = 0; phase = phase.Waiting } ∷ []; idle = true }))
a_send_that_no_one_takes = rw (send_form, it_stops_at_the_send) refl

-- Cancelled blocks: what a cancel tries and leaves, an operation that starts after it, and a program whose core cancels before it sends.
-- The thread 0 cancels a block within which the thread 1 waits and the thread 2 does not: what only its core knows is cancelled at once, an
-- offer takes the next entry as its outcome, and without one the run stops there.
use Rattle.std.proofs.Common.{◌≡◌, refl, sym, ℕ, ℤ, pos, List, [], ◌∷◌, Option, None, Some, Bool, true, false}
use Rattle.std.specs.Prelude.{negsuc}
use Rattle.ac_base.specs.declared.ends.EndWord.TheVariants.{Finished, Stalled}
use Rattle.ac_base.specs.declared.ends.CoreEnd.{CoreEnd}
use Rattle.ac_base.specs.declared.ends.Phase.TheVariants as phase
use Rattle.ac_base.specs.declared.entry.Entry.{Entry}
use Rattle.ac_base.specs.declared.entry.Event.TheVariants.{Withdraw, Know}
use Rattle.work_item.specs.declared.ids.BlockId.{BlockId}
use Rattle.work_item.specs.declared.cell.Cell.TheVariants as cell
use Rattle.work_item.specs.Store.{Store}
use Rattle.cancel_scope.specs.declared.operation.Asked.TheVariants as asked
use Rattle.cancel_scope.specs.declared.operation.Operation.{Operation}
use Rattle.cancel_scope.specs.Outstanding.{started, offered_as}
use Rattle.core_state.specs.Moves.{Move, On, Over, moves, and_then}
use Rattle.core_state.specs.Frames.{first_frame}
use Rattle.core_state.specs.Shared.{first_shared}
use Rattle.ac_commands.specs.declared.value.Action.TheVariants.{Send}
use Rattle.ac_commands.specs.declared.command.Command.{Command, out-Command}
use Rattle.ac_commands.specs.declared.command.Command.TheVariants as c
use Rattle.ac_commands.specs.declared.command.Command.TheOpen.{Command-F}
use Rattle.ac_commands.specs.declared.program.Resolved.{Resolved}
use Rattle.ac_semantics.specs.Evaluation.{Acting, Context, Stops}
use Rattle.ac_semantics.specs.Held.{Held, next_block, with_mark, any_marked}
use Rattle.ac_semantics.specs.Work.{Work, Pend, Given, CallOff, Close, Back, Leave}
use Rattle.ac_semantics.specs.Statements.{Cancels, Goes, finish_form, next_at}
use Rattle.ac_semantics.specs.Threads.{Thread, Active, CoreState, path, is_inside, operates, calls_off, applied, stops, goes_on, step, first_state}
use Rattle.ac_semantics.proofs.Examples.{program, function, form, finish_by, value}
use Rattle.ac_semantics.proofs.PartExamples.{int, item, held, block}
use Rattle.ac_semantics.proofs.OperationExamples.{at_turn, sends, sends_five, send_form, it_stops_at_the_send, two_cores}

-- ---- blocks

-- of three blocks that were born the second is marked
pub marks_of_blocks : (next_block held ≡ block 3) × ((with_mark held (block 0)).marks ≡ true ∷ true ∷ false ∷ []) × (with_mark held (block 1) ≡ held) × (with_mark held (block 3) ≡ held)
    × (any_marked held.marks (block 2 ∷ block 1 ∷ []) ≡ true) × (any_marked held.marks (block 2 ∷ block 0 ∷ []) ≡ false) × (any_marked held.marks [] ≡ false)
marks_of_blocks = (refl, refl, refl, refl, refl, refl, refl)

-- a thread that was started in the block 0, with what it has still to do
abbrev pub in_first : List Work → Thread
in_first ws = record { around = block 0 ∷ []; phase = Active; work = ws }

-- it has entered the block 1, and in a function that it has called the block 2
pub also_in_functions_that_it_called : path (Close (block 2) ∷ Back first_frame ∷ Pend first_frame c.Yield [] ∷ Close (block 1) ∷ []) (in_first []) ≡ block 2 ∷ block 1 ∷ block 0 ∷ []
also_in_functions_that_it_called = refl

-- ---- the thread 0 cancels; the threads 1 and 2 wait, that in the block 1 within the block 0, and this in the block 2

abbrev pub of_thread : ℕ → Operation
of_thread number = started 0 (asked.Send (pos 5 ∷ [])) (item number)

abbrev pub waiting : Work
waiting = Pend first_frame c.Yield []

abbrev pub calling_off : List Work
calling_off = CallOff first_frame 0 0 ∷ Leave ∷ []

abbrev pub second : List Work → Thread
second ws = record { around = block 2 ∷ []; phase = Active; work = ws }

abbrev pub has : List Entry → List Entry → List Bool → List Operation → Held
has past todo marks operations = record held { shared = record (first_shared 2 []) { past = past; todo = todo }; marks = marks; operations = operations }

abbrev pub unmarked : List Bool
unmarked = false ∷ false ∷ false ∷ []

abbrev pub marked : List Bool
marked = true ∷ false ∷ false ∷ []

abbrev pub core : List Entry → List Operation → CoreState
core todo operations = record {
  held = has [] todo unmarked operations;
  running = Some (item 0);
  work = calling_off;
  ready = [];
  threads = in_first [] ∷ in_first (waiting ∷ Close (block 1) ∷ []) ∷ second (waiting ∷ []) ∷ [];
}

pub who_is_inside : (is_inside (core [] []).threads (block 0) (of_thread 1) ≡ true) × (is_inside (core [] []).threads (block 1) (of_thread 1) ≡ true)
    × (is_inside (core [] []).threads (block 0) (of_thread 2) ≡ false)
who_is_inside = (refl, refl, refl)

-- the first thread goes on with its cancel, and the other is ready with this value
abbrev pub ended : ℤ → List Entry → List Operation → CoreState
ended value past operations = record (core [] []) {
  held = has past [] marked operations;
  ready = item 1 ∷ [];
  threads = in_first [] ∷ in_first (Given (cell.Int value) first_frame c.Yield [] ∷ Close (block 1) ∷ []) ∷ second (waiting ∷ []) ∷ [];
}

abbrev pub calls_off_first : CoreState → Move CoreState (Option CoreEnd)
calls_off_first x = calls_off x (block 0) x.held calling_off (Leave ∷ [])

pub what_waits_is_cancelled : calls_off_first (core [] (of_thread 2 ∷ of_thread 1 ∷ [])) ≡ On (ended (negsuc 0) [] (of_thread 2 ∷ []))
what_waits_is_cancelled = refl

-- and what is not within stays, so the thread goes on; a second cancel of the block changes nothing
pub then_it_goes_on : (calls_off_first (ended (negsuc 0) [] (of_thread 2 ∷ [])) ≡ On (record (ended (negsuc 0) [] (of_thread 2 ∷ [])) { work = Leave ∷ [] }))
    × (calls_off_first (record (ended (negsuc 0) [] (of_thread 2 ∷ [])) { work = Leave ∷ [] }) ≡ On (record (ended (negsuc 0) [] (of_thread 2 ∷ [])) { work = Leave ∷ [] }))
then_it_goes_on = (refl, refl)

-- the send of the thread 1 stands on its link as the number 3: the entry tells whether the peer was first
abbrev pub offered : Operation
offered = offered_as 3 (of_thread 1)

pub the_next_entry_is_its_outcome : (calls_off_first (core (at_turn 0 (Withdraw 0 3) ∷ []) (offered ∷ [])) ≡ On (ended (negsuc 0) (at_turn 0 (Withdraw 0 3) ∷ []) []))
    × (calls_off_first (core (at_turn 0 (Know 0 3) ∷ []) (offered ∷ [])) ≡ On (ended (pos 0) (at_turn 0 (Know 0 3) ∷ []) []))
the_next_entry_is_its_outcome = (refl, refl)

pub it_needs_an_entry : (calls_off_first (core [] (offered ∷ []))
    ≡ Over (Some (record { word = Stalled; steps = 0; output = []; globals = pos 8 ∷ pos 9 ∷ []; waiting = record { link = 0; phase = phase.Offered } ∷ []; idle = false })))
    × (calls_off_first (core (at_turn 0 (Know 0 2) ∷ []) (offered ∷ [])) ≡ Over None)
it_needs_an_entry = (refl, refl)

pub a_cancel_is_such_a_move : applied (core [] []) (item 0) (Cancels (block 0) held calling_off (Leave ∷ [])) ≡ calls_off (core [] []) (block 0) held calling_off (Leave ∷ [])
a_cancel_is_such_a_move = refl

-- ---- an operation that starts

-- in a cancelled block it has its value at once and the thread runs on, and else the thread waits
pub an_operation_starts : (operates true (core [] []) (item 0) 0 (asked.Send (pos 5 ∷ [])) held (waiting ∷ Leave ∷ [])
    ≡ record (core [] []) { held = held; work = Given (cell.Int (negsuc 0)) first_frame c.Yield [] ∷ Leave ∷ [] })
    × ((operates false (core [] []) (item 0) 0 (asked.Send (pos 5 ∷ [])) held (waiting ∷ Leave ∷ [])).held.operations ≡ of_thread 0 ∷ [])
    × ((operates false (core [] []) (item 0) 0 (asked.Send (pos 5 ∷ [])) held (waiting ∷ Leave ∷ [])).running ≡ None)
an_operation_starts = (refl, refl, refl)

-- ---- the statement

pub a_cancel_names_the_block_of_a_slot : (s : Held) → (finish_form (program []) c.Yield (Command-F.Cancel 1 4) [] first_frame (Leave ∷ []) s ≡ Goes s (CallOff first_frame 1 4 ∷ Leave ∷ []))
    × (next_at (program []) 0 calling_off held ≡ Cancels (block 0) held calling_off (Leave ∷ []))
a_cancel_names_the_block_of_a_slot s = (refl, refl)

-- ---- t: do { cancel t; send(c, 5); } finish

abbrev pub cancels : Command
cancels = c.Cancel 0 0

abbrev pub calls_off_and_sends : Command
calls_off_and_sends = c.Do 0 (cancels ∷ sends ∷ [])

cancel_form : out-Command cancels ≡ Command-F.Cancel 0 0
cancel_form = form cancels _ (c.rolls-Cancel 0 0)

do_form : out-Command calls_off_and_sends ≡ Command-F.Do 0 (cancels ∷ sends ∷ [])
do_form = form calls_off_and_sends _ (c.rolls-Do 0 (cancels ∷ sends ∷ []))

-- the slot of the block is the only one of its frame
abbrev pub cancelling : Resolved
cancelling = record two_cores { functions = record (function (calls_off_and_sends ∷ [])) { slots = 1 } ∷ function [] ∷ [] }

abbrev pub after : List Entry → ℕ → Move CoreState (Option CoreEnd)
after journal count = and_then (first_state cancelling 0 (record (function (calls_off_and_sends ∷ [])) { slots = 1 }) journal) (moves (step cancelling 9) count)

-- the dispatch, the `do`, the cancel and its end, the send and its end, the `finish` and the end: four steps, and no entry is made
pub it_is_cancelled_before_it_starts : after [] 8 ≡ Over (Some (record { word = Finished; steps = 4; output = []; globals = pos 0 ∷ pos 5 ∷ []; waiting = []; idle = false }))
it_is_cancelled_before_it_starts = rw (
  do_form,
  finish_by cancelling calls_off_and_sends _ do_form,
  cancel_form,
  finish_by cancelling cancels _ cancel_form,
  send_form,
  it_stops_at_the_send,
  finish_by cancelling sends _ send_form,
) refl

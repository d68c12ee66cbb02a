-- Reads and writes of files: they start on the core's own link, which is 2 here, and end by an answer.
-- A statement with a right range asks for its bytes and one with a wrong range traps; a request begins, is answered, or is cancelled where
-- it has not begun.
use Rattle.std.proofs.Common.{◌≡◌, refl, ℕ, pos, negsuc, List, [], ◌∷◌, true, false}
use Rattle.std.specs.Prelude.{Ok, Err}
use Rattle.ac_base.specs.declared.ends.Trap.TheVariants.{FileRange}
use Rattle.ac_base.specs.declared.ends.EndWord.TheVariants.{Trapped}
use Rattle.ac_base.specs.declared.entry.Answer.TheVariants.{Bytes, Fault}
use Rattle.ac_base.specs.declared.entry.Event.{Event}
use Rattle.ac_base.specs.declared.entry.Event.TheVariants.{Withdraw, Know, Reply}
use Rattle.ac_base.specs.declared.entry.Entry.{Entry}
use Rattle.work_item.specs.declared.cell.Cell.{Cell}
use Rattle.work_item.specs.declared.cell.Cell.TheVariants as cell
use Rattle.work_item.specs.Store.{Store}
use Rattle.cancel_scope.specs.declared.operation.Asked.TheVariants as asked
use Rattle.cancel_scope.specs.declared.operation.Operation.{Operation}
use Rattle.cancel_scope.specs.Outstanding.{started, offered_as, as_begun}
use Rattle.core_state.specs.Moves.{On}
use Rattle.core_state.specs.Frames.{first_frame}
use Rattle.core_state.specs.Shared.{first_shared}
use Rattle.ac_commands.specs.declared.value.Action.{Action}
use Rattle.ac_commands.specs.declared.value.Action.TheVariants.{Read, Write}
use Rattle.ac_commands.specs.declared.command.Command.TheVariants as c
use Rattle.ac_semantics.specs.Evaluation.{Acting, Stops}
use Rattle.ac_semantics.specs.Work.{Given, Leave}
use Rattle.ac_semantics.specs.Statements.{Operates, Ends, Next, settles, requests, place_operand, length_operand}
use Rattle.ac_semantics.specs.Threads.{CoreState, operates, rests}
use Rattle.ac_semantics.proofs.Examples.{program, two_globals}
use Rattle.ac_semantics.proofs.PartExamples.{int, item, held, both_globals}
use Rattle.ac_semantics.proofs.OperationExamples.{waits, with_work, core, at_turn}
use Rattle.ac_semantics.proofs.CancelExamples as cancel

-- ---- a statement comes to a request

-- an array of two on top of a length and of a place in the file
abbrev pub operands : ℕ → ℕ → List Cell
operands from len = cell.Array both_globals ∷ int len ∷ int from ∷ []

abbrev pub settled : Action → List Cell → Next
settled action cells = settles (program []) c.Yield first_frame (Leave ∷ []) held (Stops (Acting action) cells [])

-- the globals are 8 and 9, and a write takes them as it starts
pub a_request_starts : (settled (Read 6) (operands 4 2) ≡ Operates 2 (asked.Read 6 4 both_globals) held (waits ∷ Leave ∷ []))
    × (settled (Write 6) (operands 4 2) ≡ Operates 2 (asked.Write 6 4 (8 ∷ 9 ∷ [])) held (waits ∷ Leave ∷ []))
a_request_starts = (refl, refl)

-- the array has two elements
pub a_range_is_not_right : (settled (Read 6) (operands 4 3) ≡ Ends (Trapped FileRange) held) × (settled (Write 6) (operands 4 3) ≡ Ends (Trapped FileRange) held)
a_range_is_not_right = (refl, refl)

pub its_parts : (place_operand (operands 4 2) ≡ pos 4) × (length_operand (operands 4 2) ≡ pos 2) × (requests (Err FileRange) [] held ≡ Ends (Trapped FileRange) held)
    × (requests (Ok (asked.Read 6 4 both_globals)) (Leave ∷ []) held ≡ Operates 2 (asked.Read 6 4 both_globals) held (Leave ∷ []))
its_parts = (refl, refl, refl, refl)

abbrev pub reads : Operation
reads = started 2 (asked.Read 6 4 both_globals) (item 0)

abbrev pub writes : Operation
writes = started 2 (asked.Write 6 4 (8 ∷ 9 ∷ [])) (item 0)

-- in a cancelled block nothing is asked for, and its thread runs on
pub a_request_in_a_cancelled_block : (operates true (core [] []) (item 0) 2 reads.asked held (waits ∷ Leave ∷ [])
    ≡ record (core [] []) { held = held; work = Given (cell.Int (negsuc 0)) first_frame c.Yield [] ∷ Leave ∷ [] })
    × ((operates false (core [] []) (item 0) 2 reads.asked held (waits ∷ Leave ∷ [])).held.operations ≡ reads ∷ [])
a_request_in_a_cancelled_block = (refl, refl)

-- ---- entries

-- the one thread of the core waits
abbrev pub after : List Entry → List Operation → CoreState
after past operations = record (core [] []) { held = record held { shared = record (first_shared 2 []) { past = past }; operations = operations } }

-- the worker has begun it, and no thread is ready
pub a_known_request_has_begun : rests (core (at_turn 0 (Know 2 3) ∷ []) (offered_as 3 reads ∷ []))
    ≡ On (after (at_turn 0 (Know 2 3) ∷ []) (as_begun (offered_as 3 reads) ∷ []))
a_known_request_has_begun = refl

-- its thread is ready with the value
abbrev pub answered : Entry → Store → Cell → CoreState
answered e store value = record (core [] []) {
  held = record held { shared = record (first_shared 2 []) { past = e ∷ [] }; store = store };
  ready = item 0 ∷ [];
  threads = with_work (Given value first_frame c.Yield [] ∷ Leave ∷ []) ∷ [];
}

pub a_request_has_its_answer : (rests (core (at_turn 0 (Reply 2 3 (Bytes (65 ∷ []))) ∷ []) (as_begun (offered_as 3 reads) ∷ []))
    ≡ On (answered (at_turn 0 (Reply 2 3 (Bytes (65 ∷ [])))) (record two_globals { globals = pos 65 ∷ pos 9 ∷ [] }) (int 1)))
    × (rests (core (at_turn 0 (Reply 2 3 (Fault 1)) ∷ []) (as_begun (offered_as 3 writes) ∷ []))
    ≡ On (answered (at_turn 0 (Reply 2 3 (Fault 1))) two_globals (cell.Int (negsuc 1))))
a_request_has_its_answer = (refl, refl)

-- ---- the thread 0 cancels a block in which the thread 1 waits for a read

abbrev pub of_second : Operation
of_second = record reads { item = item 1 }

-- the worker was first: the request has begun and waits on for its answer, and the thread goes on past its cancel
pub a_begun_request_stays : (cancel.calls_off_first (cancel.core (at_turn 0 (Know 2 3) ∷ []) (offered_as 3 of_second ∷ []))
    ≡ On (record (cancel.core [] []) { held = cancel.has (at_turn 0 (Know 2 3) ∷ []) [] cancel.marked (as_begun (offered_as 3 of_second) ∷ []) }))
    × (cancel.calls_off_first (cancel.core [] (as_begun (offered_as 3 of_second) ∷ []))
    ≡ On (record (cancel.core [] []) { held = cancel.has [] [] cancel.marked (as_begun (offered_as 3 of_second) ∷ []); work = Leave ∷ [] }))
a_begun_request_stays = (refl, refl)

-- or it was not
pub a_withdrawn_request_never_happens : cancel.calls_off_first (cancel.core (at_turn 0 (Withdraw 2 3) ∷ []) (offered_as 3 of_second ∷ []))
    ≡ On (cancel.ended (negsuc 0) (at_turn 0 (Withdraw 2 3) ∷ []) [])
a_withdrawn_request_never_happens = refl

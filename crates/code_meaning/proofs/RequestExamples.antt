-- Reads and writes of files in the machine: they start on the core's own link, which is 2 here, and end by an answer.
-- A request is taken off the operands with its range tested, waits, begins and is answered; a cancel withdraws it or is too late, where it
-- has begun.
use Rattle.std.proofs.Common.{◌≡◌, refl, ℕ, pos, List, [], ◌∷◌, Some, None, true, false}
use Rattle.std.specs.Prelude.{negsuc, Ok, Err}
use Rattle.ac_base.specs.declared.ends.Trap.TheVariants.{FileRange}
use Rattle.ac_base.specs.declared.ends.EndWord.TheVariants.{Trapped}
use Rattle.ac_base.specs.declared.entry.Answer.TheVariants.{Bytes, Fault}
use Rattle.ac_base.specs.declared.entry.Event.{Event}
use Rattle.ac_base.specs.declared.entry.Event.TheVariants.{Withdraw, Know, Reply}
use Rattle.ac_base.specs.declared.entry.Entry.{Entry}
use Rattle.work_item.specs.declared.cell.Place.{Place}
use Rattle.work_item.specs.declared.cell.Cell.{Cell}
use Rattle.work_item.specs.declared.cell.Cell.TheVariants as cell
use Rattle.work_item.specs.Store.{Store}
use Rattle.cancel_scope.specs.declared.operation.Asked.TheVariants.{Read, Write}
use Rattle.cancel_scope.specs.declared.operation.Operation.{Operation}
use Rattle.cancel_scope.specs.Outstanding.{started, offered_as, as_begun}
use Rattle.core_state.specs.Moves.{Move, On, Over}
use Rattle.core_state.specs.Shared.{core_end, first_shared}
use Rattle.stack_code.specs.declared.instr.Instr.TheVariants as i
use Rattle.stack_code.proofs.Examples.{code}
use Rattle.code_meaning.specs.Machine.{Flat, FlatEnd, nobody, begin, operates, requests, rests, calls_off}
use Rattle.code_meaning.proofs.MachineExamples.{item, block, int, here}
use Rattle.code_meaning.proofs.CancelExamples.{blocks, within}

-- ---- a core with two globals, 322 and 9

abbrev pub two_globals : Store
two_globals = record { globals = pos 322 ∷ pos 9 ∷ []; frames = [] }

abbrev pub both : Place
both = record { home = None; start = 0; len = 2 }

-- the array on top of a length and of a place in the file, with a 1 below the value that will come
abbrev pub operands : ℕ → ℕ → List Cell
operands from len = cell.Array both ∷ int len ∷ int from ∷ int 1 ∷ []

abbrev pub asking : List Cell → Flat
asking cells = record (here cells) { store = two_globals }

abbrev pub waits_for : Operation → Flat
waits_for o = operates (asking []) (item 0) o.link o.asked (int 1 ∷ [])

abbrev pub reads : Operation
reads = started 2 (Read 6 4 both) (item 0)

-- 322 is 256 + 66
abbrev pub writes : Operation
writes = started 2 (Write 6 4 (66 ∷ 9 ∷ [])) (item 0)

pub a_request_starts : (begin code 9 (asking (operands 4 2)) (item 0) (Some (i.Read 6)) ≡ On (waits_for reads))
    × (begin code 9 (asking (operands 4 2)) (item 0) (Some (i.Write 6)) ≡ On (waits_for writes))
    × ((waits_for reads).operations ≡ reads ∷ []) × (requests (asking []) (item 0) (Ok (Read 6 4 both)) (int 1 ∷ []) ≡ On (waits_for reads))
a_request_starts = (refl, refl, refl, refl)

-- the array is too short, also in a cancelled block
abbrev pub out_of_range : Move Flat FlatEnd
out_of_range = Over (record { core = Some (core_end (Trapped FileRange) false (pos 322 ∷ pos 9 ∷ []) [] (first_shared 2 [])); count = 8 })

abbrev pub in_cancelled : List Cell → Flat
in_cancelled cells = record (asking cells) { current = record (within 1 cells) { place = 4 }; blocks = blocks true }

pub a_range_is_not_right : (begin code 9 (asking (operands 4 3)) (item 0) (Some (i.Read 6)) ≡ out_of_range) × (begin code 9 (asking (operands 4 3)) (item 0) (Some (i.Write 6)) ≡ out_of_range)
    × (begin code 9 (in_cancelled (operands 4 3)) (item 0) (Some (i.Read 6)) ≡ out_of_range) × (requests (asking []) (item 0) (Err FileRange) [] ≡ out_of_range)
a_range_is_not_right = (refl, refl, refl, refl)

-- its range is right, so it has its value at once and its thread runs on
pub a_request_in_a_cancelled_block : begin code 9 (in_cancelled (operands 4 2)) (item 0) (Some (i.Read 6))
    ≡ On (record (in_cancelled []) { current = record (within 1 (cell.Int (negsuc 0) ∷ int 1 ∷ [])) { place = 5 }; count = 8 })
a_request_in_a_cancelled_block = refl

-- ---- entries

abbrev pub now : Event → Entry
now event = record { stamp = 4; turn = 0; event = event }

abbrev pub after : List Entry → List Entry → Operation → Flat
after past todo o = record (waits_for o) { shared = record (first_shared 2 []) { past = past; todo = todo }; operations = o ∷ [] }

-- the worker has begun it, and no thread is ready
pub a_known_request_has_begun : rests (after [] (now (Know 2 3) ∷ []) (offered_as 3 reads)) ≡ On (after (now (Know 2 3) ∷ []) [] (as_begun (offered_as 3 reads)))
a_known_request_has_begun = refl

-- its thread is ready, with the value above the 1
abbrev pub answered : Entry → Store → Cell → Operation → Flat
answered e store value o = record (after (e ∷ []) [] o) {
  store = store;
  operations = [];
  ready = item 0 ∷ [];
  threads = record nobody { place = 5; operands = value ∷ int 1 ∷ [] } ∷ [];
}

pub a_request_has_its_answer : (rests (after [] (now (Reply 2 3 (Bytes (65 ∷ []))) ∷ []) (as_begun (offered_as 3 reads)))
    ≡ On (answered (now (Reply 2 3 (Bytes (65 ∷ [])))) (record two_globals { globals = pos 65 ∷ pos 9 ∷ [] }) (int 1) reads))
    × (rests (after [] (now (Reply 2 3 (Fault 1)) ∷ []) (as_begun (offered_as 3 writes))) ≡ On (answered (now (Reply 2 3 (Fault 1))) two_globals (cell.Int (negsuc 1)) writes))
a_request_has_its_answer = (refl, refl)

-- ---- the thread 0 cancels the block 0, in which the thread 1 waits for a read

abbrev pub cancelling : List Entry → Operation → Flat
cancelling todo o = record (here []) {
  shared = record (first_shared 2 []) { todo = todo };
  operations = record o { item = item 1 } ∷ [];
  current = record (within 0 []) { place = 4 };
  threads = nobody ∷ within 1 [] ∷ [];
  blocks = blocks true;
}

-- the worker was first: the request has begun, and the next look finds nothing to try
pub a_begun_request_stays : (calls_off (cancelling (now (Know 2 3) ∷ []) (offered_as 3 reads)) (block 0)
    ≡ On (record (cancelling [] (as_begun (offered_as 3 reads))) { shared = record (first_shared 2 []) { past = now (Know 2 3) ∷ [] } }))
    × (calls_off (cancelling [] (as_begun (offered_as 3 reads))) (block 0) ≡ On (record (cancelling [] (as_begun (offered_as 3 reads))) { current = record (within 0 []) { place = 5 }; count = 8 }))
a_begun_request_stays = (refl, refl)

-- or it was not
pub a_withdrawn_request_never_happens : calls_off (cancelling (now (Withdraw 2 3) ∷ []) (offered_as 3 reads)) (block 0)
    ≡ On (record (cancelling [] reads) {
      shared = record (first_shared 2 []) { past = now (Withdraw 2 3) ∷ [] };
      operations = [];
      ready = item 1 ∷ [];
      threads = nobody ∷ within 1 (cell.Int (negsuc 0) ∷ []) ∷ [];
    })
a_withdrawn_request_never_happens = refl

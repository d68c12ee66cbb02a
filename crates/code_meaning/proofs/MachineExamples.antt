-- What a move of the machine is made of, in small states.
-- Each definition that `exec` is made of, with operands that are there and with some that lack; then one move of each kind, from an
-- instruction to a thread that waits.
use Rattle.std.proofs.Common.{◌≡◌, refl, ℕ, pos, List, [], ◌∷◌, Option, Some, None, Bool, true, false, codes}
use Rattle.std.specs.Prelude.{negsuc, Ok, Err, ◌++◌}
use Rattle.ac_base.specs.declared.ends.Trap.TheVariants.{Index}
use Rattle.ac_base.specs.declared.ends.EndWord.{EndWord}
use Rattle.ac_base.specs.declared.ends.EndWord.TheVariants.{Finished, Trapped, OutOfSteps, Stalled}
use Rattle.core_state.specs.Moves.{Move, On, Over}
use Rattle.core_state.specs.Shared.{core_end, first_shared}
use Rattle.stack_code.specs.declared.instr.Instr.TheVariants as i
use Rattle.code_meaning.specs.Machine.{Flat, FlatEnd, with_starts, first_globals, first_item, first_core, shared_at_first, Caller, one_operand, block_at, one_more, told, text_at, dispatched, calls}
use Rattle.code_meaning.specs.Machine.{operates, given, resumed, arrived, rests}
use Rattle.cancel_scope.specs.declared.operation.Asked.TheVariants.{Send, Recv}
use Rattle.cancel_scope.specs.Outstanding.{started, offered_as}
use Rattle.ac_base.specs.declared.entry.Event.TheVariants.{Know}
use Rattle.ac_base.specs.declared.entry.Entry.{Entry}
use Rattle.ac_base.specs.declared.ends.Phase.TheVariants as phase
use Rattle.core_state.specs.Arrivals.{goes_on_waiting}
use Rattle.code_meaning.specs.Machine.{thread_at, with_block, stops, counted_in, arrives_at, arrives_in, counted_out, dies_in, dies, begin, exec_of}
use Rattle.code_meaning.specs.Machine.{Block, nobody, seen_of, with_shared, with_store, goes_to, or_trap, on_top, on_two, on_three, on_many, two_operands, always}
use Rattle.work_item.specs.declared.ids.FrameId.{FrameId}
use Rattle.work_item.specs.declared.ids.Item.{Item}
use Rattle.work_item.specs.declared.ids.BlockId.{BlockId}
use Rattle.work_item.specs.declared.cell.Cell.{Cell}
use Rattle.work_item.specs.declared.cell.Cell.TheVariants as cell
use Rattle.work_item.specs.Store.{Store, no_frames}
use Rattle.core_state.specs.Arithmetic.{sum_of, difference_of, negated}
use Rattle.stack_code.proofs.Examples.{code_of, code, entered, start}

-- ---- what the moves of the machine are made of

abbrev pub item : ℕ → Item
item number = record { number = number }

abbrev pub block : ℕ → BlockId
block number = record { number = number }

abbrev pub frame : ℕ → FrameId
frame number = record { number = number }

abbrev pub int : ℕ → Cell
int value = cell.Int (pos value)

-- the first thread runs, and stands at that address with these operands, after so many instructions
abbrev pub at_place : ℕ → List Cell → ℕ → Flat
at_place place operands count = record {
  shared = first_shared 2 [];
  store = no_frames 1;
  operations = [];
  running = Some (item 0);
  current = record nobody { place = place; operands = operands };
  ready = [];
  threads = nobody ∷ [];
  blocks = [];
  count = count;
}

abbrev pub here : List Cell → Flat
here operands = at_place 4 operands 7

abbrev pub over : EndWord → Bool → ℕ → Move Flat FlatEnd
over word idle count = Over (record { core = Some (core_end word idle (pos 0 ∷ []) [] (first_shared 2 [])); count = count })

pub threads_at_their_numbers : thread_at (nobody ∷ (here []).current ∷ []) (item 1) ∷ thread_at (nobody ∷ []) (item 1) ∷ [] ≡ (here []).current ∷ nobody ∷ []
threads_at_their_numbers = refl

pub what_is_seen : seen_of Finished true (here []) ≡ Some (core_end Finished true (pos 0 ∷ []) [] (first_shared 2 []))
what_is_seen = refl

pub parts_are_replaced : ((with_shared (here []) (record (first_shared 2 []) { steps = 3 })).shared.steps ≡ 3) × ((with_store (here []) (no_frames 2)).store ≡ no_frames 2)
parts_are_replaced = (refl, refl)

pub it_goes_there : goes_to 9 (here []) (int 1 ∷ []) ≡ On (at_place 9 (int 1 ∷ []) 8)
it_goes_there = refl

pub a_trap_ends_it : (or_trap {A = ℕ} (here []) (Err Index) (λ place. goes_to place (here []) []) ≡ over (Trapped Index) false 8)
    × (or_trap {A = ℕ} (here []) (Ok 9) (λ place. goes_to place (here []) []) ≡ On (at_place 9 [] 8))
a_trap_ends_it = (refl, refl)

-- where an operand lacks, nothing moves
pub operands_from_the_top : (on_top (here []) (λ x below. goes_to 9 (here []) (x ∷ x ∷ below)) (int 1 ∷ int 2 ∷ []) ≡ On (at_place 9 (int 1 ∷ int 1 ∷ int 2 ∷ []) 8))
    × (on_top (here []) (λ x below. goes_to 9 (here []) below) [] ≡ On (here []))
operands_from_the_top = (refl, refl)

pub two_and_three_operands : (on_two (here []) (λ x y below. goes_to 9 (here []) (x ∷ y ∷ below)) (int 2 ∷ int 1 ∷ int 7 ∷ []) ≡ On (at_place 9 (int 1 ∷ int 2 ∷ int 7 ∷ []) 8))
    × (on_two (here []) (λ x y below. goes_to 9 (here []) below) (int 1 ∷ []) ≡ On (here []))
    × (on_three (here []) (λ x y z below. goes_to 9 (here []) (x ∷ y ∷ z ∷ below)) (int 3 ∷ int 2 ∷ int 1 ∷ int 7 ∷ []) ≡ On (at_place 9 (int 1 ∷ int 2 ∷ int 3 ∷ int 7 ∷ []) 8))
    × (on_three (here []) (λ x y z below. goes_to 9 (here []) below) (int 2 ∷ int 1 ∷ []) ≡ On (here []))
two_and_three_operands = (refl, refl, refl, refl)

pub so_many_operands : (on_many (here []) 2 (λ args below. goes_to 9 (here []) (args ++ below)) (int 2 ∷ int 1 ∷ int 7 ∷ []) ≡ On (at_place 9 (int 1 ∷ int 2 ∷ int 7 ∷ []) 8))
    × (on_many (here []) 2 (λ args below. goes_to 9 (here []) below) (int 1 ∷ []) ≡ On (here []))
so_many_operands = (refl, refl)

pub an_operator : (always sum_of (pos 1) (pos 2) ≡ Ok (pos 3)) × (two_operands (here (int 3 ∷ int 1 ∷ [])) (always difference_of) ≡ On (at_place 5 (cell.Int (negsuc 1) ∷ []) 8))
an_operator = (refl, refl)

-- the thread 0 is the owner of this block
abbrev pub owned : ℕ → Bool → Block
owned count waits = record { parent = None; owner = item 0; count = count; waits = waits; cancelled = false }

pub blocks_at_their_numbers : (with_block (None ∷ None ∷ []) (block 1) (Some (owned 0 false)) ≡ None ∷ Some (owned 0 false) ∷ [])
    × (counted_in (Some (owned 1 false) ∷ []) (Some (block 0)) ≡ Some (owned 2 false) ∷ []) × (counted_in (Some (owned 1 false) ∷ []) None ≡ Some (owned 1 false) ∷ [])
blocks_at_their_numbers = (refl, refl, refl)

pub it_stops : stops (here []) (item 0) (record nobody { place = 5 }) (item 1 ∷ []) (None ∷ [])
    ≡ record (here []) { running = None; current = nobody; ready = item 1 ∷ []; threads = record nobody { place = 5 } ∷ []; blocks = None ∷ []; count = 8 }
it_stops = refl

-- the owner has come to the finish, where so many threads of the block live
abbrev pub at_finish : ℕ → Flat
at_finish count = record (here []) { current = record nobody { place = 4; block = Some (block 0) }; blocks = Some (owned count false) ∷ [] }

pub it_arrives : (arrives_in (at_finish 0) (item 0) (block 0) (Some (owned 0 false)) ≡ On (record (here []) { current = record nobody { place = 5 }; blocks = None ∷ []; count = 8 }))
    × (arrives_at false (at_finish 2) (item 0) (block 0) (owned 2 false)
    ≡ On (record (here []) { running = None; current = nobody; threads = record nobody { place = 5 } ∷ []; blocks = Some (owned 2 true) ∷ []; count = 8 }))
    × (arrives_in (here []) (item 0) (block 0) None ≡ On (here []))
it_arrives = (refl, refl, refl)

-- the thread 1 ends in a block whose owner waits, where so many threads of the block live
abbrev pub ending : ℕ → Flat
ending count = record (here []) {
  running = Some (item 1);
  current = record nobody { place = 4; block = Some (block 0) };
  threads = nobody ∷ nobody ∷ [];
  blocks = Some (owned count true) ∷ [];
}

abbrev pub dead : ℕ → List Item → Option Block → Flat
dead count ready x = record (ending count) { running = None; current = nobody; ready = ready; blocks = x ∷ []; count = 8 }

pub the_last_thread_dies : (dies (ending 1) (item 1) (Some (block 0)) ≡ dead 1 (item 0 ∷ []) None) × (counted_out true (ending 1) (item 1) (block 0) (owned 1 true) ≡ dead 1 (item 0 ∷ []) None)
    × (dies (ending 1) (item 1) None ≡ ending 1)
the_last_thread_dies = (refl, refl, refl)

pub another_thread_dies : (dies_in (ending 2) (item 1) (block 0) (Some (owned 2 true)) ≡ dead 2 [] (Some (owned 1 true)))
    × (counted_out false (ending 2) (item 1) (block 0) (owned 2 true) ≡ dead 2 [] (Some (owned 1 true))) × (dies_in (ending 2) (item 1) (block 0) None ≡ ending 2)
another_thread_dies = (refl, refl, refl)

pub an_instruction_begins : (begin code 0 (here []) (item 0) (Some (i.Push (pos 3))) ≡ On (at_place 5 (int 3 ∷ []) 8)) × (begin code 0 (here []) (item 0) (Some i.Step) ≡ over OutOfSteps false 7)
    × (begin code 0 (here []) (item 0) None ≡ On (here []))
an_instruction_begins = (refl, refl, refl)

-- no thread runs or is ready; and one runs, at the address of the `Jump`
pub one_move : (exec_of code 0 (here []) None ≡ over Stalled true 7)
    × (exec_of (code_of 0 (i.Step ∷ i.Step ∷ i.Step ∷ i.Step ∷ i.Jump 9 ∷ [])) 0 (here []) (Some (item 0)) ≡ On (at_place 9 [] 8))
one_move = (refl, refl)

pub globals_at_first : (with_starts (start 1 (pos 5) ∷ []) (pos 8 ∷ pos 9 ∷ []) ≡ pos 8 ∷ pos 5 ∷ []) × (first_globals (code_of 0 []) ≡ pos 0 ∷ pos 5 ∷ [])
globals_at_first = (refl, refl)

pub a_core_at_first : (first_item ≡ item 0) × (first_core (record (entered 0) { at = 6 }) (first_shared 2 []) (no_frames 1)
    ≡ record (at_place 0 [] 0) { running = None; ready = item 0 ∷ []; threads = record nobody { place = 6 } ∷ [] })
    × (shared_at_first (record (code_of 0 []) { ends = record { from = 0; to = 1 } ∷ [] }) 1 [] ≡ first_shared 2 [])
a_core_at_first = (refl, refl, refl)

-- ---- more of what moves are made of

pub more_parts_of_moves : (one_operand (here (int 3 ∷ [])) negated ≡ On (at_place 5 (cell.Int (negsuc 2) ∷ []) 8)) × (block_at (None ∷ Some (owned 0 false) ∷ []) (block 1) ≡ Some (owned 0 false))
    × (one_more (Some (owned 1 true)) ≡ Some (owned 2 true)) × (told 3 None ≡ record { core = None; count = 3 }) × (text_at code 0 ∷ text_at code 1 ∷ [] ≡ codes "%d\n" ∷ [] ∷ [])
    × (dispatched (here []) [] ≡ over Stalled true 7)
more_parts_of_moves = (refl, refl, refl, refl, refl, refl)

-- where it goes on, in which frame, and with which operands
abbrev pub caller : Caller
caller = record { place = 5; frame = frame 0; operands = int 1 ∷ [] }

pub a_call : (calls (here []) (Some (entered 2)) [] (int 1 ∷ [])
    ≡ On (record (here []) {
      store = record { globals = pos 0 ∷ []; frames = Some (record { parent = None; cells = int 0 ∷ int 0 ∷ []; over = false }) ∷ [] };
      current = record { place = 0; frame = frame 0; operands = []; callers = caller ∷ []; block = None };
      count = 8;
    }))
    × (calls (here []) None [] [] ≡ On (here []))
a_call = (refl, refl)

-- ---- operations

-- the first thread waits for the end of a send of 5 on the channel 0, with a 1 below the value that will come
abbrev pub sending : Flat
sending = record (at_place 0 [] 8) {
  operations = started 0 (Send (pos 5 ∷ [])) (item 0) ∷ [];
  running = None;
  current = nobody;
  threads = record nobody { place = 5; operands = int 1 ∷ [] } ∷ [];
}

pub it_waits_for_its_end : (begin code 9 (here (int 5 ∷ int 1 ∷ [])) (item 0) (Some (i.Send 0)) ≡ On sending)
    × (operates (here []) (item 0) 0 (Send (pos 5 ∷ [])) (int 1 ∷ []) ≡ sending)
it_waits_for_its_end = (refl, refl)

-- an array is sent whole, as it is now
abbrev pub three : Store
three = record { globals = pos 4 ∷ pos 0 ∷ negsuc 5 ∷ []; frames = [] }

pub an_array_is_sent_whole : begin code 9 (with_store (here (cell.Array (record { home = None; start = 0; len = 3 }) ∷ int 1 ∷ [])) three) (item 0) (Some (i.Send 0))
    ≡ On (record sending { store = three; operations = started 0 (Send (pos 4 ∷ pos 0 ∷ negsuc 5 ∷ [])) (item 0) ∷ [] })
an_array_is_sent_whole = refl

pub a_receive_names_its_place : begin code 9 (here (cell.Array (record { home = None; start = 0; len = 1 }) ∷ int 1 ∷ [])) (item 0) (Some (i.Recv 0))
    ≡ On (record sending { operations = started 0 (Recv (record { home = None; start = 0; len = 1 })) (item 0) ∷ [] })
a_receive_names_its_place = refl

-- nothing is ready, and no entry comes in
pub it_waits : rests sending ≡ Over (record {
  core = Some (record {
    word = Stalled;
    steps = 0;
    output = [];
    globals = pos 0 ∷ [];
    waiting = record { link = 0; phase = phase.Waiting } ∷ [];
    idle = true;
  });
  count = 8;
})
it_waits = refl

-- the send was offered, and an entry tells that it was taken
abbrev pub offered : List Entry → Flat
offered todo = record sending {
  shared = record (first_shared 2 []) { todo = todo };
  operations = offered_as 3 (started 0 (Send (pos 5 ∷ [])) (item 0)) ∷ [];
}

abbrev pub known : Entry
known = record { stamp = 4; turn = 0; event = Know 0 3 }

-- it has ended: its thread is ready, with OK above the 1
pub the_send_has_ended : rests (offered (known ∷ [])) ≡ On (record sending {
  shared = record (first_shared 2 []) { past = known ∷ [] };
  operations = [];
  ready = item 0 ∷ [];
  threads = record nobody { place = 5; operands = int 0 ∷ int 1 ∷ [] } ∷ [];
})
the_send_has_ended = refl

pub what_an_entry_makes : (arrived sending (first_shared 2 []) (goes_on_waiting (no_frames 1) []) ≡ record sending { operations = [] })
    × (resumed sending (int 0) None ≡ sending) × ((given (int 0) nobody).operands ≡ int 0 ∷ [])
what_an_entry_makes = (refl, refl, refl)

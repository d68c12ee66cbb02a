-- Cancelled blocks in the machine: a thread that cancels, operations that end by it, and one that starts after it.
-- Threads and blocks stand as in the examples of the source's cancel; here a block is marked in the table, and a mark is looked for from a
-- block outwards.
use Rattle.std.proofs.Common.{◌≡◌, refl, ℕ, pos, List, [], ◌∷◌, Option, Some, None, Bool, true, false}
use Rattle.std.specs.Prelude.{negsuc}
use Rattle.ac_base.specs.declared.ends.EndWord.TheVariants.{Stalled}
use Rattle.ac_base.specs.declared.ends.Phase.TheVariants as phase
use Rattle.ac_base.specs.declared.entry.Event.TheVariants.{Withdraw, Know}
use Rattle.ac_base.specs.declared.entry.Event.{Event}
use Rattle.ac_base.specs.declared.entry.Entry.{Entry}
use Rattle.work_item.specs.declared.ids.BlockId.{BlockId}
use Rattle.work_item.specs.declared.cell.Cell.{Cell}
use Rattle.work_item.specs.declared.cell.Cell.TheVariants as cell
use Rattle.cancel_scope.specs.declared.operation.Asked.TheVariants.{Send}
use Rattle.cancel_scope.specs.declared.operation.Operation.{Operation}
use Rattle.cancel_scope.specs.Outstanding.{started, offered_as}
use Rattle.core_state.specs.Moves.{On, Over, and_then}
use Rattle.core_state.specs.Shared.{first_shared}
use Rattle.stack_code.specs.declared.instr.Instr.TheVariants as i
use Rattle.stack_code.proofs.Examples.{code}
use Rattle.code_meaning.specs.Machine.{Block, Thread, Flat, nobody, begin, operates, parent_of, is_marked, with_mark, few_round, round, is_cancelled}
use Rattle.code_meaning.specs.Machine.{is_inside, marked, asks_in, asks, calls_off}
use Rattle.code_meaning.proofs.MachineExamples.{item, block, int, here}

-- ---- three blocks: the block 1 lies in the block 0, and the block 2 in none

abbrev pub in_block : Option BlockId → Bool → Option Block
in_block parent mark = Some (record { parent = parent; owner = item 0; count = 0; waits = false; cancelled = mark })

abbrev pub blocks : Bool → List (Option Block)
blocks mark = in_block None mark ∷ in_block (Some (block 0)) false ∷ in_block None false ∷ []

pub the_blocks_round_a_block : (round (blocks false) (Some (block 1)) ≡ block 1 ∷ block 0 ∷ []) × (round (blocks false) (Some (block 2)) ≡ block 2 ∷ []) × (round (blocks false) None ≡ [])
    × (few_round 1 (blocks false) (Some (block 1)) ≡ block 1 ∷ []) × (parent_of (in_block (Some (block 0)) false) ≡ Some (block 0)) × (parent_of None ≡ None)
the_blocks_round_a_block = (refl, refl, refl, refl, refl, refl)

-- what lies in a marked block is cancelled too, and what lies beside it is not
pub a_mark_reaches_inwards : (is_cancelled (blocks true) (Some (block 0)) ≡ true) × (is_cancelled (blocks true) (Some (block 1)) ≡ true) × (is_cancelled (blocks true) (Some (block 2)) ≡ false)
    × (is_cancelled (blocks false) (Some (block 1)) ≡ false) × (is_cancelled (blocks true) None ≡ false)
a_mark_reaches_inwards = (refl, refl, refl, refl, refl)

pub a_mark : (with_mark (in_block None false) ≡ in_block None true) × (with_mark None ≡ None) × (is_marked (in_block None true) ≡ true) × (is_marked None ≡ false)
a_mark = (refl, refl, refl, refl)

-- ---- two sends wait, that of the thread 1 in the block 1 and that of the thread 2 in the block 2; the thread 0 runs in the block 0

abbrev pub of_thread : ℕ → Operation
of_thread number = started 0 (Send (pos 5 ∷ [])) (item number)

abbrev pub within : ℕ → List Cell → Thread
within number operands = record nobody { operands = operands; block = Some (block number) }

abbrev pub core : List Entry → List Operation → Flat
core todo operations = record (here []) {
  shared = record (first_shared 2 []) { todo = todo };
  operations = operations;
  current = record (within 0 []) { place = 4 };
  threads = nobody ∷ within 1 [] ∷ within 2 [] ∷ [];
  blocks = blocks false;
}

pub who_is_inside : (is_inside (core [] []) (block 0) (of_thread 1) ≡ true) × (is_inside (core [] []) (block 1) (of_thread 1) ≡ true) × (is_inside (core [] []) (block 0) (of_thread 2) ≡ false)
who_is_inside = (refl, refl, refl)

-- the block 0 is marked, and the thread 1 has this value and is ready; the running one stays at its instruction
abbrev pub ended : Cell → List Entry → List Operation → Flat
ended value past operations = record (core [] operations) {
  shared = record (first_shared 2 []) { past = past };
  ready = item 1 ∷ [];
  threads = nobody ∷ within 1 (value ∷ []) ∷ within 2 [] ∷ [];
  blocks = blocks true;
}

pub what_waits_is_cancelled : calls_off (core [] (of_thread 2 ∷ of_thread 1 ∷ [])) (block 0) ≡ On (ended (cell.Int (negsuc 0)) [] (of_thread 2 ∷ []))
what_waits_is_cancelled = refl

-- nothing is left to try, so it goes on, and the instruction is counted
pub then_it_goes_on : (calls_off (ended (int 0) [] (of_thread 2 ∷ [])) (block 0)
    ≡ On (record (ended (int 0) [] (of_thread 2 ∷ [])) { current = record (within 0 []) { place = 5 }; count = 8 }))
    × (marked (core [] []) (block 0) ≡ record (core [] []) { blocks = blocks true })
then_it_goes_on = (refl, refl)

-- ---- the send of the thread 1 is offered as the number 3

abbrev pub at_turn : ℕ → Event → Entry
at_turn turn event = record { stamp = 4; turn = turn; event = event }

abbrev pub offered : Operation
offered = offered_as 3 (of_thread 1)

pub the_next_entry_is_its_outcome : (calls_off (core (at_turn 0 (Withdraw 0 3) ∷ []) (offered ∷ [])) (block 0) ≡ On (ended (cell.Int (negsuc 0)) (at_turn 0 (Withdraw 0 3) ∷ []) []))
    × (calls_off (core (at_turn 0 (Know 0 3) ∷ []) (offered ∷ [])) (block 0) ≡ On (ended (int 0) (at_turn 0 (Know 0 3) ∷ []) []))
the_next_entry_is_its_outcome = (refl, refl)

-- with no entry the run stops there, the instruction is counted, and the core is not idle; with another one it has no end
pub it_needs_an_entry : (calls_off (core [] (offered ∷ [])) (block 0) ≡ Over (record {
  core = Some (record {
    word = Stalled;
    steps = 0;
    output = [];
    globals = pos 0 ∷ [];
    waiting = record { link = 0; phase = phase.Offered } ∷ [];
    idle = false;
  });
  count = 8;
}))
    × (calls_off (core (at_turn 0 (Withdraw 0 2) ∷ []) (offered ∷ [])) (block 0) ≡ Over (record { core = None; count = 8 }))
it_needs_an_entry = (refl, refl)

-- ---- operations that start

-- in a cancelled block there is a value at once, and the thread runs on; in another it waits
pub an_operation_starts : (asks (record (core [] []) { blocks = blocks true }) (item 0) 0 (Send (pos 5 ∷ [])) (int 1 ∷ [])
    ≡ On (record (core [] []) { blocks = blocks true; current = record (within 0 []) { place = 5; operands = cell.Int (negsuc 0) ∷ int 1 ∷ [] }; count = 8 }))
    × (asks (core [] []) (item 0) 0 (Send (pos 5 ∷ [])) (int 1 ∷ []) ≡ On (operates (core [] []) (item 0) 0 (Send (pos 5 ∷ [])) (int 1 ∷ [])))
    × (asks_in true (here []) (item 0) 0 (Send (pos 5 ∷ [])) [] ≡ On (record (here []) { current = record nobody { place = 5; operands = cell.Int (negsuc 0) ∷ [] }; count = 8 }))
an_operation_starts = (refl, refl, refl)

-- ---- the instruction names a slot that keeps the number of a block

abbrev pub with_slot : Cell → Flat
with_slot value = record (core [] (of_thread 1 ∷ [])) {
  store = record { globals = pos 0 ∷ []; frames = Some (record { parent = None; cells = value ∷ []; over = false }) ∷ [] };
}

-- two moves: one for the send, and one with which it goes on
pub the_block_of_the_slot : (begin code 9 (with_slot (cell.Block (block 2))) (item 0) (Some (i.Cancel 0 0))
    ≡ On (record (with_slot (cell.Block (block 2))) {
      current = record (within 0 []) { place = 5 };
      blocks = in_block None false ∷ in_block (Some (block 0)) false ∷ in_block None true ∷ [];
      count = 8;
    }))
    × (and_then (begin code 9 (with_slot (cell.Block (block 1))) (item 0) (Some (i.Cancel 0 0))) (λ m. begin code 9 m (item 0) (Some (i.Cancel 0 0)))
    ≡ On (record (with_slot (cell.Block (block 1))) {
      operations = [];
      current = record (within 0 []) { place = 5 };
      ready = item 1 ∷ [];
      threads = nobody ∷ within 1 (cell.Int (negsuc 0) ∷ []) ∷ within 2 [] ∷ [];
      blocks = in_block None false ∷ in_block (Some (block 0)) true ∷ in_block None false ∷ [];
      count = 8;
    }))
the_block_of_the_slot = (refl, refl)

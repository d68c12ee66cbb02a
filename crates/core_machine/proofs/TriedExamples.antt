-- For which offers cores ask for outcomes, and what comes of them, by example: one thread stands at a cancel, and two others wait.
-- Those that hold do so by computing.
use Rattle.std.proofs.Common.{◌≡◌, refl, pos, true, false, List, [], ◌∷◌, Some, None, sym, ap, subst}
use Rattle.std.specs.Prelude.{negsuc, find, slice_index_or, slice_set}
use Rattle.ac_base.specs.declared.entry.Entry.{Entry}
use Rattle.ac_base.specs.declared.entry.Event.TheVariants as event
use Rattle.ac_base.specs.declared.entry.Payload.TheVariants as payload
use Rattle.work_item.specs.declared.cell.Cell.{Cell}
use Rattle.work_item.specs.declared.cell.Cell.TheVariants as cell
use Rattle.cancel_scope.specs.declared.operation.Operation.{Operation}
use Rattle.cancel_scope.specs.declared.operation.Asked.TheVariants.{Read}
use Rattle.cancel_scope.specs.declared.operation.Progress.TheVariants.{Waiting, Offered, Started}
use Rattle.cancel_scope.specs.Outstanding.{as_begun, offered_as, started}
use Rattle.work_item.specs.Store.{no_int, no_place}
use Rattle.core_state.specs.Moves.{Move, On, Over}
use Rattle.core_state.specs.Arrivals.{cancelled}
use Rattle.core_state.specs.Cancelling.{NeverHappens, IsTaken, is_to_try}
use Rattle.core_state.specs.Shared.{first_shared}
use Rattle.stack_code.specs.declared.instr.Instr.TheVariants as i
use Rattle.stack_code.specs.Parts.{Parts}
use Rattle.stack_code.proofs.Examples as examples
use Rattle.code_meaning.specs.Machine.{Flat, FlatEnd, exec, given, is_inside, marked, thread_at}
use Rattle.code_meaning.proofs.CancelExamples.{ended, of_thread, with_slot, within}
use Rattle.code_meaning.proofs.MachineExamples.{block, item}
use Rattle.replay_laws.specs.Given.{Passes, asks, asks_at, asks_by, asks_of, is_asking, is_on_offer, passes_by, passes_first}
use Rattle.core_machine.specs.declared.tried.Tried.{Tried}
use Rattle.core_machine.specs.Machine.{Machine}
use Rattle.core_machine.specs.Tried.{HasDecided, cancelled_at, cancelled_by, cancelled_in, tried_as, tried_in, tried_of, tried_within}

-- ---- the thread 0 stands at a cancel of the block 0; the thread 1 waits in the block 1, which lies in it, and the thread 2 beside it

abbrev code : Parts
code = record examples.code { instrs = i.Cancel 0 0 ∷ i.Step ∷ [] }

abbrev its_turn : List Entry → Flat
its_turn past = record (with_slot (cell.Block (block 0))) { shared = record (first_shared 2 []) { past = past }; current = record (within 0 []) { place = 0 } }

abbrev core : List Operation → Flat
core operations = record (its_turn []) { operations = operations }

abbrev offered : Operation
offered = offered_as 3 (of_thread 1)

abbrev its_offer : Tried
its_offer = record { link = 0; number = 3 }

pub which_block_it_cancels : (cancelled_in code (core []) ≡ Some (block 0)) × (cancelled_at code (core []) None ≡ None) × (cancelled_at code (core []) (Some (item 0)) ≡ Some (block 0))
    × (cancelled_in code (record (core []) { current = record (within 0 []) { place = 1 } }) ≡ None) × (cancelled_by (core []) (Some (i.Cancel 0 0)) ≡ Some (block 0))
    × (cancelled_by (core []) (Some i.Step) ≡ None) × (cancelled_by (core []) None ≡ None)
which_block_it_cancels = (refl, refl, refl, refl, refl, refl, refl)

-- an offer is decided elsewhere; one that waits has none
pub which_offer_is_tried : (tried_as 0 (Offered 3) ≡ Some its_offer) × (tried_as 0 Waiting ≡ None) × (tried_as 0 (Started 3) ≡ None) × (tried_in (Some offered) ≡ Some its_offer) × (tried_in (Some
    (of_thread 1)) ≡ None)
    × (tried_in None ≡ None)
which_offer_is_tried = (refl, refl, refl, refl, refl, refl)

-- it is that of the oldest operation within, and what lies beside the block is not asked for
pub it_asks_for_the_oldest : (tried_of code (On (core (offered ∷ []))) ≡ Some its_offer) × (tried_of code (On (core (offered_as 2 (of_thread 2) ∷ offered ∷ []))) ≡ Some its_offer)
    × (tried_of code (On (core (offered ∷ of_thread 1 ∷ []))) ≡ Some its_offer) × (tried_within (core (offered ∷ [])) (Some (block 1)) ≡ Some its_offer)
it_asks_for_the_oldest = (refl, refl, refl, refl)

-- what has begun is left out, and the next is asked for
abbrev reads : Operation
reads = offered_as 1 (started 2 (Read 6 9 no_place) (item 1))

pub what_has_begun_is_left_out : (tried_of code (On (core (as_begun reads ∷ offered ∷ []))) ≡ Some its_offer) × (tried_of code (On (core (as_begun reads ∷ []))) ≡ None)
    × (tried_of code (On (core (reads ∷ offered ∷ []))) ≡ Some (record { link = 2; number = 1 }))
what_has_begun_is_left_out = (refl, refl, refl)

pub it_asks_for_none : (tried_of code (On (core (of_thread 1 ∷ offered ∷ []))) ≡ None) × (tried_of code (On (core (offered_as 2 (of_thread 2) ∷ []))) ≡ None)
    × (tried_within (core (offered ∷ [])) (Some (block 2)) ≡ None) × (tried_within (core (offered ∷ [])) None ≡ None)
    × (tried_of code (On (record (core (offered ∷ [])) { running = None })) ≡ None) × (tried_of code (Over (record { core = None; count = 7 })) ≡ None)
it_asks_for_none = (refl, refl, refl, refl, refl, refl)

-- ---- where an entry may come in

pub whether_it_asks : (is_asking code (core (offered ∷ [])) ≡ true) × (is_asking code (core (of_thread 1 ∷ offered ∷ [])) ≡ false) × (asks code (core (offered ∷ [])) None ≡ false)
    × (asks_by (core (offered ∷ [])) (Some i.Step) ≡ false) × (asks_at (core (offered ∷ [])) (block 0) ≡ true) × (asks_at (core (offered ∷ [])) (block 2) ≡ false)
    × (asks_of (Some offered) ≡ true) × (asks_of None ≡ false) × (is_on_offer (Offered 3) ≡ true) × (is_on_offer Waiting ≡ false) × (is_on_offer (Started 3) ≡ false)
whether_it_asks = (refl, refl, refl, refl, refl, refl, refl, refl, refl, refl, refl)

-- no thread runs, in the turn 0
abbrev at_point : Flat
at_point = record (core []) { running = None }

abbrev its_end : FlatEnd
its_end = record { core = None; count = 7 }

-- an entry of that turn could come in, and one of another could not; at a cancel that asks one could in any turn
pub whether_it_is_passed : (passes_by code 0 at_point ≡ false) × (passes_by code 1 at_point ≡ true) × (passes_by code 0 (core []) ≡ true)
    × (passes_by code 1 (core (offered ∷ [])) ≡ false) × (passes_first code 1 (On at_point) ≡ true) × (passes_first code 0 (On at_point) ≡ false)
    × (passes_first code 0 (Over its_end) ≡ true)
whether_it_is_passed = (refl, refl, refl, refl, refl, refl, refl)

pub moves_that_pass : Passes code 9 0 0 (On at_point) (On at_point) × Passes code 9 0 1 (On (core [])) (exec code 9 (core [])) × Passes code 9 0 2 (Over its_end) (Over its_end)
moves_that_pass = (refl, (refl, refl), refl)

pub a_move_at_which_one_comes_in : Passes code 9 0 1 (On at_point) (exec code 9 at_point) → ⊥
a_move_at_which_one_comes_in h = let no : false ≡ true = h.0 in cc

-- ---- its outcome

abbrev offers : Entry
offers = record { stamp = 1; turn = 0; event = event.Offer 0 3 (payload.Int (pos 5 ∷ [])) }

abbrev withdraws : Entry
withdraws = record { stamp = 4; turn = 0; event = event.Withdraw 0 3 }

abbrev knows : Entry
knows = record { stamp = 4; turn = 0; event = event.Know 0 3 }

abbrev there : Flat
there = record (its_turn (offers ∷ [])) { operations = offered ∷ [] }

abbrev before : Machine
before = record { code = code; core = 0; bound = 9; journal = offers ∷ []; state = On there; room = true }

-- the block is marked, the thread 1 has that value and is ready, and the thread 0 stays where it was
abbrev after : Entry → Cell → Machine
after entry value = record before {
  journal = offers ∷ entry ∷ [];
  state = On (record (ended value (offers ∷ entry ∷ []) []) { store = (its_turn []).store; current = record (within 0 []) { place = 0 } });
  room = false;
}

pub it_was_withdrawn : HasDecided before its_offer NeverHappens (event.Withdraw 0 3) 4 (after withdraws (cell.Int (negsuc 0)))
it_was_withdrawn = record {
  flat = there;
  stood = refl;
  block = block 0;
  cancels = refl;
  operation = offered;
  found = refl;
  offered = refl;
  state = refl;
  journal = refl;
  code = refl;
  core = refl;
  bound = refl;
}

pub it_was_taken : HasDecided before its_offer IsTaken (event.Know 0 3) 4 (after knows (cell.Int (pos 0)))
it_was_taken = record {
  flat = there;
  stood = refl;
  block = block 0;
  cancels = refl;
  operation = offered;
  found = refl;
  offered = refl;
  state = refl;
  journal = refl;
  code = refl;
  core = refl;
  bound = refl;
}

-- a request that was taken has begun: the block is marked, and its thread waits on
abbrev before_it : Machine
before_it = record before { state = On (record there { operations = reads ∷ [] }) }

abbrev knows_it : Entry
knows_it = record { stamp = 4; turn = 0; event = event.Know 2 1 }

pub a_request_was_taken : HasDecided before_it (record { link = 2; number = 1 }) IsTaken (event.Know 2 1) 4 (record before_it {
  journal = offers ∷ knows_it ∷ [];
  state = On (record (marked there (block 0)) { shared = record there.shared { past = offers ∷ knows_it ∷ [] }; operations = as_begun reads ∷ [] });
})
a_request_was_taken = record {
  flat = record there { operations = reads ∷ [] };
  stood = refl;
  block = block 0;
  cancels = refl;
  operation = reads;
  found = refl;
  offered = refl;
  state = refl;
  journal = refl;
  code = refl;
  core = refl;
  bound = refl;
}

-- the value of the thread 1
abbrev value_of : Move Flat FlatEnd → Cell
value_of (On m) = slice_index_or (thread_at m.threads (item 1)).operands 0 no_int
value_of (Over x) = no_int

-- one that was withdrawn does not give the value of one that was taken
pub the_value_of_another_outcome : HasDecided before its_offer NeverHappens (event.Withdraw 0 3) 4 (after withdraws (cell.Int (pos 0))) → ⊥
the_value_of_another_outcome h =
    let flat : there ≡ h.flat = let same : On there ≡ On h.flat = h.stood in cc in
    let its_block : block 0 ≡ h.block = let same : Some (block 0) ≡ Some h.block = subst (λ f. cancelled_in code f ≡ Some h.block) (sym flat) h.cancels in cc in
    let its : offered ≡ h.operation =
    let same : Some offered ≡ Some h.operation = subst (λ b. find (is_to_try (is_inside there b)) there.operations ≡ Some h.operation) (sym its_block)
    (subst (λ (f : Flat). find (is_to_try (is_inside f h.block)) f.operations ≡ Some h.operation) (sym flat) h.found) in
    cc in
    let e : cell.Int (pos 0) ≡ with_value h.flat h.operation = ap value_of h.state in
    let no : cell.Int (pos 0) ≡ cell.Int (negsuc 0) = subst (λ o. cell.Int (pos 0) ≡ with_value there o) (sym its) (subst (λ f. cell.Int (pos 0) ≡ with_value f h.operation) (sym flat) e) in
    cc
  where
    with_value : Flat → Operation → Cell
    with_value m o = slice_index_or (thread_at (slice_set m.threads o.item.number (given (cell.Int cancelled) (thread_at m.threads o.item))) (item 1)).operands 0 no_int

-- an outcome without its entry
pub it_is_not_recorded : HasDecided before its_offer IsTaken (event.Know 0 3) 4 (record (after knows (cell.Int (pos 0))) { journal = offers ∷ [] }) → ⊥
it_is_not_recorded h = let e = h.journal in cc

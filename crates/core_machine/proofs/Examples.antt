-- What callers see of a core, and the activations, blocks and threads that stand for those of its code.
-- Those that hold do so by computing.
use Rattle.std.proofs.Common.{◌≡◌, ℕ, zero, suc, ◌+◌, length, refl, ap, pos, Bool, true, false, List, [], ◌∷◌, Some, None, arith, slice_index_or}
use Rattle.std.proofs.lemmas.List.Elements.{All-nil}
use Rattle.ac_base.specs.declared.entry.Entry.{Entry}
use Rattle.ac_base.specs.declared.entry.Event.TheVariants as event
use Rattle.ac_base.specs.declared.entry.Payload.TheVariants as payload
use Rattle.ac_base.specs.declared.entry.Answer.TheVariants as answer
use Rattle.ac_base.specs.declared.ends.Phase.TheVariants.{Waiting}
use Rattle.cancel_scope.specs.declared.operation.Asked.TheVariants.{Send, Recv, Read, Write}
use Rattle.cancel_scope.specs.declared.operation.Operation.{Operation}
use Rattle.cancel_scope.specs.Outstanding.{started, offered_as, as_begun, is_outgoing, is_waiting}
use Rattle.ac_base.specs.declared.ends.EndWord.TheVariants.{Finished, Trapped, OutOfSteps, Stalled}
use Rattle.ac_base.specs.declared.ends.Trap.TheVariants.{ZeroDivisor}
use Rattle.ac_base.specs.declared.ends.CoreEnd.{CoreEnd}
use Rattle.work_item.specs.declared.ids.FrameId.{FrameId}
use Rattle.work_item.specs.declared.ids.Item.{Item}
use Rattle.work_item.specs.declared.cell.Cell.{Cell}
use Rattle.work_item.specs.declared.cell.Cell.TheVariants as cell
use Rattle.work_item.specs.Store.{Store, no_frames}
use Rattle.core_scheduler.specs.Schedule.{Schedule}
use Rattle.core_state.specs.Moves.{On, Over}
use Rattle.core_state.specs.Shared.{core_end, first_shared}
use Rattle.code_meaning.specs.Machine.{Block, Caller, Flat, Thread, nobody}
use Rattle.code_safety.specs.Living.{LivesAs, as_running, as_ready, as_operating, as_waiting}
use Rattle.code_safety.proofs.Lives.{one_is}
use Rattle.thread_table.specs.Table.{HasPlace}
use Rattle.core_machine.specs.declared.ending.Ending.TheVariants as ending
use Rattle.core_machine.specs.Words.{word_of}
use Rattle.core_machine.specs.Machine.{none_ready, is_resting, is_idle, has_ended, IsSeen, waiting_at_end, waiting_of, waits, HasEnded}
use Rattle.core_machine.specs.Blocks.{blocks_of, block_of}
use Rattle.core_machine.specs.Tracks.{is_offer_of, is_end_of, is_know_of, is_reply_of, offers_of, ends_of, knows_of, replies_of, standing_of, begun_of}
use Rattle.core_machine.specs.Tracks.{is_transfer, keeps_limits, IsPlaced, Tracks}
use Rattle.core_machine.specs.inner.Changes.{with_woken, item_of}
use Rattle.core_machine.specs.declared.running.Running.{Running}
use Rattle.core_machine.specs.State.{shared_of, thread_of, flat_of, end_or, state_of, own_link, has_room, machine_of, HavePlaces, HasSeats}

-- ---- how a core has ended

pub it_finished : word_of ending.Finished ≡ Finished
it_finished = refl

pub it_trapped : word_of (ending.Trapped ZeroDivisor) ≡ Trapped ZeroDivisor
it_trapped = refl

pub it_is_out_of_steps : word_of ending.OutOfSteps ≡ OutOfSteps
it_is_out_of_steps = refl

-- ---- what callers see

abbrev pub first : Item
first = record { number = 0 }

abbrev pub second : Item
second = record { number = 1 }

-- a core that has not ended: two globals of 0, one step, three instructions
abbrev pub store : Store
store = no_frames 2

abbrev pub running : Flat
running = record {
  shared = record (first_shared 2 []) { steps = 1; turn = 1 };
  operations = [];
  store = store;
  running = None;
  current = nobody;
  ready = [];
  threads = [];
  blocks = [];
  count = 3;
}

abbrev pub its_end : CoreEnd
its_end = core_end Stalled true (pos 0 ∷ pos 0 ∷ []) [] running.shared

pub it_is_seen_as_stalled : IsSeen (On running) (record { core = its_end; instructions = 3 })
it_is_seen_as_stalled = (refl, refl)

pub with_all_instructions : IsSeen (On running) (record { core = its_end; instructions = 2 }) → ⊥
with_all_instructions h = let e = h.1 in cc

abbrev pub finished : CoreEnd
finished = core_end Finished false (pos 0 ∷ pos 0 ∷ []) [] running.shared

pub it_is_seen_as_finished : IsSeen (Over (record { core = Some finished; count = 4 })) (record { core = finished; instructions = 4 })
it_is_seen_as_finished = (refl, refl)

pub its_end_is_its_own : HasEnded (Over (record { core = Some finished; count = 4 })) ending.Finished
its_end_is_its_own = refl

pub whether_it_rests : (is_resting running ≡ true) × (is_resting (record running { running = Some second }) ≡ false) × (none_ready [] ≡ true) × (none_ready (second ∷ []) ≡ false)
whether_it_rests = (refl, refl, refl, refl)

pub whether_it_is_idle : (is_idle (On running) ≡ true) × (is_idle (On (record running { ready = second ∷ [] })) ≡ false) × (is_idle (Over (record { core = Some finished; count = 4 })) ≡ false)
whether_it_is_idle = (refl, refl, refl)

pub whether_it_has_ended : (has_ended (On running) ≡ false) × (has_ended (Over (record { core = Some finished; count = 4 })) ≡ true)
whether_it_has_ended = (refl, refl)

-- ---- operations that have not ended

-- on channel 0 a 5 is to be sent, and from channel 1 one is received
abbrev pub sends : Operation
sends = started 0 (Send (pos 5 ∷ [])) second

abbrev pub hears : Operation
hears = started 1 (Recv (record { home = None; start = 0; len = 1 })) first

-- on the link of its requests 4 bytes of the file 6 are asked for, from the place 9 on
abbrev pub asks : Operation
asks = started 2 (Read 6 9 (record { home = None; start = 0; len = 4 })) first

abbrev pub with_operations : Flat
with_operations = record running { operations = sends ∷ hears ∷ [] }

pub both_wait : (waits (On with_operations) 0 ≡ true) × (waits (On with_operations) 1 ≡ true) × (waits (On with_operations) 2 ≡ false)
both_wait = (refl, refl, refl)

-- one that is offered does not wait
pub one_is_offered : (waits (On (record running { operations = offered_as 0 sends ∷ [] })) 0 ≡ false)
one_is_offered = refl

pub what_has_not_ended : (waiting_of (On with_operations) ≡ (record { link = 0; phase = Waiting }) ∷ (record { link = 1; phase = Waiting }) ∷ [])
    × (waiting_of (Over (record { core = None; count = 4 })) ≡ []) × (waiting_at_end None ≡ []) × (waiting_at_end (Some finished) ≡ [])
what_has_not_ended = (refl, refl, refl, refl)

-- ---- offers and operations

abbrev pub offer : Entry
offer = record { stamp = 1; turn = 0; event = event.Offer 0 0 (payload.Int (pos 5 ∷ [])) }

abbrev pub known : Entry
known = record { stamp = 3; turn = 1; event = event.Know 0 0 }

pub what_an_entry_is : (is_offer_of 0 0 offer.event ≡ true) × (is_offer_of 0 1 offer.event ≡ false) × (is_offer_of 0 0 known.event ≡ false) × (is_end_of 0 0 known.event ≡ true)
    × (is_end_of 1 0 known.event ≡ false) × (is_end_of 0 0 (event.Withdraw 0 0) ≡ true) × (is_end_of 0 0 (event.Room 0 0) ≡ false)
what_an_entry_is = (refl, refl, refl, refl, refl, refl, refl)

pub how_many_there_are : (offers_of 0 0 (offer ∷ known ∷ []) ≡ 1) × (ends_of 0 0 (offer ∷ known ∷ []) ≡ 1) × (standing_of 0 0 (offered_as 0 sends ∷ hears ∷ []) ≡ 1)
    × (standing_of 0 0 (sends ∷ []) ≡ 0)
how_many_there_are = (refl, refl, refl, refl)

-- a request that has begun stands under no offer: its offer has ended
pub one_has_begun : (standing_of 2 0 (offered_as 0 asks ∷ []) ≡ 1) × (standing_of 2 0 (as_begun (offered_as 0 asks) ∷ []) ≡ 0)
    × (begun_of 2 0 (offered_as 0 asks ∷ []) ≡ 0) × (begun_of 2 0 (as_begun (offered_as 0 asks) ∷ []) ≡ 1)
one_has_begun = (refl, refl, refl, refl)

-- the request was taken, and has its answer
abbrev pub asked_for : Entry
asked_for = record offer { event = event.Offer 2 0 (payload.Read 6 9 4) }

abbrev pub taken : Entry
taken = record known { event = event.Know 2 0 }

abbrev pub answered : Entry
answered = record known { stamp = 5; event = event.Reply 2 0 (answer.Bytes (66 ∷ [])) }

pub what_a_request_comes_to : (is_know_of 2 0 taken.event ≡ true) × (is_know_of 2 1 taken.event ≡ false) × (is_know_of 0 0 (event.Withdraw 0 0) ≡ false) × (is_reply_of 2 0 answered.event ≡ true)
    × (is_reply_of 2 0 taken.event ≡ false) × (knows_of 2 0 (asked_for ∷ taken ∷ answered ∷ []) ≡ 1) × (replies_of 2 0 (asked_for ∷ taken ∷ answered ∷ []) ≡ 1)
what_a_request_comes_to = (refl, refl, refl, refl, refl, refl, refl)

-- of 16 files, at most 256 bytes before the place 1048576
pub what_is_within_the_limits : (is_transfer 15 1048320 256 ≡ true) × (is_transfer 16 0 0 ≡ false) × (is_transfer 0 0 257 ≡ false) × (is_transfer 0 1048321 256 ≡ false)
    × (keeps_limits asks.asked ≡ true) × (keeps_limits (Write 16 0 (66 ∷ [])) ≡ false) × (keeps_limits sends.asked ≡ true)
what_is_within_the_limits = (refl, refl, refl, refl, refl, refl, refl)

-- requests stand on their own link, and nothing else does
pub requests_on_their_link : IsPlaced 2 asks × IsPlaced 2 sends
requests_on_their_link = (record { link = refl; limits = refl }, record { link = refl; limits = refl })

pub a_send_on_that_link : IsPlaced 0 sends → ⊥
a_send_on_that_link h = let no : false ≡ true = h.link in cc

-- an offer that has not ended is that of an operation
pub an_operation_for_none : Tracks 2 [] (offered_as 0 sends ∷ []) → ⊥
an_operation_for_none h = let e = h.each 0 0 in let no : ◌≡◌ {A = ℕ} 1 0 = e in absurd (omega (arith, no))

pub an_offer_without_its_operation : Tracks 2 (offer ∷ []) [] → ⊥
an_offer_without_its_operation h = let e = h.each 0 0 in let no : ◌≡◌ {A = ℕ} 0 1 = e in absurd (omega (arith, no))

-- one that was taken and has no answer is a request that has begun
pub a_taking_without_its_request : Tracks 2 (asked_for ∷ taken ∷ []) [] → ⊥
a_taking_without_its_request h = let e = h.begun 0 in let no : ◌≡◌ {A = ℕ} 0 1 = e in absurd (omega (arith, no))

pub none_of_each : (link : ℕ) → Tracks link [] []
none_of_each link = record {
  each = λ l n. refl;
  begun = λ n. refl;
  receives = All-nil (λ (o : Operation). is_outgoing o.asked ≡ false → is_waiting o.progress ≡ true);
  placed = All-nil (IsPlaced link);
}

-- ---- blocks and threads

pub block_is_seen : blocks_of (None ∷ Some (record { parent = None; owner = second; count = 2; waits = true; cancelled = true }) ∷ [])
    ≡ None ∷ Some (record { parent = None; owner = second; count = 2; waits = true; cancelled = true }) ∷ []
block_is_seen = refl

abbrev pub schedule : Schedule
schedule = record { running = None; ready = second ∷ []; spare = 4 }

pub owner_comes_first : (with_woken schedule (Some first)).ready ≡ first ∷ second ∷ []
owner_comes_first = refl

pub none_is_woken : with_woken schedule None ≡ schedule
none_is_woken = refl

pub second_runs : item_of (Some second) ≡ second
second_runs = refl

pub one_block_is_seen : (block_of None ≡ None)
    × (block_of (Some (record { parent = None; owner = first; count = 0; waits = false; cancelled = true })) ≡ Some
    (record { parent = None; owner = first; count = 0; waits = false; cancelled = true }))
one_block_is_seen = (refl, refl)

-- ---- the state that the fields stand for

abbrev pub frame : ℕ → FrameId
frame n = record { number = n }

abbrev pub int : ℕ → Cell
int n = cell.Int (pos n)

-- one activation waits
abbrev pub its_callers : List Caller
its_callers = (record { place = 9; frame = frame 1; operands = int 2 ∷ [] }) ∷ []

-- three steps and two turns, seven instructions, and a thread at the address 5
abbrev pub with_fields : Running → Running
with_fields m = record m {
  core = 1;
  bound = 9;
  requests = 4;
  journal = record { entries = []; spare = 0 };
  frames = store;
  outstanding = record { operations = sends ∷ []; spare = 2 };
  frame = frame 2;
  place = 5;
  operands = int 3 ∷ [];
  callers = its_callers;
  block = None;
  schedule = schedule;
  threads = record { threads = nobody ∷ []; lives = true ∷ []; pending = false; spare = 0 };
  blocks = record { blocks = None ∷ []; spare = 1 };
  steps = 3;
  turn = 2;
  count = 7;
  ended = None;
}

pub what_it_shares : (m : Running) → shared_of (with_fields m) ≡ record { steps = 3; turn = 2; output = m.output.items; past = []; todo = []; requests = 4 }
what_it_shares m = refl

pub the_thread_that_runs : (m : Running) → thread_of (with_fields m) ≡ record { place = 5; frame = frame 2; operands = int 3 ∷ []; callers = its_callers; block = None }
the_thread_that_runs m = refl

pub the_whole_state : (m : Running) → flat_of (with_fields m)
    ≡ record {
      shared = shared_of (with_fields m);
      store = store;
      operations = sends ∷ [];
      running = None;
      current = thread_of (with_fields m);
      ready = second ∷ [];
      threads = nobody ∷ [];
      blocks = None ∷ [];
      count = 7;
    }
the_whole_state m = refl

pub an_end_or_none : (end_or running None ≡ On running)
    × (end_or running (Some ending.OutOfSteps) ≡ Over (record { core = Some (core_end OutOfSteps false (pos 0 ∷ pos 0 ∷ []) [] running.shared); count = 3 }))
an_end_or_none = (refl, refl)

pub it_goes_on_or_is_over : (m : Running) → (state_of (with_fields m) ≡ On (flat_of (with_fields m)))
    × (state_of (record m { ended = Some ending.Finished }) ≡ end_or (flat_of m) (Some ending.Finished))
it_goes_on_or_is_over m = (refl, refl)

pub the_machine : (m : Running) → machine_of (with_fields m) ≡ record { code = m.code.now; core = 1; bound = 9; journal = []; state = On (flat_of (with_fields m)); room = has_room (with_fields m) }
the_machine m = refl

-- its requests have the link after the channels and the requests of the cores before
pub the_link_of_its_requests : (m : Running) → own_link (with_fields m) ≡ length m.code.now.ends + 1
the_link_of_its_requests m = refl

-- room for an entry and for a ready thread, and no value that is still to be put onto operands
abbrev with_spares : Running → ℕ → ℕ → Bool → Running
with_spares m entries ready pending = record m {
  journal = record m.journal { spare = entries };
  schedule = record m.schedule { spare = ready };
  threads = record m.threads { pending = pending };
}

pub whether_it_has_room : (m : Running) → (has_room (with_spares m 1 1 false) ≡ true) × (has_room (with_spares m 0 1 false) ≡ false) × (has_room (with_spares m 1 0 false) ≡ false)
    × (has_room (with_spares m 1 1 true) ≡ false)
whether_it_has_room m = (refl, refl, refl, refl)

-- ---- places

-- the first thread has ended, or not; the second one is ready
abbrev with_places : Running → List Bool → Running
with_places m lives = record (with_fields m) { threads = record { threads = nobody ∷ nobody ∷ []; lives = lives; pending = false; spare = 0 } }

no_block : (n : ℕ) (x : Block) → slice_index_or (None ∷ []) n None ≡ Some x → ⊥
no_block zero x e = let no : None ≡ Some x = e in cc
no_block (suc n) x e = let no : None ≡ Some x = e in cc

pub the_ready_one_has_its_place : (m : Running) → HavePlaces (with_places m (false ∷ true ∷ []))
the_ready_one_has_its_place m = by
  where
    its : (u : Item) → u.number ≡ 1 → HasPlace (with_places m (false ∷ true ∷ [])).threads u
    its u e = ap (λ n. slice_index_or (false ∷ true ∷ []) n false) e

    by : (u : Item) (h : Thread) → LivesAs (flat_of (with_places m (false ∷ true ∷ []))) u h → HasPlace (with_places m (false ∷ true ∷ [])).threads u
    by _ _ (as_running u e) = let no : None ≡ Some u = e in absurd (cc)
    by _ _ (as_ready u some) = its u (one_is u.number 1 (omega (arith, some)))
    by _ _ (as_operating u some) = its u (one_is u.number 1 (omega (arith, some)))
    by _ _ (as_waiting u b x there owner w) = absurd (no_block b.number x there)

pub without_it : (m : Running) → HavePlaces (with_places m (true ∷ false ∷ [])) → ⊥
without_it m places = let no : false ≡ true = places second nobody (as_ready second (omega arith)) in cc

-- ---- room in the ready list

-- one thread is ready, and there is room for so many more
abbrev with_seats : Running → List Bool → ℕ → Running
with_seats m lives more = record (with_places m lives) { schedule = record { running = None; ready = second ∷ []; spare = more } }

-- of the first two threads one has ended, or none has
pub for_those_that_live : (m : Running) → HasSeats (with_seats m (false ∷ true ∷ []) 0) × HasSeats (with_seats m (true ∷ true ∷ []) 1)
for_those_that_live m = (omega arith, omega arith)

pub not_for_both : (m : Running) → HasSeats (with_seats m (true ∷ true ∷ []) 0) → ⊥
not_for_both m seats = omega (arith, seats)

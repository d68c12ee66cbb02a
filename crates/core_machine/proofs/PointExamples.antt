-- What callers see of cores at their dispatch points, by example.
-- Those that hold do so by computing.
use Rattle.std.proofs.Common.{◌≡◌, ℕ, ◌+◌, length, refl, pos, true, false, List, arith, [], ◌∷◌, Some, None}
use Rattle.ac_base.specs.declared.entry.Event.TheVariants as event
use Rattle.ac_base.specs.declared.entry.Payload.TheVariants as payload
use Rattle.cancel_scope.specs.Outstanding.{offered_as}
use Rattle.core_state.specs.Moves.{On, Over}
use Rattle.core_state.specs.Arrivals.{has_ended}
use Rattle.core_state.specs.Shared.{with_entry}
use Rattle.code_meaning.specs.Machine.{Block, Caller, Flat, FlatEnd, Thread, arrived, nobody}
use Rattle.stack_code.specs.Parts.{Parts}
use Rattle.code_safety.specs.Left.{at_weight, callers_weight, owner_weight, parked_weight, ready_weight, running_weight, thread_weight, waiting_weight}
use Rattle.core_machine.specs.Machine.{Machine}
use Rattle.core_machine.specs.Points.{HasCome, HasTracks, IsInTurn, IsOfTurn, carried_by, entry_of}
use Rattle.core_machine.specs.Points.{has_to_offer, is_at_point, left_at, offer_carries}
use Rattle.core_machine.specs.Points.{operations_of, receives_from, requests_of, work_left}
use Rattle.core_machine.proofs.Examples.{asks, first, hears, known, none_of_each, offer, running, second, sends, store, with_operations}

abbrev over : FlatEnd
over = record { core = None; count = 4 }

pub whether_it_is_at_a_point : (is_at_point (On running) ≡ true) × (is_at_point (On (record running { running = Some second })) ≡ false) × (is_at_point (Over over) ≡ false)
whether_it_is_at_a_point = (refl, refl, refl)

-- ---- operations

pub which_operations_it_has : (operations_of (On with_operations) ≡ sends ∷ hears ∷ []) × (operations_of (Over over) ≡ [])
which_operations_it_has = (refl, refl)

-- one that is offered is not to be offered again
pub what_is_to_be_offered : (has_to_offer (sends ∷ hears ∷ []) 0 ≡ true) × (has_to_offer (sends ∷ hears ∷ []) 1 ≡ false) × (has_to_offer (offered_as 0 sends ∷ []) 0 ≡ false)
    × (has_to_offer (asks ∷ []) 2 ≡ true)
what_is_to_be_offered = (refl, refl, refl, refl)

-- an offer of the oldest carries what it asks for
pub what_an_offer_carries : (offer_carries (sends ∷ hears ∷ []) 0 (payload.Int (pos 5 ∷ [])) ≡ true) × (offer_carries (sends ∷ hears ∷ []) 0 (payload.Int (pos 6 ∷ [])) ≡ false)
    × (offer_carries (asks ∷ []) 2 (payload.Read 6 9 4) ≡ true) × (offer_carries (hears ∷ []) 1 (payload.Int (pos 5 ∷ [])) ≡ false) × (carried_by None (payload.Int (pos 5 ∷ [])) ≡ false)
    × (carried_by (Some sends) (payload.Int (pos 5 ∷ [])) ≡ true)
what_an_offer_carries = (refl, refl, refl, refl, refl, refl)

pub what_is_received : (receives_from (sends ∷ hears ∷ []) 1 ≡ true) × (receives_from (sends ∷ hears ∷ []) 0 ≡ false)
what_is_received = (refl, refl)

-- ---- an entry

pub the_entry_of_a_turn : entry_of running (event.Know 0 0) 3 ≡ record { stamp = 3; turn = 1; event = event.Know 0 0 }
the_entry_of_a_turn = refl

-- the offer of a 5 on channel 0 stands
abbrev stands : Flat
stands = record running { operations = offered_as 0 sends ∷ []; shared = record running.shared { past = offer ∷ [] } }

module _ (code : Parts) where
  abbrev before : Machine
  before = record { code = code; core = 0; bound = 9; journal = offer ∷ []; state = On stands; room = true }

  -- it was taken, and the thread that sent is ready
  abbrev after : Machine
  after = record before {
    journal = offer ∷ known ∷ [];
    state = On (arrived stands (with_entry stands.shared known []) (has_ended store [] (offered_as 0 sends)));
    room = false;
  }

  pub it_is_known : HasCome before (event.Know 0 0) 3 after
  it_is_known = record {
    flat = stands;
    stood = refl;
    arrival = has_ended store [] (offered_as 0 sends);
    fits = refl;
    state = refl;
    journal = refl;
    code = refl;
    core = refl;
    bound = refl;
  }

  -- an entry that is not in the journal has not come
  pub it_is_not_recorded : HasCome before (event.Know 0 0) 3 (record after { journal = offer ∷ [] }) → ⊥
  it_is_not_recorded h = let e = h.journal in cc

  pub the_link_of_its_requests : requests_of before ≡ length code.ends + 0
  the_link_of_its_requests = refl

  pub nothing_is_open : HasTracks (record before { journal = []; state = On running })
  nothing_is_open h = none_of_each (length code.ends + 0)

  pub an_operation_without_its_offer : HasTracks (record before { journal = [] }) → ⊥
  an_operation_without_its_offer h = let e = (h refl).each 0 0 in let no : ◌≡◌ {A = ℕ} 1 0 = e in absurd (omega (arith, no))

  -- it is in its first turn; one that has ended is of any
  pub the_turn_of_it : IsOfTurn before 1 × IsInTurn [] 1 (On running) × IsOfTurn (record before { state = Over over }) 7
  the_turn_of_it = ((refl, (refl, refl)), (refl, (refl, refl)), tt)

  pub another_turn : IsOfTurn before 2 → ⊥
  another_turn h = let no : ◌≡◌ {A = ℕ} 1 2 = h.0 in absurd (omega (arith, no))

  pub an_entry_that_is_still_to_come : IsOfTurn (record before { journal = [] }) 1 → ⊥
  an_entry_that_is_still_to_come h = let no = h.1.0 in cc

  -- 8 steps are left, of 3 each, and the present move
  pub what_is_left_of_it : (left_at [] 9 (On running) ≡ 25) × (left_at [] 9 (Over over) ≡ 0) × (work_left [] (record before { state = On running }) ≡ 25)
  what_is_left_of_it = (refl, refl, refl)

-- ---- what each part of a core may still do, where the second address has rank 1

abbrev ranks : List ℕ
ranks = 0 ∷ 1 ∷ []

abbrev there : Thread
there = record nobody { place = 1 }

abbrev caller : Caller
caller = record { place = 0; frame = nobody.frame; operands = [] }

abbrev block : Block
block = record { parent = None; owner = first; count = 1; waits = true; cancelled = false }

pub weights_of_a_thread : (at_weight ranks 1 ≡ 8) × (callers_weight ranks (caller ∷ []) ≡ 3) × (thread_weight ranks there ≡ 8)
    × (thread_weight ranks (record there { callers = caller ∷ [] }) ≡ 11)
weights_of_a_thread = (refl, refl, refl, refl)

-- one that does not run has a dispatch before it
pub weights_of_threads : (parked_weight ranks (there ∷ []) first ≡ 9) × (ready_weight ranks (there ∷ []) (first ∷ first ∷ []) ≡ 18) × (running_weight ranks there (Some first) ≡ 8)
    × (running_weight ranks there None ≡ 0)
weights_of_threads = (refl, refl, refl, refl)

pub weights_of_blocks : (owner_weight ranks (there ∷ []) (Some block) ≡ 9) × (owner_weight ranks (there ∷ []) (Some (record block { waits = false })) ≡ 0)
    × (waiting_weight ranks (there ∷ []) (None ∷ Some block ∷ []) ≡ 9)
weights_of_blocks = (refl, refl, refl)

-- What the definitions of Arrivals say of a core that sends on channel 0, receives from channel 1, and has its requests on link 2.
-- For each event an entry that comes in and what it leaves, and entries that do not: of another number, value or link, or with nothing that
-- waits.
use Rattle.std.proofs.Common.{◌≡◌, refl, ℕ, ℤ, pos, negsuc, List, [], ◌∷◌, length, None, Some}
use Rattle.std.specs.Prelude.{Option, true, false}
use Rattle.ac_base.specs.declared.ends.CoreEnd.{CoreEnd}
use Rattle.ac_base.specs.declared.entry.Payload.TheVariants as payload
use Rattle.ac_base.specs.declared.entry.Payload.TheVariants.{Int}
use Rattle.ac_base.specs.declared.entry.Answer.TheVariants.{Bytes, Count, Fault}
use Rattle.ac_base.specs.declared.entry.Event.{Event}
use Rattle.ac_base.specs.declared.entry.Event.TheVariants.{Offer, Withdraw, Know, Room, Got, Pass, Did, Reply}
use Rattle.ac_base.specs.declared.entry.Entry.{Entry}
use Rattle.work_item.specs.declared.ids.Item.{Item}
use Rattle.work_item.specs.declared.cell.Place.{Place}
use Rattle.work_item.specs.Store.{Store, no_place}
use Rattle.cancel_scope.specs.declared.operation.Asked.TheVariants.{Send, Recv, Read, Write}
use Rattle.cancel_scope.specs.declared.operation.Operation.{Operation}
use Rattle.cancel_scope.specs.Outstanding.{started, offered_as, as_begun, is_offered}
use Rattle.core_state.specs.Moves.{Move, On, Over}
use Rattle.core_state.specs.Shared.{Shared, with_entry}
use Rattle.core_state.specs.Arrivals.{ok, cancelled, is_offer, offers_on, is_withdrawal, is_room, keeps_room, goes_on_waiting}
use Rattle.core_state.specs.Arrivals.{has_ended_as, has_ended, place_for, with_message, passes_over, gives_room}
use Rattle.core_state.specs.Arrivals.{offers, is_taken, is_known, is_answered, ends_received, arrives, comes_in, at_point, point}

-- ---- a core with two globals, and three operations that have started

abbrev pub thread : ℕ → Item
thread number = record { number = number }

abbrev pub store : Store
store = record { globals = pos 7 ∷ pos 8 ∷ []; frames = [] }

-- the second of the two globals
abbrev pub second : Place
second = record { home = None; start = 1; len = 1 }

abbrev pub five : Operation
five = started 0 (Send (pos 5 ∷ [])) (thread 1)

abbrev pub six : Operation
six = started 0 (Send (pos 6 ∷ [])) (thread 2)

abbrev pub hears : Operation
hears = started 1 (Recv second) (thread 3)

abbrev pub at_turn : ℕ → Event → Entry
at_turn turn event = record { stamp = 1; turn = turn; event = event }

abbrev pub offer : ℕ → ℤ → Event
offer number value = Offer 0 number (Int (value ∷ []))

-- ---- offers

pub one_offer_was_made : offers_on 0 (at_turn 0 (offer 0 (pos 4)) ∷ at_turn 1 (Know 0 0) ∷ at_turn 2 (Offer 1 0 (Int (pos 4 ∷ []))) ∷ []) ≡ 1
one_offer_was_made = refl

pub an_offer_on_that_link : (is_offer 0 (offer 3 (pos 4)) ≡ true) × (is_offer 1 (offer 3 (pos 4)) ≡ false) × (is_offer 0 (Know 0 3) ≡ false)
an_offer_on_that_link = (refl, refl, refl)

-- the oldest is offered, and no thread goes on
pub the_oldest_is_offered : arrives [] store (five ∷ hears ∷ six ∷ []) (offer 0 (pos 5))
    ≡ Some (goes_on_waiting store (offered_as 0 five ∷ hears ∷ six ∷ []))
the_oldest_is_offered = refl

pub then_the_next_one : arrives (at_turn 0 (offer 0 (pos 5)) ∷ []) store (offered_as 0 five ∷ hears ∷ six ∷ []) (offer 1 (pos 6))
    ≡ Some (goes_on_waiting store (offered_as 0 five ∷ hears ∷ offered_as 1 six ∷ []))
then_the_next_one = refl

-- another number, another value, a request, and a link on which nothing is to be offered
pub what_is_no_offer : (arrives [] store (five ∷ []) (offer 1 (pos 5)) ≡ None) × (arrives [] store (five ∷ []) (offer 0 (pos 6)) ≡ None)
    × (arrives [] store (five ∷ []) (Offer 0 0 (payload.Read 0 0 4)) ≡ None) × (arrives [] store (hears ∷ []) (Offer 1 0 (Int (pos 5 ∷ []))) ≡ None)
what_is_no_offer = (refl, refl, refl, refl)

-- ---- ends

pub a_known_send_has_ended : arrives [] store (offered_as 0 five ∷ hears ∷ offered_as 1 six ∷ []) (Know 0 1)
    ≡ Some (record { operations = offered_as 0 five ∷ hears ∷ []; store = store; woken = Some (thread 2); value = pos 0 })
a_known_send_has_ended = refl

pub nothing_is_known_of_what_waits : arrives [] store (five ∷ []) (Know 0 0) ≡ None
nothing_is_known_of_what_waits = refl

pub a_message_has_come : arrives [] store (five ∷ hears ∷ []) (Got 1 9 (pos 3 ∷ []))
    ≡ Some (record { operations = five ∷ []; store = record { globals = pos 7 ∷ pos 3 ∷ []; frames = [] }; woken = Some (thread 3); value = pos 0 })
a_message_has_come = refl

pub no_one_waits_for_a_message : (arrives [] store (five ∷ []) (Got 1 9 (pos 3 ∷ [])) ≡ None) × (arrives [] store (five ∷ hears ∷ []) (Got 0 9 (pos 3 ∷ [])) ≡ None)
no_one_waits_for_a_message = (refl, refl)

-- a withdrawn offer is passed over, and nothing ends
pub one_is_passed_over : arrives [] store (five ∷ hears ∷ []) (Pass 1 9) ≡ Some (goes_on_waiting store (five ∷ hears ∷ []))
one_is_passed_over = refl

pub no_one_waits_so_none_is_passed_over : (arrives [] store (five ∷ []) (Pass 1 9) ≡ None) × (arrives [] store (five ∷ hears ∷ []) (Pass 0 9) ≡ None)
    × (passes_over store (five ∷ []) None ≡ None)
no_one_waits_so_none_is_passed_over = (refl, refl, refl)

pub a_withdrawal_needs_a_cancel : arrives [] store (offered_as 0 five ∷ []) (Withdraw 0 0) ≡ None
a_withdrawal_needs_a_cancel = refl

pub its_parts : (ok ≡ pos 0) × (cancelled ≡ negsuc 0) × (place_for (Recv second) ≡ second) × (place_for (Send (pos 5 ∷ [])) ≡ no_place)
    × (with_message store hears (pos 3 ∷ []) ≡ record { globals = pos 7 ∷ pos 3 ∷ []; frames = [] })
    × (has_ended store [] five ≡ record { operations = []; store = store; woken = Some (thread 1); value = pos 0 })
    × (has_ended_as (negsuc 1) store [] five ≡ record { operations = []; store = store; woken = Some (thread 1); value = negsuc 1 })
    × (goes_on_waiting store [] ≡ record { operations = []; store = store; woken = None; value = pos 0 })
its_parts = (refl, refl, refl, refl, refl, refl, refl, refl)

pub where_there_is_one : (offers store (five ∷ []) 0 0 (Int (pos 5 ∷ [])) (Some five) ≡ Some (goes_on_waiting store (offered_as 0 five ∷ [])))
    × (is_known store (offered_as 0 five ∷ []) 0 0 (Some (offered_as 0 five)) ≡ Some (has_ended store [] (offered_as 0 five)))
    × (ends_received store (hears ∷ []) 1 (pos 3 ∷ []) (Some hears) ≡ Some (has_ended (with_message store hears (pos 3 ∷ [])) [] hears))
    × (passes_over store (hears ∷ []) (Some hears) ≡ Some (goes_on_waiting store (hears ∷ [])))
where_there_is_one = (refl, refl, refl, refl)

-- ---- requests

-- both globals
abbrev pub both : Place
both = record { home = None; start = 0; len = 2 }

-- two bytes of the file 6 from the place 9 on, and one that is written there
abbrev pub reads : Operation
reads = started 2 (Read 6 9 both) (thread 4)

abbrev pub writes : Operation
writes = started 2 (Write 6 9 (65 ∷ [])) (thread 5)

pub a_request_is_offered : (arrives [] store (reads ∷ writes ∷ []) (Offer 2 0 (payload.Read 6 9 2)) ≡ Some (goes_on_waiting store (offered_as 0 reads ∷ writes ∷ [])))
    × (arrives [] store (writes ∷ reads ∷ []) (Offer 2 0 (payload.Write 6 9 (65 ∷ []))) ≡ Some (goes_on_waiting store (offered_as 0 writes ∷ reads ∷ [])))
    × (arrives [] store (reads ∷ []) (Offer 2 0 (payload.Read 6 9 3)) ≡ None) × (arrives [] store (reads ∷ []) (Offer 2 0 (Int (pos 5 ∷ []))) ≡ None)
a_request_is_offered = (refl, refl, refl, refl)

-- its thread waits on; what has begun once does not begin again
pub a_known_request_has_begun : (arrives [] store (five ∷ offered_as 0 reads ∷ []) (Know 2 0) ≡ Some (goes_on_waiting store (five ∷ as_begun (offered_as 0 reads) ∷ [])))
    × (arrives [] store (as_begun (offered_as 0 reads) ∷ []) (Know 2 0) ≡ None)
a_known_request_has_begun = (refl, refl)

abbrev pub begun_reads : Operation
begun_reads = as_begun (offered_as 0 reads)

abbrev pub begun_writes : Operation
begun_writes = as_begun (offered_as 1 writes)

-- a read stores its bytes and a write nothing, and each gives their count; or it gives FAULT
pub a_request_is_answered : (arrives [] store (begun_reads ∷ five ∷ []) (Reply 2 0 (Bytes (65 ∷ 66 ∷ [])))
    ≡ Some (record { operations = five ∷ []; store = record { globals = pos 65 ∷ pos 66 ∷ []; frames = [] }; woken = Some (thread 4); value = pos 2 }))
    × (arrives [] store (begun_reads ∷ begun_writes ∷ []) (Reply 2 1 (Count 1))
    ≡ Some (record { operations = begun_reads ∷ []; store = store; woken = Some (thread 5); value = pos 1 }))
    × (arrives [] store (begun_reads ∷ []) (Reply 2 0 (Fault 0)) ≡ Some (record { operations = []; store = store; woken = Some (thread 4); value = negsuc 1 }))
a_request_is_answered = (refl, refl, refl)

-- one that its core does not know to have begun, one of another number or link, and what the worker does
pub what_is_no_answer : (arrives [] store (offered_as 0 reads ∷ []) (Reply 2 0 (Fault 0)) ≡ None) × (arrives [] store (begun_reads ∷ []) (Reply 2 1 (Fault 0)) ≡ None)
    × (arrives [] store (begun_reads ∷ []) (Reply 3 0 (Fault 0)) ≡ None) × (arrives [] store (begun_reads ∷ []) (Did 2 0 (Fault 0)) ≡ None)
what_is_no_answer = (refl, refl, refl, refl)

pub parts_of_requests : (is_taken store (is_offered 2 0) (five ∷ offered_as 0 reads ∷ []) (offered_as 0 reads) ≡ goes_on_waiting store (five ∷ begun_reads ∷ []))
    × (is_taken store (is_offered 0 3) (offered_as 3 five ∷ []) (offered_as 3 five) ≡ has_ended store [] (offered_as 3 five))
    × (is_known store (five ∷ []) 0 0 None ≡ None) × (is_answered store (five ∷ []) 2 0 (Count 1) None ≡ None)
    × (is_answered store (begun_writes ∷ []) 2 1 (Fault 0) (Some begun_writes) ≡ Some (has_ended_as (negsuc 1) store [] begun_writes))
parts_of_requests = (refl, refl, refl, refl, refl)

-- ---- the room of a withdrawn offer

abbrev pub withdrawn : Entry
withdrawn = at_turn 1 (Withdraw 0 0)

-- it is kept until it is known that the offer was passed over, and given back once
pub a_withdrawn_offer_keeps_its_room : (keeps_room 0 0 (withdrawn ∷ []) ≡ true) × (keeps_room 0 1 (withdrawn ∷ []) ≡ false)
    × (keeps_room 0 0 (at_turn 1 (Know 0 0) ∷ []) ≡ false) × (keeps_room 0 0 (withdrawn ∷ at_turn 2 (Room 0 0) ∷ []) ≡ false)
a_withdrawn_offer_keeps_its_room = (refl, refl, refl, refl)

pub its_room_is_free_again : (arrives (withdrawn ∷ []) store (hears ∷ []) (Room 0 0) ≡ Some (goes_on_waiting store (hears ∷ [])))
    × (arrives (withdrawn ∷ at_turn 2 (Room 0 0) ∷ []) store (hears ∷ []) (Room 0 0) ≡ None) × (arrives [] store (hears ∷ []) (Room 0 0) ≡ None)
its_room_is_free_again = (refl, refl, refl)

pub parts_of_room : (is_withdrawal 0 3 (Withdraw 0 3) ≡ true) × (is_withdrawal 0 3 (Withdraw 1 3) ≡ false) × (is_withdrawal 0 3 (Know 0 3) ≡ false)
    × (is_room 0 3 (Room 0 3) ≡ true) × (is_room 0 3 (Room 0 2) ≡ false) × (is_room 0 3 (Withdraw 0 3) ≡ false)
    × (gives_room store [] true ≡ Some (goes_on_waiting store [])) × (gives_room store [] false ≡ None)
parts_of_room = (refl, refl, refl, refl, refl, refl, refl, refl)

-- ---- dispatch points

abbrev pub shared : List Entry → Shared
shared todo = record { steps = 0; turn = 4; output = []; past = []; todo = todo; requests = 2 }

-- how many operations are left where an entry comes in, and else 9
abbrev pub left : List Entry → Move ℕ (Option CoreEnd)
left todo = point (λ seen. seen) (shared todo) store (hears ∷ []) (λ s x. On (length x.operations)) (On 9)

-- an entry of this turn comes in, one of a later turn does not, and one that does not fit leaves no end
pub at_a_dispatch_point : (left (at_turn 4 (Got 1 0 (pos 3 ∷ [])) ∷ []) ≡ On 0) × (left (at_turn 5 (Got 1 0 (pos 3 ∷ [])) ∷ []) ≡ On 9)
    × (left (at_turn 4 (Got 0 0 (pos 3 ∷ [])) ∷ []) ≡ Over None) × (left [] ≡ On 9)
at_a_dispatch_point = (refl, refl, refl, refl)

pub the_entry_has_come_in : (e : Entry)
    → (with_entry (shared (e ∷ [])) e [] ≡ record { steps = 0; turn = 4; output = []; past = e ∷ []; todo = []; requests = 2 })
    × (comes_in {S = ℕ} {E = Option CoreEnd} (λ seen. seen) (λ x. On 5) (Some (goes_on_waiting store [])) ≡ On 5)
    × (at_point {S = ℕ} {E = Option CoreEnd} (λ seen. seen) (shared []) store [] (λ s x. On 5) (On 6) [] ≡ On 6)
the_entry_has_come_in e = (refl, refl, refl)

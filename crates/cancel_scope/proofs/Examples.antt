-- What the definitions of Outstanding say of a send, of a receive, and of a read and a write of a file.
-- Each test of an operation stands with one of which it holds and one of which it does not; all of them compute.
use Rattle.std.proofs.Common.{◌≡◌, refl, ℕ, pos, [], ◌∷◌, None}
use Rattle.std.specs.Prelude.{true, false}
use Rattle.ac_base.specs.declared.entry.Payload.TheVariants as payload
use Rattle.ac_base.specs.declared.ends.Phase.TheVariants as phase
use Rattle.work_item.specs.declared.ids.Item.{Item}
use Rattle.work_item.specs.declared.cell.Place.{Place}
use Rattle.cancel_scope.specs.declared.operation.Asked.TheVariants.{Send, Recv, Read, Write}
use Rattle.cancel_scope.specs.declared.operation.Progress.TheVariants.{Waiting, Offered, Started}
use Rattle.cancel_scope.specs.declared.operation.Operation.{Operation}
use Rattle.cancel_scope.specs.Outstanding.{started, offered_as, past_offer, as_begun, is_outgoing, is_request, is_waiting, has_begun, is_under, has_begun_under}
use Rattle.cancel_scope.specs.Outstanding.{is_to_offer, is_offered, is_begun, is_to_receive, carries, change_first, without_first, phase_of, waiting_as, is_unoffered, waits_on}

abbrev pub thread : ℕ → Item
thread number = record { number = number }

abbrev pub here : Place
here = record { home = None; start = 0; len = 1 }

-- on channel 0 a 5 is sent, and from channel 1 one is received
abbrev pub five : Operation
five = started 0 (Send (pos 5 ∷ [])) (thread 1)

abbrev pub hears : Operation
hears = started 1 (Recv here) (thread 2)

-- on link 2 four bytes of the file 6 are asked for, from the place 9 on, and two are written there
abbrev pub four_ints : Place
four_ints = record { home = None; start = 0; len = 4 }

abbrev pub reads : Operation
reads = started 2 (Read 6 9 four_ints) (thread 1)

abbrev pub writes : Operation
writes = started 2 (Write 6 9 (65 ∷ 66 ∷ [])) (thread 2)

pub a_send_waits_to_be_offered : (is_to_offer 0 five ≡ true) × (is_to_offer 1 five ≡ false) × (is_to_offer 0 (offered_as 3 five) ≡ false) × (is_to_offer 1 hears ≡ false)
a_send_waits_to_be_offered = (refl, refl, refl, refl)

pub so_does_a_request : (is_to_offer 2 reads ≡ true) × (is_to_offer 2 writes ≡ true) × (is_to_receive 2 reads ≡ false) × (is_to_offer 2 (offered_as 3 reads) ≡ false)
so_does_a_request = (refl, refl, refl, refl)

-- under the number of its offer; what was not offered has not begun
pub a_request_has_begun : (as_begun (offered_as 3 reads) ≡ record reads { progress = Started 3 }) × (as_begun reads ≡ reads) × (is_begun 2 3 (as_begun (offered_as 3 reads)) ≡ true)
    × (is_begun 2 4 (as_begun (offered_as 3 reads)) ≡ false) × (is_begun 1 3 (as_begun (offered_as 3 reads)) ≡ false) × (is_begun 2 3 (offered_as 3 reads) ≡ false)
    × (is_offered 2 3 (as_begun (offered_as 3 reads)) ≡ false) × (is_to_offer 2 (as_begun (offered_as 3 reads)) ≡ false)
a_request_has_begun = (refl, refl, refl, refl, refl, refl, refl, refl)

pub it_is_offered_under_its_number : (is_offered 0 3 (offered_as 3 five) ≡ true) × (is_offered 0 4 (offered_as 3 five) ≡ false) × (is_offered 1 3 (offered_as 3 five) ≡ false)
    × (is_offered 0 3 five ≡ false)
it_is_offered_under_its_number = (refl, refl, refl, refl)

pub a_receive_waits_for_a_message : (is_to_receive 1 hears ≡ true) × (is_to_receive 0 hears ≡ false) × (is_to_receive 0 five ≡ false)
a_receive_waits_for_a_message = (refl, refl, refl)

pub an_offer_carries_what_is_sent : (carries (Send (pos 5 ∷ [])) (payload.Int (pos 5 ∷ [])) ≡ true) × (carries (Send (pos 5 ∷ [])) (payload.Int (pos 6 ∷ [])) ≡ false)
    × (carries (Send (pos 5 ∷ [])) (payload.Read 0 0 5) ≡ false) × (carries (Recv here) (payload.Int (pos 5 ∷ [])) ≡ false)
an_offer_carries_what_is_sent = (refl, refl, refl, refl)

-- the file, the place in it, and the length or the bytes
pub an_offer_carries_a_request : (carries reads.asked (payload.Read 6 9 4) ≡ true) × (carries reads.asked (payload.Read 6 9 3) ≡ false) × (carries reads.asked (payload.Read 6 8 4) ≡ false)
    × (carries reads.asked (payload.Read 5 9 4) ≡ false) × (carries reads.asked (payload.Int (pos 4 ∷ [])) ≡ false) × (carries writes.asked (payload.Write 6 9 (65 ∷ 66 ∷ [])) ≡ true)
    × (carries writes.asked (payload.Write 6 9 (65 ∷ 67 ∷ [])) ≡ false) × (carries writes.asked (payload.Write 6 9 (65 ∷ [])) ≡ false) × (carries writes.asked (payload.Read 6 9 2) ≡ false)
an_offer_carries_a_request = (refl, refl, refl, refl, refl, refl, refl, refl, refl)

-- the second of two sends on a link is the first of which the test holds
pub the_first_is_taken : (without_first (is_to_offer 0) (hears ∷ five ∷ five ∷ []) ≡ hears ∷ five ∷ []) × (without_first (is_to_offer 1) (hears ∷ five ∷ []) ≡ hears ∷ five ∷ [])
the_first_is_taken = (refl, refl)

pub the_first_is_changed : change_first (is_to_offer 0) (offered_as 3) (hears ∷ five ∷ five ∷ []) ≡ hears ∷ offered_as 3 five ∷ five ∷ []
the_first_is_changed = refl

pub what_is_seen_of_them : (waiting_as five ≡ record { link = 0; phase = phase.Waiting }) × (waiting_as (offered_as 3 five) ≡ record { link = 0; phase = phase.Offered })
    × (waiting_as (as_begun (offered_as 3 reads)) ≡ record { link = 2; phase = phase.Started })
what_is_seen_of_them = (refl, refl, refl)

pub parts_of_the_tests : (is_outgoing (Send (pos 5 ∷ [])) ≡ true) × (is_outgoing (Recv here) ≡ false) × (is_outgoing writes.asked ≡ true) × (is_request (Send (pos 5 ∷ [])) ≡ false)
    × (is_request (Recv here) ≡ false) × (is_request reads.asked ≡ true) × (is_request writes.asked ≡ true)
parts_of_the_tests = (refl, refl, refl, refl, refl, refl, refl)

pub how_far_it_has_come : (is_waiting Waiting ≡ true) × (is_waiting (Offered 3) ≡ false) × (is_waiting (Started 3) ≡ false) × (has_begun (Started 3) ≡ true) × (has_begun (Offered 3) ≡ false)
    × (is_under 3 (Offered 3) ≡ true) × (is_under 3 (Started 3) ≡ false) × (is_under 3 Waiting ≡ false) × (has_begun_under 3 (Started 3) ≡ true) × (has_begun_under 3 (Offered 3) ≡ false)
    × (past_offer (Offered 3) ≡ Started 3) × (past_offer (Started 3) ≡ Started 3) × (phase_of (Offered 3) ≡ phase.Offered)
how_far_it_has_come = (refl, refl, refl, refl, refl, refl, refl, refl, refl, refl, refl, refl, refl)

-- on its link, as long as it is not offered
pub one_that_waits : (waits_on 0 (waiting_as five) ≡ true) × (waits_on 1 (waiting_as five) ≡ false) × (waits_on 0 (waiting_as (offered_as 3 five)) ≡ false) × (is_unoffered phase.Waiting ≡ true)
    × (is_unoffered phase.Started ≡ false)
one_that_waits = (refl, refl, refl, refl, refl)

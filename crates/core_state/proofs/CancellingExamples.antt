-- What the definitions of Cancelling say of a core that sends on channel 0, receives from channel 1, and has its requests on link 2.
-- The outcomes of an offer, and a cancel under a journal: which operation it tries, which entry decides, and how it stops without one.
use Rattle.std.proofs.Common.{◌≡◌, refl, pos, negsuc, List, [], ◌∷◌, None, Some}
use Rattle.std.specs.Prelude.{Bool, Option, true, false, not, nat_eq}
use Rattle.ac_base.specs.declared.ends.EndWord.TheVariants.{Stalled}
use Rattle.ac_base.specs.declared.ends.Phase.TheVariants as phase
use Rattle.ac_base.specs.declared.ends.CoreEnd.{CoreEnd}
use Rattle.ac_base.specs.declared.entry.Event.TheVariants.{Withdraw, Know, Got, Room}
use Rattle.ac_base.specs.declared.entry.Entry.{Entry}
use Rattle.cancel_scope.specs.declared.operation.Progress.TheVariants.{Waiting, Offered, Started}
use Rattle.cancel_scope.specs.declared.operation.Operation.{Operation}
use Rattle.cancel_scope.specs.Outstanding.{offered_as, as_begun}
use Rattle.core_state.specs.Moves.{Move, On, Over}
use Rattle.core_state.specs.Shared.{Shared, with_entry}
use Rattle.core_state.specs.Arrivals.{Arrival, has_ended_as, goes_on_waiting}
use Rattle.core_state.specs.Cancelling.{Fate, NeverHappens, IsTaken, by_outcome, outcome, goes_by, decided, tried, tries, is_to_try, cancels}
use Rattle.core_state.proofs.ArrivalExamples.{store, five, six, hears, reads, writes, begun_reads, at_turn, shared}

-- ---- the outcome of an offer

-- the offer 3 on link 0 is withdrawn, or was taken; other entries decide nothing of it
pub an_offer_is_withdrawn_or_was_taken : (outcome 0 3 (Withdraw 0 3) ≡ Some NeverHappens) × (outcome 0 3 (Know 0 3) ≡ Some IsTaken)
    × (outcome 0 3 (Withdraw 0 2) ≡ None) × (outcome 0 3 (Know 1 3) ≡ None) × (outcome 0 3 (Room 0 3) ≡ None) × (outcome 0 3 (Got 0 3 (pos 5 ∷ [])) ≡ None)
an_offer_is_withdrawn_or_was_taken = (refl, refl, refl, refl, refl, refl)

-- ---- a cancel, in a core of which the second thread is not inside

-- the entries that are left, and what is made of the operations
pub record Tried : Type 0 where
  pub todo : List Entry
  pub made : Arrival

abbrev pub Result : Type 0
Result = Move Tried (Option CoreEnd)

abbrev pub inside : Operation → Bool
inside o = not (nat_eq o.item.number 2)

abbrev pub kept : Shared → Arrival → Result
kept s x = On (record { todo = s.todo; made = x })

-- where nothing is left to try
abbrev pub over : Result
over = Over None

abbrev pub cancel : List Entry → List Operation → Result
cancel todo os = cancels (λ seen. seen) (shared todo) store os inside kept over

-- a receive, and a send that was not offered, never happen, and need no entry
pub what_only_its_core_knows : (cancel [] (six ∷ hears ∷ five ∷ []) ≡ On (record { todo = []; made = has_ended_as (negsuc 0) store (six ∷ five ∷ []) hears }))
    × (cancel [] (six ∷ five ∷ []) ≡ On (record { todo = []; made = has_ended_as (negsuc 0) store (six ∷ []) five }))
what_only_its_core_knows = (refl, refl)

-- the peer was not first, or it was
pub an_offer_takes_the_next_entry : (cancel (at_turn 4 (Withdraw 0 3) ∷ []) (offered_as 3 five ∷ six ∷ [])
    ≡ On (record { todo = []; made = has_ended_as (negsuc 0) store (six ∷ []) (offered_as 3 five) }))
    × (cancel (at_turn 4 (Know 0 3) ∷ []) (offered_as 3 five ∷ six ∷ [])
    ≡ On (record { todo = []; made = has_ended_as (pos 0) store (six ∷ []) (offered_as 3 five) }))
an_offer_takes_the_next_entry = (refl, refl)

-- of a later turn, or of another offer
pub an_entry_that_is_no_outcome : (cancel (at_turn 5 (Withdraw 0 3) ∷ []) (offered_as 3 five ∷ []) ≡ Over None)
    × (cancel (at_turn 4 (Withdraw 0 2) ∷ []) (offered_as 3 five ∷ []) ≡ Over None)
an_entry_that_is_no_outcome = (refl, refl)

-- the core is seen in the middle of its cancel, and it is not idle
pub without_an_entry_the_run_stops : cancel [] (offered_as 3 five ∷ six ∷ [])
    ≡ Over (Some (record {
      word = Stalled;
      steps = 0;
      output = [];
      globals = pos 7 ∷ pos 8 ∷ [];
      waiting = record { link = 0; phase = phase.Offered } ∷ record { link = 0; phase = phase.Waiting } ∷ [];
      idle = false;
    }))
without_an_entry_the_run_stops = refl

-- a request that the worker did not begin never happens; one that it has begun waits on for its answer, and is not tried again
pub a_request_is_not_begun_or_stays : (cancel (at_turn 4 (Withdraw 2 0) ∷ []) (offered_as 0 reads ∷ writes ∷ [])
    ≡ On (record { todo = []; made = has_ended_as (negsuc 0) store (writes ∷ []) (offered_as 0 reads) }))
    × (cancel (at_turn 4 (Know 2 0) ∷ []) (offered_as 0 reads ∷ writes ∷ []) ≡ On (record { todo = []; made = goes_on_waiting store (begun_reads ∷ writes ∷ []) }))
    × (cancel [] (begun_reads ∷ writes ∷ []) ≡ On (record { todo = []; made = has_ended_as (negsuc 0) store (begun_reads ∷ []) writes }))
    × (cancel (at_turn 4 (Withdraw 2 0) ∷ []) (begun_reads ∷ []) ≡ over)
a_request_is_not_begun_or_stays = (refl, refl, refl, refl)

pub what_is_to_be_tried : (is_to_try inside five ≡ true) × (is_to_try inside six ≡ false) × (is_to_try inside (offered_as 0 reads) ≡ true) × (is_to_try inside begun_reads ≡ false)
what_is_to_be_tried = (refl, refl, refl, refl)

-- of the second thread nothing is tried, however far it has come
pub what_is_not_inside_stays : (cancel (at_turn 4 (Withdraw 0 3) ∷ []) (offered_as 3 six ∷ []) ≡ over) × (cancel [] [] ≡ over)
what_is_not_inside_stays = (refl, refl)

pub its_parts : (e : Entry) → (tried (λ seen. seen) (shared []) [] [] 0 Waiting (λ s it. On it) ≡ On NeverHappens)
    × (tried (λ seen. seen) (shared []) [] [] 0 (Offered 3) (λ s it. On it) ≡ decided (λ seen. seen) (shared []) [] [] 0 3 (λ s it. On it) [])
    × (tried (λ seen. seen) (shared []) [] [] 0 (Started 3) (λ s it. On it) ≡ Over None)
    × (decided (λ seen. seen) (shared []) [] [] 0 3 (λ s it. On it) (at_turn 4 (Know 0 3) ∷ e ∷ []) ≡ On IsTaken)
    × (goes_by {S = Fate} {E = Option CoreEnd} (λ seen. seen) (λ it. On it) None ≡ Over None)
    × (tries (λ seen. seen) (shared []) store (five ∷ []) inside kept over (Some five) ≡ kept (shared []) (has_ended_as (negsuc 0) store [] five))
    × (by_outcome NeverHappens store inside (six ∷ five ∷ []) five ≡ has_ended_as (negsuc 0) store (six ∷ []) five)
    × (by_outcome IsTaken store inside (six ∷ offered_as 0 reads ∷ []) (offered_as 0 reads) ≡ goes_on_waiting store (six ∷ as_begun (offered_as 0 reads) ∷ []))
    × (with_entry (shared (e ∷ [])) e [] ≡ record (shared []) { past = e ∷ [] })
its_parts e = (refl, refl, refl, refl, refl, refl, refl, refl, refl)

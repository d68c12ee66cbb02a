-- What small journals hold, by what they store: the ints of a message after its first are found in the list, wherever they stand.
use Rattle.std.proofs.Common.{◌≡◌, refl, pos, ◌≤◌, ℤ, List, [], ◌∷◌, true, false, arith}
use Rattle.ac_base.specs.declared.entry.Answer.TheVariants.{Fault}
use Rattle.ac_base.specs.declared.entry.Payload.TheVariants as payload
use Rattle.ac_base.specs.declared.entry.Event.TheVariants as event
use Rattle.ac_base.specs.declared.stored.StoredMessage.{StoredMessage}
use Rattle.ac_base.specs.declared.stored.StoredEvent.TheVariants.{Send, Write, Know, Got}
use Rattle.ac_base.specs.declared.stored.StoredEntry.{StoredEntry}
use Rattle.ac_base.specs.Done.{is_done_on}
use Rattle.ac_base.specs.Stored.{ints_of, event_of, entry_of, entries_from, IsWhole, HasInts, HaveInts}

-- the further ints of two messages: 5 of one, and then 6 and 7 of the other
abbrev pub further : List ℤ
further = pos 5 ∷ pos 6 ∷ pos 7 ∷ []

abbrev pub two_ints : StoredMessage
two_ints = record { first = pos 1; start = 0; count = 1 }

abbrev pub three_ints : StoredMessage
three_ints = record { first = pos 2; start = 1; count = 2 }

-- it has no further ints, so none is there of it
abbrev pub one_int : StoredMessage
one_int = record { first = pos 3; start = 3; count = 0 }

-- ---- messages

pub their_ints : ints_of further two_ints ∷ ints_of further three_ints ∷ ints_of further one_int ∷ []
    ≡ (pos 1 ∷ pos 5 ∷ []) ∷ (pos 2 ∷ pos 6 ∷ pos 7 ∷ []) ∷ (pos 3 ∷ []) ∷ []
their_ints = refl

pub its_ints_are_there : IsWhole further three_ints
its_ints_are_there = record { there = omega arith; few = omega arith }

pub not_past_the_end : IsWhole further (record { first = pos 2; start = 2; count = 2 }) → ⊥
not_past_the_end w = let l : 4 ≤ 3 = w.there in absurd (omega arith)

-- ---- events

pub an_offer_of_three_ints : event_of further (Send 4 0 three_ints) ≡ event.Offer 4 0 (payload.Int (pos 2 ∷ pos 6 ∷ pos 7 ∷ []))
an_offer_of_three_ints = refl

pub an_offer_of_a_write : event_of further (Write 4 0 2 9 (65 ∷ [])) ≡ event.Offer 4 0 (payload.Write 2 9 (65 ∷ []))
an_offer_of_a_write = refl

pub two_ints_that_came : event_of further (Got 4 1 two_ints) ≡ event.Got 4 1 (pos 1 ∷ pos 5 ∷ [])
two_ints_that_came = refl

pub a_message_has_its_ints : HasInts further (Got 4 1 three_ints)
a_message_has_its_ints = its_ints_are_there

pub another_has_not : HasInts [] (Got 4 1 three_ints) → ⊥
another_has_not w = let l : 3 ≤ 0 = w.there in absurd (omega arith)

-- ---- a journal of three entries

abbrev pub stored : List StoredEntry
stored = record { stamp = 1; turn = 0; event = Send 4 0 two_ints }
    ∷ record { stamp = 3; turn = 0; event = Know 4 0 }
    ∷ record { stamp = 4; turn = 2; event = Got 5 0 three_ints }
    ∷ []

pub its_entries : entries_from further stored
    ≡ record { stamp = 1; turn = 0; event = event.Offer 4 0 (payload.Int (pos 1 ∷ pos 5 ∷ [])) }
    ∷ record { stamp = 3; turn = 0; event = event.Know 4 0 }
    ∷ record { stamp = 4; turn = 2; event = event.Got 5 0 (pos 2 ∷ pos 6 ∷ pos 7 ∷ []) }
    ∷ []
its_entries = refl

pub one_of_them : entry_of further (record { stamp = 3; turn = 0; event = Know 4 0 }) ≡ record { stamp = 3; turn = 0; event = event.Know 4 0 }
one_of_them = refl

pub they_have_their_ints : HaveInts further stored
they_have_their_ints = (record { there = omega arith; few = omega arith }, (tt, (its_ints_are_there, tt)))

pub not_with_ints_that_are_gone : HaveInts (pos 5 ∷ []) stored → ⊥
not_with_ints_that_are_gone h = let l : 3 ≤ 1 = h.1.1.0.there in absurd (omega arith)

-- ---- what was done

pub which_are_done : is_done_on 1 (event.Did 1 0 (Fault 0)) ∷ is_done_on 2 (event.Did 1 0 (Fault 0)) ∷ is_done_on 1 (event.Pass 1 0) ∷ is_done_on 1 (event.Reply 1 0 (Fault 0)) ∷ []
    ≡ true ∷ false ∷ false ∷ false ∷ []
which_are_done = refl

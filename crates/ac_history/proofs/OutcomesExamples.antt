-- What becomes of an offer in small histories: one that is withdrawn, and one that is taken.
-- All by computing, but for the two that take a law as their hypothesis.
use Rattle.std.proofs.Common.{◌≡◌, ◌+◌, ◌≤◌, List, [], ◌∷◌, refl}
use Rattle.std.specs.Prelude.{pos}
use Rattle.ac_base.specs.declared.entry.Payload.TheVariants.{Int}
use Rattle.ac_base.specs.declared.entry.Answer.TheVariants.{Count}
use Rattle.ac_base.specs.declared.entry.Event.TheVariants.{Offer, Withdraw, Room, Got, Pass, Did}
use Rattle.ac_base.specs.declared.entry.Stamped.{Stamped}
use Rattle.ac_history.specs.History.{IsLegal}
use Rattle.ac_history.specs.Outcomes.{is_withdrawal, is_taking, is_news, times, OffersEndOnce, WhatIsKnownWasTaken}
use Rattle.ac_history.proofs.Examples.{by, capacities, widths, message, nothing_yet, a_message_crosses}

abbrev given_up : List Stamped
given_up = by 0 1 1 (Offer 0 0 (Int (pos 5 ∷ []))) ∷ by 0 2 1 (Withdraw 0 0) ∷ by 1 3 1 (Pass 0 0) ∷ by 0 4 1 (Room 0 0) ∷ []

pub it_is_given_up : IsLegal nothing_yet given_up
it_is_given_up = (refl, (refl, (refl, (refl, tt))))

pub it_is_withdrawn_once : times (is_withdrawal 0 0) given_up ∷ times (is_taking 0 0) given_up ∷ times (is_news 0 0) given_up ∷ [] ≡ 1 ∷ 0 ∷ 0 ∷ []
it_is_withdrawn_once = refl

pub nothing_of_another_number : times (is_withdrawal 0 1) given_up ∷ times (is_withdrawal 1 0) given_up ∷ [] ≡ 0 ∷ 0 ∷ []
nothing_of_another_number = refl

pub it_is_taken_once : times (is_withdrawal 0 0) message ∷ times (is_taking 0 0) message ∷ times (is_news 0 0) message ∷ [] ≡ 0 ∷ 1 ∷ 1 ∷ []
it_is_taken_once = refl

pub a_request_that_is_done_is_taken : times (is_taking 1 0) (by 2 2 0 (Did 1 0 (Count 1)) ∷ []) ≡ 1
a_request_that_is_done_is_taken = refl

-- what was withdrawn is not got any more, and what was got is not withdrawn
pub too_late_to_take_it : IsLegal nothing_yet (by 0 1 1 (Offer 0 0 (Int (pos 5 ∷ []))) ∷ by 0 2 1 (Withdraw 0 0) ∷ by 1 3 1 (Got 0 0 (pos 5 ∷ [])) ∷ []) → ⊥
too_late_to_take_it h = let e = h.1.1.0 in cc

pub too_late_to_withdraw_it : IsLegal nothing_yet (by 0 1 1 (Offer 0 0 (Int (pos 5 ∷ []))) ∷ by 1 2 1 (Got 0 0 (pos 5 ∷ [])) ∷ by 0 3 1 (Withdraw 0 0) ∷ []) → ⊥
too_late_to_withdraw_it h = let e = h.1.1.0 in cc

-- ---- by the law

pub no_message_moved : OffersEndOnce → times (is_withdrawal 0 0) given_up + times (is_taking 0 0) given_up ≤ 1
no_message_moved law = law capacities widths 2 given_up 0 0 it_is_given_up

pub the_message_moved : WhatIsKnownWasTaken → 1 ≤ times (is_news 0 0) message → times (is_taking 0 0) message ≡ 1
the_message_moved law known = law capacities widths 2 message 0 0 a_message_crosses known

-- What the parts say of which the answers of a channel are made, and what the laws say of its two parties.
-- The parts hold by computing; the laws are taken as hypotheses.
use Rattle.std.proofs.Common.{◌≡◌, refl, [], ◌∷◌, Some, None, true, false}
use Rattle.std.specs.Prelude.{pos}
use Rattle.ac_base.specs.declared.entry.Payload.TheVariants.{Int}
use Rattle.ac_base.specs.declared.entry.Event.TheVariants as event
use Rattle.ac_links.specs.Views.{known_at, withdrawn_at}
use Rattle.ac_links.specs.Party.LinkEnd.{Owns, Decides}
use Rattle.core_channels.specs.declared.answers.Offering.TheVariants.{Offered, NoRoom, NotYet, ClockFull}
use Rattle.core_channels.specs.declared.answers.Learning.TheVariants as learn
use Rattle.core_channels.specs.declared.answers.Withdrawing.TheVariants as withdraw
use Rattle.core_channels.specs.declared.answers.Receiving.TheVariants as take
use Rattle.core_channels.specs.Offers.{placed_offer, stamped_offer, offer_by_room}
use Rattle.core_channels.specs.Learns.{learned_at, stamped_learning, decided_learning, learning_of}
use Rattle.core_channels.specs.Withdraws.{own_withdrawal, late_withdrawal, withdrawing_of}
use Rattle.core_channels.specs.Takes.{taken_decision, passed_at, took_at, receiving_one, receiving_of, with_decision}
use Rattle.core_channels.specs.Laws.{Enters, OfferEnters, LearningEnters, WithdrawalEnters, TakeEnters}
use Rattle.core_channels.proofs.Examples.{for_one, five, fresh, offered, taken}

-- ---- answers

pub parts_of_an_offer : placed_offer fresh (Int (pos 5 ∷ [])) 1 true ∷ placed_offer fresh (Int (pos 5 ∷ [])) 1 false ∷ stamped_offer fresh (Int (pos 5 ∷ [])) None ∷ []
    ≡ Offered 0 1 ∷ NotYet (Int (pos 5 ∷ [])) ∷ ClockFull (Int (pos 5 ∷ [])) ∷ []
parts_of_an_offer = refl

pub with_and_without_room : offer_by_room fresh (Int (pos 5 ∷ [])) 0 true ∷ offer_by_room fresh (Int (pos 5 ∷ [])) 0 false ∷ [] ≡ Offered 0 1 ∷ NoRoom (Int (pos 5 ∷ [])) ∷ []
with_and_without_room = refl

pub parts_of_what_is_learned : learned_at 0 5 true ∷ learned_at 0 5 false ∷ stamped_learning 0 true None ∷ stamped_learning 0 true (Some 5) ∷ []
    ≡ learn.Room 0 5 ∷ learn.Know 0 5 ∷ learn.ClockFull ∷ learn.Room 0 5 ∷ []
parts_of_what_is_learned = refl

pub decided_or_not : decided_learning 1 0 false None ∷ decided_learning 1 0 false (Some (taken_decision (pos 5 ∷ []) 4 1)) ∷ learning_of 1 0 None None ∷ learning_of 1 0 (Some five) None ∷ []
    ≡ learn.Undecided ∷ learn.Know 0 5 ∷ learn.AllKnown ∷ learn.Undecided ∷ []
decided_or_not = refl

pub parts_of_a_withdrawal : own_withdrawal None ∷ own_withdrawal (Some 2) ∷ late_withdrawal None ∷ late_withdrawal (Some 5) ∷ []
    ≡ withdraw.ClockFull ∷ withdraw.Withdrawn 2 ∷ withdraw.ClockFull ∷ withdraw.Taken 5 ∷ []
parts_of_a_withdrawal = refl

pub early_or_late : withdrawing_of 1 None ∷ withdrawing_of 1 (Some (taken_decision (pos 5 ∷ []) 4 1)) ∷ [] ≡ withdraw.Withdrawn 2 ∷ withdraw.Taken 5 ∷ []
early_or_late = refl

pub parts_of_what_is_received : passed_at 0 None ∷ passed_at 0 (Some 3) ∷ took_at 0 (Int (pos 5 ∷ [])) None ∷ took_at 0 (Int (pos 5 ∷ [])) (Some 2) ∷ []
    ≡ take.ClockFull ∷ take.Passed 0 3 ∷ take.ClockFull ∷ take.Took 0 (pos 5 ∷ []) 2 ∷ []
parts_of_what_is_received = refl

pub taken_or_passed : receiving_one 0 0 five None ∷ receiving_one 0 0 five (Some 2) ∷ receiving_of 0 0 None ∷ receiving_of 0 0 (Some five) ∷ []
    ≡ take.Took 0 (pos 5 ∷ []) 2 ∷ take.Passed 0 3 ∷ take.Nothing ∷ take.Took 0 (pos 5 ∷ []) 2 ∷ []
taken_or_passed = refl

pub one_decision_more : with_decision offered (taken_decision (pos 5 ∷ []) 4 1) ≡ taken
one_decision_more = refl

-- ---- what the laws say of channel 7, whose parties have made no entry that counts

pub its_first_offer : OfferEnters → Enters (λ l. for_one) (λ l. Owns []) [] 1 7 fresh (Some (record { event = event.Offer 7 0 (Int (pos 5 ∷ [])); stamp = 1 })) (Owns (five ∷ []))
its_first_offer law = law (λ l. for_one) (λ l. Owns []) [] 1 7 fresh (Int (pos 5 ∷ [])) refl refl refl

pub it_learns_of_the_taking : LearningEnters
    → Enters (λ l. for_one) (λ l. Owns (five ∷ [])) [] 1 7 taken (Some (record { event = event.Know 7 0; stamp = 5 })) (Owns (known_at 4 five ∷ []))
it_learns_of_the_taking law = law (λ l. for_one) (λ l. Owns (five ∷ [])) [] 1 7 taken refl refl

pub it_withdraws : WithdrawalEnters
    → Enters (λ l. for_one) (λ l. Owns (five ∷ [])) [] 1 7 offered (Some (record { event = event.Withdraw 7 0; stamp = 1 })) (Owns (withdrawn_at 1 five ∷ []))
it_withdraws law = law (λ l. for_one) (λ l. Owns (five ∷ [])) [] 1 7 0 offered refl refl refl

pub its_peer_takes : TakeEnters
    → Enters (λ l. for_one) (λ l. Decides []) [] 1 7 offered (Some (record { event = event.Got 7 0 (pos 5 ∷ []); stamp = 2 })) (Decides (taken_decision (pos 5 ∷ []) 2 1 ∷ []))
its_peer_takes law = law (λ l. for_one) (λ l. Decides []) [] 1 7 offered refl refl refl

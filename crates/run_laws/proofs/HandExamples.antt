-- What is at hand for a core, and what it has heard, on a channel for one message and on a link of requests.
use Rattle.std.proofs.Common.{◌≡◌, refl, ℕ, [], ◌∷◌, Some, None, true, false}
use Rattle.std.specs.Prelude.{pos}
use Rattle.ac_base.specs.declared.entry.Answer.{Answer}
use Rattle.ac_base.specs.declared.entry.Answer.TheVariants.{Bytes}
use Rattle.ac_base.specs.declared.entry.Payload.TheVariants.{Int, Read}
use Rattle.ac_links.specs.Views.{OwnerOffer, owner_offer, known_at, withdrawn_at, replied_with}
use Rattle.ac_links.specs.Party.LinkEnd.{Owns, Decides, Absent}
use Rattle.core_channels.specs.Counts.{no_calls}
use Rattle.core_channels.specs.LinkViews.{LinkViews}
use Rattle.core_channels.specs.Requests.{did_decision}
use Rattle.core_channels.specs.Takes.{taken_decision}
use Rattle.core_ports.specs.declared.side.Side.TheVariants.{Owner, Peer, Neither}
use Rattle.run_laws.specs.Ends.{receiving_end, end_at, end_of}
use Rattle.core_ports.specs.Ends.{greatest, last_stamp_of}
use Rattle.run_laws.specs.Hands.{has_decision, has_front, has_reply, next_reply, has_slot, hand_at, heard_at}

abbrev five : OwnerOffer
five = owner_offer (Int (pos 5 ∷ [])) 1

abbrev fresh : LinkViews
fresh = record { terms = record { capacity = 1; requests = false }; offers = []; decisions = []; spare = 1; counts = no_calls }

abbrev asking : LinkViews
asking = record fresh { terms = record { capacity = 16; requests = true } }

abbrev offered : LinkViews
offered = record fresh { offers = five ∷ []; spare = 0 }

abbrev taken : LinkViews
taken = record offered { decisions = taken_decision (pos 5 ∷ []) 4 1 ∷ [] }

abbrev known : LinkViews
known = record taken { offers = known_at 4 five ∷ [] }

abbrev withdrawn : LinkViews
withdrawn = record offered { offers = withdrawn_at 2 five ∷ [] }

-- a read of two bytes of a file that is empty: it was asked for, done, and known to be done
abbrev read : OwnerOffer
read = owner_offer (Read 0 0 2) 1

abbrev wanting : LinkViews
wanting = record asking { offers = read ∷ [] }

abbrev none_read : Answer
none_read = Bytes []

abbrev did : LinkViews
did = record wanting { decisions = did_decision none_read 4 1 ∷ [] }

abbrev known_done : LinkViews
known_done = record did { offers = known_at 4 read ∷ [] }

abbrev replied : LinkViews
replied = record did { offers = replied_with none_read 4 (known_at 4 read) ∷ [] }

-- ---- ends

pub messages_are_received : receiving_end taken ∷ receiving_end asking ∷ [] ≡ Decides (taken_decision (pos 5 ∷ []) 4 1 ∷ []) ∷ Absent ∷ []
messages_are_received = refl

pub both_ends : end_at taken Owner ∷ end_at taken Peer ∷ end_at taken Neither ∷ [] ≡ Owns (five ∷ []) ∷ Decides (taken_decision (pos 5 ∷ []) 4 1 ∷ []) ∷ Absent ∷ []
both_ends = refl

pub no_end_without_a_link : end_of Owner (Some offered) ∷ end_of Owner None ∷ [] ≡ Owns (five ∷ []) ∷ Absent ∷ []
no_end_without_a_link = refl

-- ---- what is at hand

pub a_taking_that_is_not_known : has_decision offered ∷ has_decision taken ∷ has_decision known ∷ [] ≡ false ∷ true ∷ false ∷ []
a_taking_that_is_not_known = refl

pub an_offer_that_is_not_taken : has_front fresh ∷ has_front offered ∷ has_front taken ∷ [] ≡ false ∷ true ∷ false ∷ []
an_offer_that_is_not_taken = refl

pub a_reply_that_was_not_had : has_reply wanting ∷ has_reply did ∷ has_reply known_done ∷ has_reply replied ∷ [] ≡ false ∷ true ∷ true ∷ false ∷ []
a_reply_that_was_not_had = refl

pub it_is_the_answer : next_reply known_done ≡ Some (record { answer = none_read; of = 4 })
it_is_the_answer = refl

pub it_is_at_hand : (hand_at known_done Owner).reply ≡ true
it_is_at_hand = refl

pub a_place : has_slot fresh ∷ has_slot offered ∷ [] ≡ true ∷ false ∷ []
a_place = refl

pub for_the_owner : hand_at taken Owner ∷ hand_at fresh Owner ∷ []
    ≡ record { decision = true; front = false; reply = false; slot = false } ∷ record { decision = false; front = false; reply = false; slot = true } ∷ []
for_the_owner = refl

pub for_the_peer : hand_at offered Peer ∷ hand_at offered Neither ∷ []
    ≡ record { decision = false; front = true; reply = false; slot = false } ∷ record { decision = false; front = false; reply = false; slot = false } ∷ []
for_the_peer = refl

pub the_greatest : greatest (λ (n : ℕ). n) (3 ∷ 7 ∷ 5 ∷ []) ∷ greatest (λ (n : ℕ). n) [] ∷ [] ≡ 7 ∷ 0 ∷ []
the_greatest = refl

pub its_withdrawal_is_later : last_stamp_of five ∷ last_stamp_of (withdrawn_at 2 five) ∷ [] ≡ 1 ∷ 2 ∷ []
its_withdrawal_is_later = refl

pub of_the_other_side : heard_at taken Owner ∷ heard_at taken Peer ∷ heard_at withdrawn Peer ∷ heard_at taken Neither ∷ [] ≡ 4 ∷ 1 ∷ 2 ∷ 0 ∷ []
of_the_other_side = refl

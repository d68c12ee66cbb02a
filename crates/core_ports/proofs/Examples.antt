-- What the definitions say of a core that sends on channel 0, for one message, and receives on channel 1.
use Rattle.std.proofs.Common.{◌≡◌, refl, ℕ, suc, max, [], ◌∷◌, Some, None, true, false, arith}
use Rattle.std.specs.Prelude.{pos}
use Rattle.std.proofs.lemmas.Bool.Decides.{nat_tests}
use Rattle.ac_base.specs.declared.entry.Payload.TheVariants.{Int, Read}
use Rattle.ac_base.specs.declared.entry.Answer.TheVariants.{Count}
use Rattle.ac_base.specs.declared.entry.Event.TheVariants as event
use Rattle.ac_links.specs.declared.payloads.Terms.{Terms}
use Rattle.ac_links.specs.Views.{OwnerOffer, PeerDecision, owner_offer, known_at, withdrawn_at, replied_with, decision_of}
use Rattle.ac_links.specs.Party.{with_end}
use Rattle.ac_links.specs.Party.LinkEnd.{Owns, Decides, Absent}
use Rattle.ac_links.proofs.Examples.{at, offer_five, terms_of_links, its_ends, not_known, sent, its_journal_agrees}
use Rattle.core_channels.specs.declared.answers.Offering.TheVariants.{Offered, NoRoom, NotYet, ClockFull}
use Rattle.core_channels.specs.declared.answers.Withdrawing.TheVariants as withdraw
use Rattle.core_channels.specs.declared.answers.Arrived.TheVariants as arrived
use Rattle.core_ports.specs.Ends.{is_owner, is_peer, is_held, offers_of, offer_at, has_room, is_known, awaits_reply, IsUpTo, AreUpTo}
use Rattle.core_ports.specs.Tells.{told_by_arrival, Tells, recorded}
use Rattle.core_ports.specs.AtHand.{AtHand}
use Rattle.core_ports.specs.Counts.{with_one_more}
use Rattle.core_ports.specs.Answers.{IsOfferAnswer, IsWithdrawalAnswer, IsPollAnswer, is_full_offering, is_full_withdrawal, is_full_arrival}
use Rattle.core_ports.specs.Laws.{GoesOn, CoreGoesOn, ClockIsUpToAll}
use Rattle.core_ports.proofs.GoingOn.{core_goes_on}
use Rattle.core_ports.proofs.UpTo.{up_to_all}

abbrev for_one : Terms
for_one = record { capacity = 1; requests = false }

abbrev asking : Terms
asking = record { capacity = 16; requests = true }

-- 5, offered by an entry of stamp 1
abbrev five : OwnerOffer
five = owner_offer (Int (pos 5 ∷ [])) 1

-- 7, taken by an entry of stamp 4 that answers an offer of stamp 3
abbrev seven : PeerDecision
seven = decision_of 4 3 (event.Got 1 0 (pos 7 ∷ []))

abbrev a_read : OwnerOffer
a_read = owner_offer (Read 0 0 4) 1

abbrev none_at_hand : AtHand
none_at_hand = record { decision = false; front = false; reply = false; slot = false }

abbrev last_stamp : ℕ
last_stamp = 1152921504606846975

not_its_follower : (n : ℕ) → suc n ≡ n → ⊥
not_its_follower n h = omega arith

-- ---- ends

pub sides : is_owner (Owns []) ∷ is_peer (Owns []) ∷ is_held (Owns []) ∷ is_owner (Decides []) ∷ is_peer (Decides []) ∷ is_held (Decides []) ∷ []
    ≡ true ∷ false ∷ true ∷ false ∷ true ∷ true ∷ []
sides = refl

pub no_end_of_ours : is_owner Absent ∷ is_peer Absent ∷ is_held Absent ∷ [] ≡ false ∷ false ∷ false ∷ []
no_end_of_ours = refl

pub what_was_offered : offers_of (Owns (five ∷ [])) ∷ offers_of (Decides (seven ∷ [])) ∷ offers_of Absent ∷ [] ≡ (five ∷ []) ∷ [] ∷ [] ∷ []
what_was_offered = refl

pub the_first_offer : offer_at (Owns (five ∷ [])) 0 ∷ offer_at (Owns (five ∷ [])) 1 ∷ [] ≡ Some five ∷ None ∷ []
the_first_offer = refl

-- the room is back when the taking is known
pub room_for_one : has_room for_one (Owns []) ∷ has_room for_one (Owns (five ∷ [])) ∷ has_room for_one (Owns (known_at 4 five ∷ [])) ∷ [] ≡ true ∷ false ∷ true ∷ []
room_for_one = refl

pub known_or_not : is_known (Some (known_at 4 five)) ∷ is_known (Some five) ∷ is_known None ∷ [] ≡ true ∷ false ∷ false ∷ []
known_or_not = refl

pub a_read_that_was_taken : awaits_reply (Owns (known_at 4 a_read ∷ [])) ∷ awaits_reply (Owns (a_read ∷ [])) ∷ [] ≡ true ∷ false ∷ []
a_read_that_was_taken = refl

-- the second waits, and the first was withdrawn; or the first has its reply and there is no second
pub the_first_that_waits : awaits_reply (Owns (withdrawn_at 2 a_read ∷ known_at 4 a_read ∷ [])) ∷ awaits_reply (Owns (replied_with (Count 4) 4 (known_at 4 a_read) ∷ [])) ∷ [] ≡ true ∷ false ∷ []
the_first_that_waits = refl

pub up_to_four : IsUpTo 4 (Owns (known_at 4 five ∷ withdrawn_at 3 five ∷ []))
up_to_four = (
  record { made = omega arith; withdrawn = tt; known = omega arith; reply = tt },
  (record { made = omega arith; withdrawn = omega arith; known = tt; reply = tt }, tt),
)

pub the_taking_is_above_three : IsUpTo 3 (Owns (known_at 4 five ∷ [])) → ⊥
the_taking_is_above_three h = let k = h.0.known in omega arith

pub decided_up_to_four : IsUpTo 4 (Decides (seven ∷ []))
decided_up_to_four = (record { made = omega arith; answers = omega arith }, tt)

pub not_up_to_three : IsUpTo 3 (Decides (seven ∷ [])) → ⊥
not_up_to_three h = let k = h.0.made in omega arith

pub all_up_to_four : AreUpTo 4 (λ l. Decides (seven ∷ []))
all_up_to_four l = decided_up_to_four

pub not_all_up_to_three : AreUpTo 3 (λ l. Decides (seven ∷ [])) → ⊥
not_all_up_to_three h = not_up_to_three (h 1)

-- ---- entries

pub told_of_decisions : told_by_arrival 0 (arrived.Know 0 5) ∷ told_by_arrival 0 (arrived.Room 0 5) ∷ told_by_arrival 2 (arrived.Reply 0 (Count 2) 6) ∷ []
    ≡ Some (record { event = event.Know 0 0; stamp = 5 }) ∷ Some (record { event = event.Room 0 0; stamp = 5 }) ∷ Some (record { event = event.Reply 2 0 (Count 2); stamp = 6 }) ∷ []
told_of_decisions = refl

pub told_of_messages : told_by_arrival 1 (arrived.Got 0 (pos 7 ∷ []) 4) ∷ told_by_arrival 1 (arrived.Pass 0 4) ∷ []
    ≡ Some (record { event = event.Got 1 0 (pos 7 ∷ []); stamp = 4 }) ∷ Some (record { event = event.Pass 1 0; stamp = 4 }) ∷ []
told_of_messages = refl

pub nothing_is_told : told_by_arrival 1 arrived.Nothing ∷ told_by_arrival 1 arrived.NotYet ∷ told_by_arrival 1 arrived.ClockFull ∷ [] ≡ None ∷ None ∷ None ∷ []
nothing_is_told = refl

-- the taking, by an entry of stamp 4, is known by one of stamp 5
pub the_taking_is_told : Tells (λ l. for_one) (λ l. Owns (five ∷ [])) 1 (told_by_arrival 0 (arrived.Know 0 5)) (with_end (λ l. Owns (five ∷ [])) 0 (Owns (known_at 4 five ∷ []))) 5
the_taking_is_told = record { answers = 4; fits = refl; next = refl; noted = refl; ends = refl; clock = refl }

-- its stamp is that of no taking before the core's last entry
pub no_earlier_stamp : Tells (λ l. for_one) (λ l. Owns (five ∷ [])) 1 (told_by_arrival 0 (arrived.Know 0 1))
    (with_end (λ l. Owns (five ∷ [])) 0 (Owns (known_at 0 five ∷ []))) 1 → ⊥
no_earlier_stamp t = later t.answers t.next
  where
    later : (n : ℕ) → 1 ≡ suc (max 1 n) → ⊥
    later n h = grind (arith, nat_tests)

pub and_nothing_else : Tells (λ l. for_one) (λ l. Owns []) 1 None (λ l. Owns []) 1
and_nothing_else = (refl, refl)

pub the_clock_stays_then : Tells (λ l. for_one) (λ l. Owns []) 1 None (λ l. Owns []) 2 → ⊥
the_clock_stays_then t = not_its_follower 1 t.1

pub one_entry_or_none : recorded 3 (told_by_arrival 0 (arrived.Know 0 5)) ∷ recorded 3 None ∷ [] ≡ (record { stamp = 5; turn = 3; event = event.Know 0 0 } ∷ []) ∷ [] ∷ []
one_entry_or_none = refl

-- the owner of channel 0 knows of the taking of its offer
abbrev is_so_of_the_owner : CoreGoesOn → GoesOn terms_of_links 0 (its_ends not_known) (with_end (its_ends not_known) 0 (Owns (sent ∷ [])))
    (at 1 offer_five ∷ recorded 0 (Some (record { event = event.Know 0 0; stamp = 3 }))) 3
is_so_of_the_owner law = law terms_of_links 0 (its_ends not_known) (with_end (its_ends not_known) 0 (Owns (sent ∷ [])))
    (at 1 offer_five ∷ []) 0 (Some (record { event = event.Know 0 0; stamp = 3 })) 3
    its_journal_agrees (record { answers = 2; fits = refl; next = refl; noted = refl; ends = refl; clock = refl })

pub the_owner_goes_on : GoesOn terms_of_links 0 (its_ends not_known) (with_end (its_ends not_known) 0 (Owns (sent ∷ [])))
    (at 1 offer_five ∷ recorded 0 (Some (record { event = event.Know 0 0; stamp = 3 }))) 3
the_owner_goes_on = is_so_of_the_owner core_goes_on

abbrev is_so_of_its_clock : ClockIsUpToAll → AreUpTo 1 (its_ends not_known)
is_so_of_its_clock law = law terms_of_links 0 (its_ends not_known) (at 1 offer_five ∷ []) its_journal_agrees

pub its_clock_is_up_to_all : AreUpTo 1 (its_ends not_known)
its_clock_is_up_to_all = is_so_of_its_clock up_to_all

pub not_with_a_later_clock : GoesOn terms_of_links 0 (its_ends not_known) (its_ends not_known) (at 1 offer_five ∷ []) 2 → ⊥
not_with_a_later_clock g = not_its_follower 1 g.clock

-- ---- counts

pub one_count_rises : with_one_more (λ l. 5) 2 2 ∷ with_one_more (λ l. 5) 2 3 ∷ [] ≡ 6 ∷ 5 ∷ []
one_count_rises = refl

-- ---- answers to offers

pub an_offer_finds_room : IsOfferAnswer for_one (Owns []) none_at_hand 0 (Int (pos 5 ∷ [])) (Offered 0 1)
an_offer_finds_room = refl

pub no_room_for_a_second : IsOfferAnswer for_one (Owns (five ∷ [])) none_at_hand 1 (Int (pos 6 ∷ [])) (NoRoom (Int (pos 6 ∷ [])))
no_room_for_a_second = (refl, refl)

pub no_offer_without_room : IsOfferAnswer for_one (Owns (five ∷ [])) none_at_hand 1 (Int (pos 6 ∷ [])) (Offered 1 2) → ⊥
no_offer_without_room h = cc

pub there_is_room_for_the_first : IsOfferAnswer for_one (Owns []) none_at_hand 0 (Int (pos 5 ∷ [])) (NoRoom (Int (pos 5 ∷ []))) → ⊥
there_is_room_for_the_first h = let e = h.1 in cc

pub another_is_not_handed_back : IsOfferAnswer for_one (Owns (five ∷ [])) none_at_hand 1 (Int (pos 6 ∷ [])) (NoRoom (Int (pos 5 ∷ []))) → ⊥
another_is_not_handed_back h = let e = h.0 in cc

pub no_place_is_told : IsOfferAnswer for_one (Owns []) none_at_hand 0 (Int (pos 5 ∷ [])) (NotYet (Int (pos 5 ∷ [])))
no_place_is_told = (refl, refl, refl, refl)

pub a_slot_at_hand_is_a_place : IsOfferAnswer for_one (Owns []) (record none_at_hand { slot = true }) 0 (Int (pos 5 ∷ [])) (NotYet (Int (pos 5 ∷ []))) → ⊥
a_slot_at_hand_is_a_place h = let e = h.3 in cc

pub no_stamp_is_left : IsOfferAnswer for_one (Owns []) none_at_hand last_stamp (Int (pos 5 ∷ [])) (ClockFull (Int (pos 5 ∷ [])))
no_stamp_is_left = (refl, refl, refl)

pub a_stamp_is_left : IsOfferAnswer for_one (Owns []) none_at_hand 0 (Int (pos 5 ∷ [])) (ClockFull (Int (pos 5 ∷ []))) → ⊥
a_stamp_is_left h = let e = h.2 in cc

-- ---- answers to withdrawals

pub withdrawn_or_taken : IsWithdrawalAnswer 0 1 (withdraw.Withdrawn 2) × IsWithdrawalAnswer 4 1 (withdraw.Taken 5)
withdrawn_or_taken = (tt, tt)

pub no_stamp_after_the_taking : IsWithdrawalAnswer last_stamp 1 withdraw.ClockFull
no_stamp_after_the_taking = refl

pub a_stamp_after_the_taking : IsWithdrawalAnswer 4 1 withdraw.ClockFull → ⊥
a_stamp_after_the_taking h = cc

-- ---- answers to polls

pub the_first_that_is_not_known : IsPollAnswer for_one (Owns (known_at 2 five ∷ five ∷ [])) none_at_hand false 4 1 (arrived.Know 1 5)
the_first_that_is_not_known = refl

pub no_later_one : IsPollAnswer for_one (Owns (five ∷ five ∷ [])) none_at_hand false 4 1 (arrived.Room 1 5) → ⊥
no_later_one h = not_its_follower 0 h

pub a_message_that_is_wanted : IsPollAnswer for_one (Decides []) none_at_hand true 3 1 (arrived.Got 0 (pos 7 ∷ []) 4)
a_message_that_is_wanted = refl

pub none_that_is_not_wanted : IsPollAnswer for_one (Decides []) none_at_hand false 3 1 (arrived.Pass 0 4) → ⊥
none_that_is_not_wanted h = cc

pub a_reply_that_is_wanted : IsPollAnswer asking (Owns (known_at 4 a_read ∷ [])) none_at_hand true 4 5 (arrived.Reply 0 (Count 2) 6)
a_reply_that_is_wanted = (refl, refl, refl, refl)

pub no_reply_to_one_that_is_not_known : IsPollAnswer asking (Owns (a_read ∷ [])) none_at_hand true 4 5 (arrived.Reply 0 (Count 2) 6) → ⊥
no_reply_to_one_that_is_not_known h = let e = h.3 in cc

pub no_reply_on_a_channel : IsPollAnswer for_one (Owns (known_at 4 five ∷ [])) none_at_hand true 4 5 (arrived.Reply 0 (Count 2) 6) → ⊥
no_reply_on_a_channel h = let e = h.1 in cc

pub nothing_is_there : IsPollAnswer for_one (Owns []) none_at_hand true 0 1 arrived.Nothing
nothing_is_there = record { decision = refl; front = λ w. refl; reply = λ w waits. refl }

pub a_decision_at_hand_is_not_missed : IsPollAnswer for_one (Owns (five ∷ [])) (record none_at_hand { decision = true }) false 4 1 arrived.Nothing → ⊥
a_decision_at_hand_is_not_missed h = let e = h.decision in cc

pub nor_a_front_that_is_wanted : IsPollAnswer for_one (Decides []) (record none_at_hand { front = true }) true 3 1 arrived.NotYet → ⊥
nor_a_front_that_is_wanted h = let e = h.0.front refl in cc

pub a_front_that_is_not_wanted : IsPollAnswer for_one (Decides []) (record none_at_hand { front = true }) false 3 1 arrived.Nothing
a_front_that_is_not_wanted = record { decision = refl; front = λ w. cc; reply = λ w waits. refl }

pub not_yet_on_a_receiving_link : IsPollAnswer for_one (Decides []) none_at_hand true 3 1 arrived.NotYet
not_yet_on_a_receiving_link = (record { decision = refl; front = λ w. refl; reply = λ w waits. refl }, refl, refl)

pub not_on_a_sending_one : IsPollAnswer for_one (Owns []) none_at_hand true 0 1 arrived.NotYet → ⊥
not_on_a_sending_one h = let e = h.1 in cc

pub no_stamp_to_know : IsPollAnswer for_one (Owns (five ∷ [])) none_at_hand false last_stamp 1 arrived.ClockFull
no_stamp_to_know = (refl, λ w. cc)

pub a_stamp_to_know : IsPollAnswer for_one (Owns (five ∷ [])) none_at_hand false 4 1 arrived.ClockFull → ⊥
a_stamp_to_know h = let e = h.0 in cc

pub full_or_not : is_full_offering (ClockFull (Int (pos 5 ∷ []))) ∷ is_full_offering (NoRoom (Int (pos 5 ∷ []))) ∷ is_full_withdrawal withdraw.ClockFull ∷ is_full_withdrawal (withdraw.Taken 5)
    ∷ is_full_arrival arrived.ClockFull ∷ is_full_arrival arrived.Nothing ∷ [] ≡ true ∷ false ∷ true ∷ false ∷ true ∷ false ∷ []
full_or_not = refl

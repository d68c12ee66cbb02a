-- What the definitions say of a channel for one message, on which 5 is offered, taken and known, or withdrawn and passed.
-- Those that hold do so by computing.
use Rattle.std.proofs.Common.{◌≡◌, refl, ℕ, zero, suc, ◌<◌, [], ◌∷◌, Some, None, true, false, ap, arith, length}
use Rattle.std.specs.Prelude.{pos}
use Rattle.std.proofs.lemmas.List.Elements.{All-nil, All-cons}
use Rattle.ac_base.specs.declared.entry.Payload.TheVariants.{Int, Read}
use Rattle.ac_base.specs.declared.entry.Event.TheVariants as event
use Rattle.ac_links.specs.declared.payloads.Terms.{Terms}
use Rattle.ac_links.specs.Views.{OwnerOffer, owner_offer, known_at, withdrawn_at}
use Rattle.ac_links.specs.Party.LinkEnd.{Owns}
use Rattle.core_channels.specs.declared.answers.Offering.TheVariants.{Offered, NoRoom, NotYet, ClockFull}
use Rattle.core_channels.specs.declared.answers.Learning.TheVariants as learn
use Rattle.core_channels.specs.declared.answers.Withdrawing.TheVariants as withdraw
use Rattle.core_channels.specs.declared.answers.Receiving.TheVariants as take
use Rattle.core_channels.specs.declared.counts.Call.TheVariants.{OwnerLooks, OwnerTries, PeerLooks}
use Rattle.core_channels.specs.Counts.{counted, no_calls, counts_after}
use Rattle.core_channels.specs.LinkViews.{LinkViews, IsOffer, IsLink, no_link, link_at, with_link, with_call, without_spare, SameButSpares, SameTerms, new_link, terms_at, AreNew}
use Rattle.core_channels.specs.Offers.{has_room, offering, after_offering, offering_clock}
use Rattle.core_channels.specs.Learns.{learning, with_known, after_learning, learning_clock}
use Rattle.core_channels.specs.Withdraws.{withdrawing, after_withdrawing, withdrawing_clock}
use Rattle.core_channels.specs.Takes.{message_of, taken_decision, passed_decision, receiving, after_receiving, receiving_clock}
use Rattle.core_channels.specs.Laws.{told_by_offering, told_by_learning, told_by_withdrawing, told_by_receiving, Enters}

abbrev pub for_one : Terms
for_one = record { capacity = 1; requests = false }

abbrev pub five : OwnerOffer
five = owner_offer (Int (pos 5 ∷ [])) 1

abbrev pub fresh : LinkViews
fresh = record { terms = for_one; offers = []; decisions = []; spare = 1; counts = no_calls }

abbrev pub offered : LinkViews
offered = record fresh { offers = five ∷ []; spare = 0 }

abbrev pub taken : LinkViews
taken = record offered { decisions = taken_decision (pos 5 ∷ []) 4 1 ∷ [] }

abbrev pub known : LinkViews
known = record taken { offers = known_at 4 five ∷ [] }

abbrev pub withdrawn : LinkViews
withdrawn = record offered { offers = withdrawn_at 2 five ∷ [] }

abbrev pub passed : LinkViews
passed = record withdrawn { decisions = passed_decision 3 2 ∷ [] }

-- two were offered on a channel for two
abbrev pub both : LinkViews
both = record { terms = record { capacity = 2; requests = false }; offers = five ∷ owner_offer (Int (pos 6 ∷ [])) 2 ∷ []; decisions = []; spare = 0; counts = no_calls }

abbrev pub last_stamp : ℕ
last_stamp = 1152921504606846975

abbrev count_of : LinkViews → ℕ
count_of v = length v.offers

abbrev capacity_of : Terms → ℕ
capacity_of t = t.capacity

not_its_follower : (n : ℕ) → suc n ≡ n → ⊥
not_its_follower n h = omega arith

-- ---- offers

pub room_of_one : has_room fresh ∷ has_room offered ∷ has_room taken ∷ has_room known ∷ has_room both ∷ [] ≡ true ∷ false ∷ false ∷ true ∷ false ∷ []
room_of_one = refl

pub the_first_is_offered : offering fresh (Int (pos 5 ∷ [])) 0 ≡ Offered 0 1
the_first_is_offered = refl

pub a_second_has_no_room : offering offered (Int (pos 6 ∷ [])) 1 ≡ NoRoom (Int (pos 6 ∷ []))
a_second_has_no_room = refl

-- the room is not back before the taking is known
pub nor_after_the_taking : offering taken (Int (pos 6 ∷ [])) 1 ≡ NoRoom (Int (pos 6 ∷ []))
nor_after_the_taking = refl

pub nor_after_a_passing : offering passed (Int (pos 6 ∷ [])) 2 ≡ NoRoom (Int (pos 6 ∷ []))
nor_after_a_passing = refl

pub it_has_room_then : offering (record known { spare = 1 }) (Int (pos 6 ∷ [])) 5 ≡ Offered 1 6
it_has_room_then = refl

pub and_no_place_without_spare : offering known (Int (pos 6 ∷ [])) 5 ≡ NotYet (Int (pos 6 ∷ []))
and_no_place_without_spare = refl

pub the_last_stamp_is_used : offering fresh (Int (pos 5 ∷ [])) 1152921504606846974 ≡ Offered 0 last_stamp
the_last_stamp_is_used = refl

pub and_none_after_it : offering fresh (Int (pos 5 ∷ [])) last_stamp ≡ ClockFull (Int (pos 5 ∷ []))
and_none_after_it = refl

pub no_room_is_told_first : offering offered (Int (pos 6 ∷ [])) last_stamp ≡ NoRoom (Int (pos 6 ∷ []))
no_room_is_told_first = refl

pub no_spare_is_told_last : offering known (Int (pos 6 ∷ [])) last_stamp ≡ ClockFull (Int (pos 6 ∷ []))
no_spare_is_told_last = refl

pub an_offer_is_at_the_end : after_offering fresh (Int (pos 5 ∷ [])) (Offered 0 1) ≡ offered
an_offer_is_at_the_end = refl

pub what_is_not_offered_leaves_the_link : after_offering offered (Int (pos 6 ∷ [])) (NoRoom (Int (pos 6 ∷ []))) ≡ offered
what_is_not_offered_leaves_the_link = refl

pub the_clock_of_an_offer : offering_clock 0 (Offered 0 1) ∷ offering_clock 3 (NoRoom (Int (pos 6 ∷ []))) ∷ [] ≡ 1 ∷ 3 ∷ []
the_clock_of_an_offer = refl

-- ---- what is learned

pub nothing_to_learn : learning fresh 0 ∷ learning known 5 ∷ [] ≡ learn.AllKnown ∷ learn.AllKnown ∷ []
nothing_to_learn = refl

pub not_yet_decided : learning offered 1 ∷ learning withdrawn 2 ∷ [] ≡ learn.Undecided ∷ learn.Undecided ∷ []
not_yet_decided = refl

-- after the greater of the owner's own stamp and that of the taking
pub the_taking_is_known : learning taken 1 ∷ learning taken 7 ∷ [] ≡ learn.Know 0 5 ∷ learn.Know 0 8 ∷ []
the_taking_is_known = refl

pub the_room_is_back : learning passed 2 ≡ learn.Room 0 4
the_room_is_back = refl

pub no_stamp_to_know : learning taken last_stamp ≡ learn.ClockFull
no_stamp_to_know = refl

-- where a late withdrawal has told of the second, the first is next
pub a_later_one_may_be_known : learning (with_known (record both { decisions = taken_decision (pos 5 ∷ []) 3 1 ∷ taken_decision (pos 6 ∷ []) 4 2 ∷ [] }) 1) 5 ≡ learn.Know 0 6
a_later_one_may_be_known = refl

pub a_taking_that_is_known : after_learning taken (learn.Know 0 5) ≡ known
a_taking_that_is_known = refl

pub a_room_that_is_known : after_learning passed (learn.Room 0 4) ≡ record passed { offers = known_at 3 (withdrawn_at 2 five) ∷ [] }
a_room_that_is_known = refl

pub what_is_undecided_leaves_the_link : after_learning offered learn.Undecided ≡ offered
what_is_undecided_leaves_the_link = refl

pub the_clock_of_the_learner : learning_clock 1 (learn.Know 0 5) ∷ learning_clock 2 (learn.Room 0 4) ∷ learning_clock 1 learn.Undecided ∷ [] ≡ 5 ∷ 4 ∷ 1 ∷ []
the_clock_of_the_learner = refl

-- ---- withdrawals

pub it_is_withdrawn : withdrawing offered 0 1 ≡ withdraw.Withdrawn 2
it_is_withdrawn = refl

pub it_was_taken : withdrawing taken 0 1 ≡ withdraw.Taken 5
it_was_taken = refl

pub no_stamp_to_withdraw : withdrawing offered 0 last_stamp ∷ withdrawing taken 0 last_stamp ∷ [] ≡ withdraw.ClockFull ∷ withdraw.ClockFull ∷ []
no_stamp_to_withdraw = refl

pub after_its_withdrawal : after_withdrawing offered 0 (withdraw.Withdrawn 2) ≡ withdrawn
after_its_withdrawal = refl

pub after_a_late_one : after_withdrawing taken 0 (withdraw.Taken 5) ≡ known
after_a_late_one = refl

pub the_clock_of_a_withdrawal : withdrawing_clock 1 (withdraw.Withdrawn 2) ∷ withdrawing_clock 1 (withdraw.Taken 5) ∷ withdrawing_clock 1 withdraw.ClockFull ∷ [] ≡ 2 ∷ 5 ∷ 1 ∷ []
the_clock_of_a_withdrawal = refl

-- ---- what is received

pub messages : message_of (Int (pos 5 ∷ [])) ∷ message_of (Read 0 0 4) ∷ [] ≡ (pos 5 ∷ []) ∷ (pos 0 ∷ []) ∷ []
messages = refl

pub nothing_to_take : receiving fresh 0 ∷ receiving taken 4 ∷ [] ≡ take.Nothing ∷ take.Nothing ∷ []
nothing_to_take = refl

pub it_is_taken : receiving offered 3 ∷ receiving offered 0 ∷ [] ≡ take.Took 0 (pos 5 ∷ []) 4 ∷ take.Took 0 (pos 5 ∷ []) 2 ∷ []
it_is_taken = refl

pub a_withdrawn_one_is_passed : receiving withdrawn 0 ≡ take.Passed 0 3
a_withdrawn_one_is_passed = refl

pub the_first_comes_first : receiving both 0 ∷ receiving (record both { decisions = taken_decision (pos 5 ∷ []) 2 1 ∷ [] }) 2 ∷ [] ≡ take.Took 0 (pos 5 ∷ []) 2 ∷ take.Took 1 (pos 6 ∷ []) 3 ∷ []
the_first_comes_first = refl

pub no_stamp_to_take : receiving offered last_stamp ∷ receiving withdrawn last_stamp ∷ [] ≡ take.ClockFull ∷ take.ClockFull ∷ []
no_stamp_to_take = refl

pub after_its_taking : after_receiving offered (take.Took 0 (pos 5 ∷ []) 4) ≡ taken
after_its_taking = refl

pub after_its_passing : after_receiving withdrawn (take.Passed 0 3) ≡ passed
after_its_passing = refl

pub the_clock_of_the_receiver : receiving_clock 3 (take.Took 0 (pos 5 ∷ []) 4) ∷ receiving_clock 0 (take.Passed 0 3) ∷ receiving_clock 3 take.Nothing ∷ [] ≡ 4 ∷ 3 ∷ 3 ∷ []
the_clock_of_the_receiver = refl

-- ---- counts of calls

pub counts_stay_at_the_last_value : counted 0 ∷ counted 18446744073709551614 ∷ counted 18446744073709551615 ∷ [] ≡ 1 ∷ 18446744073709551615 ∷ 18446744073709551615 ∷ []
counts_stay_at_the_last_value = refl

pub each_call_has_its_count : counts_after no_calls OwnerLooks ∷ counts_after no_calls OwnerTries ∷ counts_after no_calls PeerLooks ∷ []
    ≡ record { owner_looks = 1; owner_tries = 0; peer_looks = 0 } ∷ record { owner_looks = 0; owner_tries = 1; peer_looks = 0 } ∷ record { owner_looks = 0; owner_tries = 0; peer_looks = 1 } ∷ []
each_call_has_its_count = refl

pub a_look_is_counted : with_call offered PeerLooks ≡ record offered { counts = record { owner_looks = 0; owner_tries = 0; peer_looks = 1 } }
a_look_is_counted = refl

-- ---- links and tables of them

pub it_is_a_link : IsLink passed
it_is_a_link = record {
  agree = ((omega arith, (refl, refl), tt, omega arith, tt), tt);
  each = All-cons (IsOffer false) (withdrawn_at 2 five) [] (record { carried = refl; later = omega arith }) (All-nil (IsOffer false));
}

-- its offer was not withdrawn before it was made
pub not_withdrawn_before : IsOffer false (withdrawn_at 1 five) → ⊥
not_withdrawn_before h = let l = h.later in omega arith

pub no_request_on_a_channel : IsOffer false (owner_offer (Read 0 0 4) 1) → ⊥
no_request_on_a_channel h = let e = h.carried in cc

-- no decision without an offer
pub nothing_is_taken_of_nothing : IsLink (record taken { offers = [] }) → ⊥
nothing_is_taken_of_nothing h = h.agree

pub links_by_number : link_at (fresh ∷ offered ∷ []) 1 ∷ link_at (fresh ∷ offered ∷ []) 2 ∷ [] ≡ offered ∷ no_link ∷ []
links_by_number = refl

pub one_is_changed : with_link (fresh ∷ fresh ∷ []) 1 offered ≡ fresh ∷ offered ∷ []
one_is_changed = refl

pub with_places_made : SameButSpares (offered ∷ []) (record offered { spare = 64 } ∷ [])
with_places_made = record { count = refl; each = at }
  where
    at : (l : ℕ) → without_spare (link_at (record offered { spare = 64 } ∷ []) l) ≡ without_spare (link_at (offered ∷ []) l)
    at zero = refl
    at (suc l) = refl

pub an_offer_is_more_than_a_place : SameButSpares (fresh ∷ []) (offered ∷ []) → ⊥
an_offer_is_more_than_a_place h = not_its_follower 0 (ap count_of (h.each 0))

pub after_an_offer : SameTerms (fresh ∷ []) (offered ∷ [])
after_an_offer = record { count = refl; each = at }
  where
    at : (l : ℕ) → (link_at (offered ∷ []) l).terms ≡ (link_at (fresh ∷ []) l).terms
    at zero = refl
    at (suc l) = refl

pub another_capacity : SameTerms (fresh ∷ []) (both ∷ []) → ⊥
another_capacity h = not_its_follower 1 (ap capacity_of (h.each 0))

-- a channel for one message, and a link of sixteen requests
pub the_second_carries_requests : terms_at 1 (1 ∷ 16 ∷ []) 0 ∷ terms_at 1 (1 ∷ 16 ∷ []) 1 ∷ [] ≡ for_one ∷ record { capacity = 16; requests = true } ∷ []
the_second_carries_requests = refl

pub a_new_one : without_spare fresh ≡ new_link for_one
a_new_one = refl

pub one_new_channel : AreNew 1 (1 ∷ []) (fresh ∷ [])
one_new_channel = record { count = refl; each = at }
  where
    at : (l : ℕ) → l < 1 → without_spare (link_at (fresh ∷ []) l) ≡ new_link (terms_at 1 (1 ∷ []) l)
    at zero h = refl
    at (suc l) h = absurd (omega arith)

pub one_with_an_offer_is_not_new : AreNew 1 (1 ∷ []) (offered ∷ []) → ⊥
one_with_an_offer_is_not_new h = not_its_follower 0 (ap count_of (h.each 0 (omega arith)))

-- ---- entries

pub told_of_offers : told_by_offering 7 (Int (pos 5 ∷ [])) (Offered 0 1) ∷ told_by_offering 7 (Int (pos 5 ∷ [])) (NoRoom (Int (pos 5 ∷ []))) ∷ []
    ≡ Some (record { event = event.Offer 7 0 (Int (pos 5 ∷ [])); stamp = 1 }) ∷ None ∷ []
told_of_offers = refl

pub told_of_learning : told_by_learning 7 (learn.Know 0 5) ∷ told_by_learning 7 (learn.Room 0 4) ∷ told_by_learning 7 learn.Undecided ∷ []
    ≡ Some (record { event = event.Know 7 0; stamp = 5 }) ∷ Some (record { event = event.Room 7 0; stamp = 4 }) ∷ None ∷ []
told_of_learning = refl

pub told_of_withdrawals : told_by_withdrawing 7 0 (withdraw.Withdrawn 2) ∷ told_by_withdrawing 7 0 (withdraw.Taken 5) ∷ told_by_withdrawing 7 0 withdraw.ClockFull ∷ []
    ≡ Some (record { event = event.Withdraw 7 0; stamp = 2 }) ∷ Some (record { event = event.Know 7 0; stamp = 5 }) ∷ None ∷ []
told_of_withdrawals = refl

pub told_of_receiving : told_by_receiving 7 (take.Took 0 (pos 5 ∷ []) 4) ∷ told_by_receiving 7 (take.Passed 0 3) ∷ told_by_receiving 7 take.Nothing ∷ []
    ≡ Some (record { event = event.Got 7 0 (pos 5 ∷ []); stamp = 4 }) ∷ Some (record { event = event.Pass 7 0; stamp = 3 }) ∷ None ∷ []
told_of_receiving = refl

-- the owner of channel 7 enters its first offer
pub the_first_entry : Enters (λ l. for_one) (λ l. Owns []) [] 1 7 fresh (Some (record { event = event.Offer 7 0 (Int (pos 5 ∷ [])); stamp = 1 })) (Owns (five ∷ []))
the_first_entry = (record { fits = refl; next = refl; noted = refl }, refl)

pub not_with_a_later_stamp : Enters (λ l. for_one) (λ l. Owns []) [] 1 7 fresh (Some (record { event = event.Offer 7 0 (Int (pos 5 ∷ [])); stamp = 2 })) (Owns (five ∷ [])) → ⊥
not_with_a_later_stamp e = not_its_follower 1 e.0.next

pub nothing_is_entered : Enters (λ l. for_one) (λ l. Owns []) [] 1 7 fresh None (Owns [])
nothing_is_entered = refl

pub and_nothing_is_changed : Enters (λ l. for_one) (λ l. Owns []) [] 1 7 fresh None (Owns (five ∷ [])) → ⊥
and_nothing_is_changed e = cc

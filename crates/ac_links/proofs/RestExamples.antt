-- What two views make of a small link, and when nothing on it waits for one of its sides.
-- Those that hold do so by computing.
use Rattle.std.proofs.Common.{◌≡◌, refl, [], ◌∷◌, ◌++◌, Some, None, true, false, arith}
use Rattle.std.specs.Prelude.{pos}
use Rattle.ac_base.specs.declared.entry.Payload.TheVariants.{Int}
use Rattle.ac_base.specs.declared.entry.Answer.TheVariants.{Count}
use Rattle.ac_base.specs.declared.entry.Event.TheVariants.{Know}
use Rattle.ac_links.specs.declared.offer.Standing.TheVariants.{Offered, Taken, Withdrawn, Passed}
use Rattle.ac_links.specs.declared.offer.LinkOffer.{LinkOffer}
use Rattle.ac_links.specs.Payloads.Taking.{Message, Done}
use Rattle.ac_links.specs.Link.{taken_with, now_taken, now_known, now_replied, new_offer, link_after}
use Rattle.ac_links.specs.Order.{stamp_of, of_party, in_order}
use Rattle.ac_links.specs.Noted.{owner_noted, peer_noted}
use Rattle.ac_links.specs.Combined.{undecided_standing, undecided_stamp, decided_standing, decided_answer, link_offer_of, combine, link_after_all}
use Rattle.ac_links.specs.AtRest.{has_front, has_room, is_news, is_unreplied, OwnerHasNothing, PeerHasNothing, OwnerRests, PeerRests}
use Rattle.ac_links.specs.Laws.{TwoViewsEndAsALink, OwnerAtRest, PeerAtRest}
use Rattle.ac_links.proofs.Examples.{write_two, channel, offered, got, withdrawn, passed, asking, written, one_sends, one_receives, stamps_that_rise}
use Rattle.ac_links.proofs.Examples.{sent, received, taken_back, not_known, first_passed, second_request, second_done}
use Rattle.ac_links.proofs.Examples.{the_owner_came_to_its_view, the_peer_came_to_its_view, the_views_agree}

-- ---- the link as the two views make it

pub as_its_owner_left_it : undecided_standing None ∷ undecided_standing (Some 2) ∷ [] ≡ Offered ∷ Withdrawn ∷ []
as_its_owner_left_it = refl

pub when_its_owner_left_it : undecided_stamp 1 None ∷ undecided_stamp 1 (Some 2) ∷ [] ≡ 1 ∷ 2 ∷ []
when_its_owner_left_it = refl

pub as_its_peer_decided_it : decided_standing None ∷ decided_standing (Some (Message (pos 5 ∷ []))) ∷ [] ≡ Passed ∷ Taken ∷ []
as_its_peer_decided_it = refl

pub only_a_request_is_answered : decided_answer (Some (Done (Count 2))) ∷ decided_answer (Some (Message (pos 5 ∷ []))) ∷ decided_answer None ∷ [] ≡ Some (Count 2) ∷ None ∷ None ∷ []
only_a_request_is_answered = refl

pub one_that_is_not_decided : link_offer_of not_known None ≡ new_offer (Int (pos 5 ∷ [])) 1
one_that_is_not_decided = refl

pub offered_alone : combine (not_known ∷ []) [] ≡ offered
offered_alone = refl

pub withdrawn_alone : combine (taken_back ∷ []) [] ≡ withdrawn
withdrawn_alone = refl

pub withdrawn_and_passed : combine (taken_back ∷ []) (first_passed ∷ []) ≡ passed
withdrawn_and_passed = refl

pub taken_and_known : combine (sent ∷ []) (received ∷ []) ≡ link_after got 3 (Know 0 0)
taken_and_known = refl

pub entry_by_entry : link_after_all [] (in_order stamp_of (of_party 0 one_sends ++ of_party 1 one_receives)) ≡ link_after got 3 (Know 0 0)
entry_by_entry = refl

-- ---- what waits on a link as it stands

pub an_offer_waits_until_it_is_decided : has_front offered ∷ has_front withdrawn ∷ has_front got ∷ has_front passed ∷ has_front [] ∷ [] ≡ true ∷ true ∷ false ∷ false ∷ false ∷ []
an_offer_waits_until_it_is_decided = refl

pub room_by_what_is_known : has_room channel [] ∷ has_room channel got ∷ has_room channel (link_after got 3 (Know 0 0)) ∷ [] ≡ true ∷ false ∷ true ∷ []
room_by_what_is_known = refl

abbrev taken_five : LinkOffer
taken_five = now_taken (Message (pos 5 ∷ [])) 2 (new_offer (Int (pos 5 ∷ [])) 1)

pub news_until_it_is_known : is_news (new_offer (Int (pos 5 ∷ [])) 1) ∷ is_news taken_five ∷ is_news (now_known taken_five) ∷ [] ≡ false ∷ true ∷ false ∷ []
news_until_it_is_known = refl

abbrev done_write : LinkOffer
done_write = taken_with (Some (Count 2)) 2 (new_offer write_two 1)

pub unreplied_until_the_reply_came : is_unreplied (new_offer write_two 1) ∷ is_unreplied done_write ∷ is_unreplied (now_replied done_write) ∷ is_unreplied taken_five ∷ []
    ≡ false ∷ true ∷ false ∷ false ∷ []
unreplied_until_the_reply_came = refl

pub nothing_for_an_owner_without_room : OwnerHasNothing channel true offered
nothing_for_an_owner_without_room = record { known = (refl, tt); replied = (refl, tt); full = λ w. refl }

pub room_is_something : OwnerHasNothing channel true [] → ⊥
room_is_something h = let e = h.full refl in cc

pub and_nothing_to_one_that_does_not_wait : OwnerHasNothing channel false []
and_nothing_to_one_that_does_not_wait = record { known = tt; replied = tt; full = λ w. let e = w in cc }

pub a_taking_is_something : OwnerHasNothing channel false got → ⊥
a_taking_is_something h = let e = h.known.0 in cc

pub so_is_a_passing : OwnerHasNothing channel false passed → ⊥
so_is_a_passing h = let e = h.known.0 in cc

pub a_reply_is_something : OwnerHasNothing asking false (link_after written 3 (Know 1 0)) → ⊥
a_reply_is_something h = let e = h.replied.0 in cc

pub nothing_for_a_peer_that_took_all : PeerHasNothing true got
nothing_for_a_peer_that_took_all = λ w. refl

pub an_offer_is_something : PeerHasNothing true offered → ⊥
an_offer_is_something h = let e = h refl in cc

-- ---- what the two views tell

pub an_owner_without_room : OwnerRests channel true (not_known ∷ []) []
an_owner_without_room = record { known = omega arith; replied = refl; full = λ w. refl }

pub one_that_has_to_learn : OwnerRests channel false (not_known ∷ []) (received ∷ []) → ⊥
one_that_has_to_learn h = let e = h.known in absurd (omega arith)

pub one_with_room : OwnerRests channel true (sent ∷ []) (received ∷ []) → ⊥
one_with_room h = let e = h.full refl in cc

pub one_with_a_reply_on_its_way : OwnerRests asking false (record second_request { known = Some 4 } ∷ []) (second_done ∷ []) → ⊥
one_with_a_reply_on_its_way h = let e = h.replied in cc

pub a_peer_that_took_all : PeerRests true (sent ∷ []) (received ∷ [])
a_peer_that_took_all = λ w. omega arith

pub one_with_an_offer : PeerRests true (not_known ∷ []) [] → ⊥
one_with_an_offer h = let e = h refl in absurd (omega arith)

-- ---- the laws

pub a_message_ends_as_its_views : TwoViewsEndAsALink → link_after_all [] (in_order stamp_of (of_party 0 one_sends ++ of_party 1 one_receives)) ≡ combine (sent ∷ []) (received ∷ [])
a_message_ends_as_its_views law =
    (law channel (sent ∷ []) (received ∷ []) (owner_noted (sent ∷ [])) (peer_noted (received ∷ [])) (of_party 0 one_sends) (of_party 1 one_receives) the_views_agree
    the_owner_came_to_its_view the_peer_came_to_its_view stamps_that_rise (tt, tt)).0

pub its_owner_rests : OwnerAtRest → OwnerHasNothing channel true (combine (not_known ∷ []) [])
its_owner_rests law = law channel true (not_known ∷ []) [] an_owner_without_room

pub its_peer_rests : PeerAtRest → PeerHasNothing true (combine (sent ∷ []) (received ∷ []))
its_peer_rests law = law true (sent ∷ []) (received ∷ []) the_views_agree a_peer_that_took_all

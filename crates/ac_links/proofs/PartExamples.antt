-- What the parts say of which the definitions of a link are made, for the small links of the other examples.
-- Those that hold do so by computing.
use Rattle.std.proofs.Common.{◌≡◌, refl, List, [], ◌∷◌, Some, None, true, false, arith}
use Rattle.std.specs.Prelude.{pos, slice_get}
use Rattle.ac_base.specs.declared.entry.Payload.TheVariants.{Int}
use Rattle.ac_base.specs.declared.entry.Answer.TheVariants.{Bytes, Count, Fault}
use Rattle.ac_base.specs.declared.entry.Event.TheVariants.{Offer, Withdraw, Know, Room, Got, Pass, Did, Reply}
use Rattle.ac_links.specs.declared.offer.LinkOffer.{LinkOffer}
use Rattle.ac_links.specs.declared.offer.Standing.TheVariants.{Offered, Taken, Withdrawn, Passed}
use Rattle.ac_links.specs.declared.payloads.Terms.{Terms}
use Rattle.ac_links.specs.Payloads.{is_request, fits_read, fits_write, message_fits, answer_of, has_answer}
use Rattle.ac_links.specs.Payloads.Taking.{Message, Done}
use Rattle.ac_links.specs.Link.{is_offered, is_taken, is_withdrawn, is_passed, is_decided, can_offer, can_take, can_know, can_withdraw, can_pass, can_free, can_reply, link_fits, link_after}
use Rattle.ac_links.specs.Link.{knows, withdraws, passes, frees, replies, standing_stamp, offered_payload, changed, taken_with, now_taken, now_known, now_replied, new_offer}
use Rattle.ac_links.specs.Order.{stamp_of, of_party, AllFrom}
use Rattle.ac_links.specs.Journals.{LinkAgrees}
use Rattle.ac_links.specs.Views.{owner_lead, may_withdraw, may_free, may_reply, altered, withdrawn_at, known_at, replied_with, owner_offer, owner_after}
use Rattle.ac_links.specs.Views.{decision_of, PeerRuns, DecisionFits, IsReplyTo}
use Rattle.ac_links.specs.Noted.{seen_of, request_of, peer_noted, offer_stamp, or_zero, withdrawal_stamp, decision_stamp, offer_payload, known_stamp, response_stamp, reply_stamp, answers_stamp}
use Rattle.ac_links.specs.Replies.{response_at, response_of, is_done_or_passed, reply_had, NoneAfter}
use Rattle.ac_links.specs.Party.{end_fits, end_after, end_noted, EndRuns, party_noted}
use Rattle.ac_links.specs.Party.LinkEnd.{Owns, Decides, Absent}
use Rattle.ac_links.proofs.Examples.{read_four, channel, asking, offer_five, offered, got, withdrawn, passed, wanted, written, by, one_sends, sent, received, taken_back}
use Rattle.ac_links.proofs.Examples.{first_request, second_request, first_passed, second_done, its_response, second_replied, its_ends, not_known}

-- ---- payloads and answers

pub a_read_is_a_request : is_request read_four ∷ is_request (Int (pos 5 ∷ [])) ∷ [] ≡ true ∷ false ∷ []
a_read_is_a_request = refl

pub a_read_of_two : fits_read 2 (Bytes (1 ∷ [])) ∷ fits_read 2 (Bytes (1 ∷ 2 ∷ 3 ∷ [])) ∷ fits_read 2 (Count 2) ∷ fits_read 2 (Fault 0) ∷ [] ≡ true ∷ false ∷ false ∷ true ∷ []
a_read_of_two = refl

pub a_write_of_two : fits_write 2 (Count 2) ∷ fits_write 2 (Bytes []) ∷ fits_write 2 (Fault 2) ∷ fits_write 2 (Fault 3) ∷ [] ≡ true ∷ false ∷ true ∷ false ∷ []
a_write_of_two = refl

pub an_int_is_its_message : message_fits (pos 5 ∷ []) (Int (pos 5 ∷ [])) ∷ message_fits (pos 5 ∷ []) read_four ∷ [] ≡ true ∷ false ∷ []
an_int_is_its_message = refl

pub what_is_done_has_an_answer : answer_of (Done (Count 2)) ∷ answer_of (Message (pos 5 ∷ [])) ∷ [] ≡ Some (Count 2) ∷ None ∷ []
what_is_done_has_an_answer = refl

pub the_answer_that_it_has : has_answer (Count 2) (Some (Count 2)) ∷ has_answer (Fault 2) (Some (Count 2)) ∷ has_answer (Count 2) None ∷ [] ≡ true ∷ false ∷ false ∷ []
the_answer_that_it_has = refl

-- ---- how an offer stands

abbrev five : LinkOffer
five = new_offer (Int (pos 5 ∷ [])) 1

pub a_new_offer_is_open : offered ≡ five ∷ []
a_new_offer_is_open = refl

pub one_that_is_taken : is_offered Taken ∷ is_taken Taken ∷ is_withdrawn Taken ∷ is_passed Taken ∷ [] ≡ false ∷ true ∷ false ∷ false ∷ []
one_that_is_taken = refl

pub one_that_is_passed : is_offered Passed ∷ is_taken Passed ∷ is_withdrawn Passed ∷ is_passed Passed ∷ [] ≡ false ∷ false ∷ false ∷ true ∷ []
one_that_is_passed = refl

pub what_is_decided : is_decided Offered ∷ is_decided Taken ∷ is_decided Withdrawn ∷ is_decided Passed ∷ [] ≡ false ∷ true ∷ false ∷ true ∷ []
what_is_decided = refl

-- what each event needs of its offer
pub of_an_open_offer : knows (slice_get offered 0) ∷ withdraws (slice_get offered 0) ∷ passes (slice_get offered 0) ∷ frees (slice_get offered 0) ∷ [] ≡ false ∷ true ∷ false ∷ false ∷ []
of_an_open_offer = refl

pub of_a_taken_offer : knows (slice_get got 0) ∷ withdraws (slice_get got 0) ∷ passes (slice_get got 0) ∷ frees (slice_get got 0) ∷ [] ≡ true ∷ false ∷ false ∷ false ∷ []
of_a_taken_offer = refl

pub of_no_offer : knows (slice_get got 1) ∷ withdraws (slice_get got 1) ∷ passes (slice_get got 1) ∷ frees (slice_get got 1) ∷ [] ≡ false ∷ false ∷ false ∷ false ∷ []
of_no_offer = refl

pub after_a_withdrawal : can_know withdrawn 0 ∷ can_withdraw withdrawn 0 ∷ can_pass withdrawn 0 ∷ can_free withdrawn 0 ∷ [] ≡ false ∷ false ∷ true ∷ false ∷ []
after_a_withdrawal = refl

pub after_a_passing : can_know passed 0 ∷ can_withdraw passed 0 ∷ can_pass passed 0 ∷ can_free passed 0 ∷ [] ≡ false ∷ false ∷ false ∷ true ∷ []
after_a_passing = refl

abbrev for_two : Terms
for_two = record { capacity = 2; requests = false }

pub room_for_two : can_offer channel offered 1 (Int (pos 6 ∷ [])) ∷ can_offer for_two offered 1 (Int (pos 6 ∷ [])) ∷ [] ≡ false ∷ true ∷ []
room_for_two = refl

abbrev two_offered : List LinkOffer
two_offered = link_after offered 2 (Offer 0 1 (Int (pos 6 ∷ [])))

-- the second is not taken before the first
pub the_first_is_taken_first : can_take two_offered 0 (Message (pos 5 ∷ [])) ∷ can_take two_offered 1 (Message (pos 6 ∷ [])) ∷ [] ≡ true ∷ false ∷ []
the_first_is_taken_first = refl

-- what the ends of a link never make and is a history all the same: a later taking is known before the room of an earlier withdrawal is back
abbrev passed_and_got : List LinkOffer
passed_and_got = link_after (link_after (link_after two_offered 3 (Withdraw 0 0)) 4 (Pass 0 0)) 5 (Got 0 1 (pos 6 ∷ []))

pub a_later_one_is_known_first : link_fits channel passed_and_got (Know 0 1) ∷ link_fits channel passed_and_got (Room 0 0) ∷ [] ≡ true ∷ true ∷ []
a_later_one_is_known_first = refl

-- and replies come in any order
abbrev both_done : List LinkOffer
both_done = link_after (link_after (link_after wanted 2 (Offer 1 1 read_four)) 3 (Did 1 0 (Count 2))) 4 (Did 1 1 (Bytes []))

pub replies_in_any_order : link_fits asking both_done (Reply 1 1 (Bytes [])) ∷ link_fits asking both_done (Reply 1 0 (Count 2)) ∷ [] ≡ true ∷ true ∷ []
replies_in_any_order = refl

pub the_reply_of_what_was_done : can_reply written 0 (Count 2) ∷ can_reply written 1 (Count 2) ∷ can_reply wanted 0 (Count 2) ∷ [] ≡ true ∷ false ∷ false ∷ []
the_reply_of_what_was_done = refl

pub no_reply_with_another_answer : replies (Fault 2) (slice_get written 0) ≡ false
no_reply_with_another_answer = refl

pub its_stamp_is_that_of_the_taking : standing_stamp (slice_get got 0) ∷ standing_stamp None ∷ [] ≡ 2 ∷ 0 ∷ []
its_stamp_is_that_of_the_taking = refl

pub its_payload_stays : offered_payload (slice_get got 0) ∷ offered_payload None ∷ [] ≡ Some (Int (pos 5 ∷ [])) ∷ None ∷ []
its_payload_stays = refl

pub a_message_is_taken : now_taken (Message (pos 5 ∷ [])) 2 five ≡ record five { standing = Taken; stamp = 2 }
a_message_is_taken = refl

pub a_request_keeps_its_answer : taken_with (Some (Count 2)) 2 five ≡ record five { standing = Taken; stamp = 2; answer = Some (Count 2) }
a_request_keeps_its_answer = refl

-- neither gives it another stamp
pub it_is_known_and_replied : now_known (now_replied five) ≡ record five { known = true; replied = true }
it_is_known_and_replied = refl

pub the_offer_of_that_number_is_changed : changed two_offered 1 now_known (slice_get two_offered 1) ≡ five ∷ now_known (new_offer (Int (pos 6 ∷ [])) 2) ∷ []
the_offer_of_that_number_is_changed = refl

pub none_is_changed_where_there_is_none : changed offered 1 now_known (slice_get offered 1) ≡ offered
none_is_changed_where_there_is_none = refl

-- ---- stamps

pub from_one_on : AllFrom stamp_of 1 (of_party 0 one_sends)
from_one_on = (omega arith, (omega arith, tt))

pub not_from_two_on : AllFrom stamp_of 2 (of_party 0 one_sends) → ⊥
not_from_two_on a = let low = a.0 in omega arith

pub a_stamp_or_nought : or_zero (Some 3) ∷ or_zero None ∷ [] ≡ 3 ∷ 0 ∷ []
a_stamp_or_nought = refl

pub what_the_sender_noted : offer_stamp (Some sent) ∷ withdrawal_stamp (Some sent) ∷ known_stamp (Some sent) ∷ [] ≡ 1 ∷ 0 ∷ 2 ∷ []
what_the_sender_noted = refl

pub what_one_that_withdraws_noted : offer_stamp (Some taken_back) ∷ withdrawal_stamp (Some taken_back) ∷ known_stamp (Some taken_back) ∷ [] ≡ 1 ∷ 2 ∷ 0 ∷ []
what_one_that_withdraws_noted = refl

pub what_the_receiver_noted : decision_stamp (Some received) ∷ answers_stamp (Some received) ∷ [] ≡ 2 ∷ 1 ∷ []
what_the_receiver_noted = refl

pub when_it_was_done : response_stamp (Some its_response) ∷ reply_stamp (Some second_replied) ∷ reply_stamp (Some second_request) ∷ [] ≡ 4 ∷ 4 ∷ 0 ∷ []
when_it_was_done = refl

pub what_was_sent : offer_payload (Some sent) ∷ offer_payload None ∷ [] ≡ Some (Int (pos 5 ∷ [])) ∷ None ∷ []
what_was_sent = refl

-- ---- the views of the two sides

pub a_message_fits_its_offer : DecisionFits (Int (pos 5 ∷ [])) 1 received None
a_message_fits_its_offer = (Message (pos 5 ∷ []), refl, refl, refl)

pub none_fits_a_withdrawal : DecisionFits (Int (pos 5 ∷ [])) 1 received (Some 2) → ⊥
none_fits_a_withdrawal d = let e = d.0 in cc

pub its_reply : IsReplyTo second_done its_response
its_reply = (refl, refl)

pub no_reply_to_a_passing : IsReplyTo first_passed its_response → ⊥
no_reply_to_a_passing r = let e = r.0 in cc

pub the_offer_of_the_sender : owner_after [] 1 0 offer_five ≡ owner_offer (Int (pos 5 ∷ [])) 1 ∷ []
the_offer_of_the_sender = refl

pub it_knows_of_the_taking : known_at 2 (owner_offer (Int (pos 5 ∷ [])) 1) ≡ sent
it_knows_of_the_taking = refl

pub it_has_withdrawn_it : withdrawn_at 2 (owner_offer (Int (pos 5 ∷ [])) 1) ≡ taken_back
it_has_withdrawn_it = refl

pub it_has_the_reply : replied_with (Count 2) 4 second_request ≡ second_replied
it_has_the_reply = refl

pub one_of_the_list_is_altered : altered (first_request ∷ second_request ∷ []) 1 (replied_with (Count 2) 4) ≡ first_request ∷ second_replied ∷ []
one_of_the_list_is_altered = refl

pub none_behind_the_list_is_altered : altered (first_request ∷ []) 1 (replied_with (Count 2) 4) ≡ first_request ∷ []
none_behind_the_list_is_altered = refl

pub the_decision_of_the_receiver : decision_of 2 1 (Got 0 0 (pos 5 ∷ [])) ≡ received
the_decision_of_the_receiver = refl

pub one_is_known_before_the_next : owner_lead (sent ∷ not_known ∷ sent ∷ []) ≡ 1
one_is_known_before_the_next = refl

pub what_may_be_withdrawn : may_withdraw (Some not_known) ∷ may_withdraw (Some sent) ∷ may_withdraw (Some taken_back) ∷ may_withdraw None ∷ [] ≡ true ∷ false ∷ false ∷ false ∷ []
what_may_be_withdrawn = refl

pub whose_room_may_come_back : may_free (Some not_known) ∷ may_free (Some sent) ∷ may_free (Some taken_back) ∷ may_free None ∷ [] ≡ false ∷ false ∷ true ∷ false ∷ []
whose_room_may_come_back = refl

pub what_may_have_a_reply : may_reply (Some first_request) ∷ may_reply (Some second_request) ∷ may_reply (Some second_replied) ∷ may_reply None ∷ [] ≡ false ∷ true ∷ false ∷ false ∷ []
what_may_have_a_reply = refl

-- ---- the ring of the replies

pub what_is_done_is_answered : response_of second_done ∷ response_of first_passed ∷ [] ≡ (its_response ∷ []) ∷ [] ∷ []
what_is_done_is_answered = refl

pub a_message_is_not_answered : response_at 2 (Some (Message (pos 5 ∷ []))) ≡ []
a_message_is_not_answered = refl

pub a_message_is_neither_done_nor_passed : is_done_or_passed (Some (Message (pos 5 ∷ []))) ∷ is_done_or_passed (Some (Done (Count 2))) ∷ is_done_or_passed None ∷ [] ≡ false ∷ true ∷ true ∷ []
a_message_is_neither_done_nor_passed = refl

pub the_reply_that_was_had : reply_had (Some its_response) ∷ reply_had None ∷ [] ≡ (its_response ∷ []) ∷ [] ∷ []
the_reply_that_was_had = refl

-- behind a request that waits none has its reply
pub none_has_its_reply : NoneAfter false (second_request ∷ [])
none_has_its_reply = refl

pub one_has_its_reply : NoneAfter false (second_replied ∷ []) → ⊥
one_has_its_reply n = cc

-- ---- a party

pub each_end_takes_its_own : end_fits channel (Owns (not_known ∷ [])) (Know 0 0) ∷ end_fits channel (Decides []) (Know 0 0) ∷ end_fits channel Absent (Know 0 0) ∷ [] ≡ true ∷ false ∷ false ∷ []
each_end_takes_its_own = refl

pub the_owner_goes_on : end_after (Owns (not_known ∷ [])) 3 2 (Know 0 0) ≡ Owns (sent ∷ [])
the_owner_goes_on = refl

pub the_peer_goes_on : end_after (Decides []) 2 1 (Got 0 0 (pos 5 ∷ [])) ≡ Decides (received ∷ [])
the_peer_goes_on = refl

pub what_each_end_noted : end_noted (Owns (sent ∷ [])) (Know 0 0) ∷ end_noted (Decides (received ∷ [])) (Got 0 0 (pos 5 ∷ [])) ∷ end_noted Absent (Know 0 0) ∷ [] ≡ 2 ∷ 1 ∷ 0 ∷ []
what_each_end_noted = refl

pub what_the_party_noted : party_noted (its_ends sent) (Know 0 0) ∷ party_noted (its_ends sent) (Know 1 0) ∷ [] ≡ 2 ∷ 0 ∷ []
what_the_party_noted = refl

pub an_absent_end_has_no_entries : EndRuns channel Absent (by 0 1 offer_five ∷ []) → ⊥
an_absent_end_has_no_entries e = cc

-- what was not offered is not got, and the second is not decided first
pub nothing_is_got_before : LinkAgrees (seen_of (sent ∷ []) (received ∷ [])) (request_of (sent ∷ [])) channel [] (by 1 2 (Got 0 0 (pos 5 ∷ [])) ∷ []) → ⊥
nothing_is_got_before a = let e = a.0 in cc

pub no_second_is_got_first : PeerRuns channel (peer_noted (received ∷ [])) [] (by 1 2 (Got 0 1 (pos 5 ∷ [])) ∷ []) (received ∷ []) → ⊥
no_second_is_got_first r = let e = r.0 in cc

-- What the definitions of a link say of small ones: a channel for one message, and a link of requests.
-- Those that hold do so by computing, entry by entry.
use Rattle.std.proofs.Common.{◌≡◌, refl, ℕ, zero, suc, List, [], ◌∷◌, ◌++◌, Some, None, true, false, cond, sym, subst, arith}
use Rattle.std.specs.Prelude.{pos, negsuc, ◌==◌}
use Rattle.std.proofs.lemmas.Bool.Decides.{nat_tests}
use Rattle.std.specs.List.{filter}
use Rattle.ac_base.specs.declared.entry.Payload.{Payload}
use Rattle.ac_base.specs.declared.entry.Payload.TheVariants.{Int, Read, Write}
use Rattle.ac_base.specs.declared.entry.Answer.TheVariants.{Bytes, Count, Fault}
use Rattle.ac_base.specs.declared.entry.Event.{Event}
use Rattle.ac_base.specs.declared.entry.Event.TheVariants.{Offer, Withdraw, Know, Room, Got, Pass, Did, Reply}
use Rattle.ac_base.specs.declared.entry.Entry.{Entry}
use Rattle.ac_base.specs.declared.entry.Stamped.{Stamped}
use Rattle.ac_links.specs.declared.offer.LinkOffer.{LinkOffer}
use Rattle.ac_links.specs.declared.payloads.Terms.{Terms}
use Rattle.ac_links.specs.Payloads.{is_message, is_payload, answer_fits, carries, answer_eq}
use Rattle.ac_links.specs.Payloads.Taking.{Message, Done}
use Rattle.ac_links.specs.Link.{front_of, known_lead, link_fits, answered, asked, link_after}
use Rattle.ac_links.specs.Order.{stamp_of, of_party, is_of_link, in_order, Rises}
use Rattle.ac_links.specs.Journals.{HasStamps, LinkAgrees, last_of}
use Rattle.ac_links.specs.Views.{Response, OwnerOffer, PeerDecision, owner_fits, peer_fits, OwnerRuns, PeerRuns, OfferAgrees, ViewsAgree}
use Rattle.ac_links.specs.Noted.{seen_of, request_of, owner_noted, peer_noted}
use Rattle.ac_links.specs.Replies.{waiting_replies, responses, least_open, NoMessages, replies_had, AreInTurn, TakesReply}
use Rattle.ac_links.specs.Party.{LinkEnd, EndRuns, with_end, PartyAgrees, MayEnter}
use Rattle.ac_links.specs.Party.LinkEnd.{Owns, Absent}

-- ---- payloads and answers

abbrev pub read_four : Payload
read_four = Read 0 1 4

abbrev pub write_two : Payload
write_two = Write 0 2 (7 ∷ 8 ∷ [])

pub a_channel_carries_ints : is_payload false (Int (pos 5 ∷ [])) ≡ true
a_channel_carries_ints = refl

pub of_any_number_of_ints : is_message (Int (pos 5 ∷ negsuc 6 ∷ [])) ≡ true
of_any_number_of_ints = refl

pub a_read_is_no_message : is_message read_four ≡ false
a_read_is_no_message = refl

pub and_no_requests : is_payload false read_four ≡ false
and_no_requests = refl

pub the_last_byte_of_a_file : is_payload true (Read 15 1048320 256) ≡ true
the_last_byte_of_a_file = refl

pub one_byte_past_a_file : is_payload true (Read 15 1048321 256) ≡ false
one_byte_past_a_file = refl

pub no_sixteenth_file : is_payload true (Read 16 0 1) ≡ false
no_sixteenth_file = refl

pub no_long_read : is_payload true (Read 0 0 257) ≡ false
no_long_read = refl

-- a read gives as many bytes as there are, or none where the disk fails
pub a_short_read : answer_fits (Bytes (1 ∷ 2 ∷ [])) read_four ≡ true
a_short_read = refl

pub no_longer_read : answer_fits (Bytes (1 ∷ 2 ∷ 3 ∷ 4 ∷ 5 ∷ [])) read_four ≡ false
no_longer_read = refl

pub a_failed_read : answer_fits (Fault 0) read_four ≡ true
a_failed_read = refl

pub no_part_of_a_failed_read : answer_fits (Fault 1) read_four ≡ false
no_part_of_a_failed_read = refl

-- a write is answered by all its bytes, or by how many went in before it failed
pub a_whole_write : answer_fits (Count 2) write_two ≡ true
a_whole_write = refl

pub no_short_write : answer_fits (Count 1) write_two ≡ false
no_short_write = refl

pub a_failed_write : answer_fits (Fault 1) write_two ≡ true
a_failed_write = refl

pub no_message_is_answered : answer_fits (Count 1) (Int (pos 1 ∷ [])) ≡ false
no_message_is_answered = refl

pub the_message_that_was_sent : carries (Message (pos 5 ∷ [])) (Int (pos 5 ∷ [])) ≡ true
the_message_that_was_sent = refl

pub no_other_message : carries (Message (negsuc 4 ∷ [])) (Int (pos 5 ∷ [])) ≡ false
no_other_message = refl

pub a_count_is_no_fault : answer_eq (Count 1) (Fault 1) ≡ false
a_count_is_no_fault = refl

-- ---- a channel for one message

abbrev pub channel : Terms
channel = record { capacity = 1; requests = false }

abbrev pub offer_five : Event
offer_five = Offer 0 0 (Int (pos 5 ∷ []))

abbrev pub offered : List LinkOffer
offered = link_after [] 1 offer_five

abbrev pub got : List LinkOffer
got = link_after offered 2 (Got 0 0 (pos 5 ∷ []))

abbrev pub withdrawn : List LinkOffer
withdrawn = link_after offered 2 (Withdraw 0 0)

abbrev pub passed : List LinkOffer
passed = link_after withdrawn 3 (Pass 0 0)

pub the_first_offer : link_fits channel [] offer_five ≡ true
the_first_offer = refl

pub offers_are_numbered_from_nought : link_fits channel [] (Offer 0 1 (Int (pos 5 ∷ []))) ≡ false
offers_are_numbered_from_nought = refl

pub no_room_for_a_second : link_fits channel offered (Offer 0 1 (Int (pos 6 ∷ []))) ≡ false
no_room_for_a_second = refl

pub what_was_offered_is_got : link_fits channel offered (Got 0 0 (pos 5 ∷ [])) ≡ true
what_was_offered_is_got = refl

pub nothing_else_is_got : link_fits channel offered (Got 0 0 (pos 6 ∷ [])) ≡ false
nothing_else_is_got = refl

pub it_is_got_once : link_fits channel got (Got 0 0 (pos 5 ∷ [])) ≡ false
it_is_got_once = refl

-- never both taken and withdrawn
pub no_withdrawal_after_it_is_got : link_fits channel got (Withdraw 0 0) ≡ false
no_withdrawal_after_it_is_got = refl

pub none_is_got_after_its_withdrawal : link_fits channel withdrawn (Got 0 0 (pos 5 ∷ [])) ≡ false
none_is_got_after_its_withdrawal = refl

pub it_is_passed_then : link_fits channel withdrawn (Pass 0 0) ≡ true
it_is_passed_then = refl

pub nothing_offered_is_passed : link_fits channel offered (Pass 0 0) ≡ false
nothing_offered_is_passed = refl

-- what was taken is known, and then there is room again
pub a_taking_is_known : link_fits channel got (Know 0 0) ≡ true
a_taking_is_known = refl

pub an_offer_is_not_known : link_fits channel offered (Know 0 0) ≡ false
an_offer_is_not_known = refl

pub no_room_before_it_is_known : link_fits channel got (Offer 0 1 (Int (pos 6 ∷ []))) ≡ false
no_room_before_it_is_known = refl

pub room_once_it_is_known : link_fits channel (link_after got 3 (Know 0 0)) (Offer 0 1 (Int (pos 6 ∷ []))) ≡ true
room_once_it_is_known = refl

-- a withdrawn offer keeps its room until it was passed and that is known
pub a_withdrawn_offer_keeps_its_room : link_fits channel withdrawn (Offer 0 1 (Int (pos 6 ∷ []))) ≡ false
a_withdrawn_offer_keeps_its_room = refl

pub also_where_it_was_passed : link_fits channel passed (Offer 0 1 (Int (pos 6 ∷ []))) ≡ false
also_where_it_was_passed = refl

pub no_room_of_one_that_was_not_passed : link_fits channel withdrawn (Room 0 0) ≡ false
no_room_of_one_that_was_not_passed = refl

pub its_room_comes_back : link_fits channel (link_after passed 4 (Room 0 0)) (Offer 0 1 (Int (pos 6 ∷ []))) ≡ true
its_room_comes_back = refl

-- no request is done on a channel
pub none_is_done : link_fits channel offered (Did 0 0 (Count 1)) ≡ false
none_is_done = refl

-- what entries answer: the offer, the withdrawal, the taking
pub a_taking_answers_the_offer : answered offered (Got 0 0 (pos 5 ∷ [])) ≡ 1
a_taking_answers_the_offer = refl

pub a_passing_answers_the_withdrawal : answered withdrawn (Pass 0 0) ≡ 2
a_passing_answers_the_withdrawal = refl

pub what_is_known_answers_the_taking : answered got (Know 0 0) ≡ 2
what_is_known_answers_the_taking = refl

pub an_offer_answers_none : answered got (Offer 0 1 (Int (pos 6 ∷ []))) ≡ 0
an_offer_answers_none = refl

pub the_front_is_decided_in_turn : front_of got ∷ front_of offered ∷ front_of withdrawn ∷ front_of passed ∷ [] ≡ 1 ∷ 0 ∷ 0 ∷ 1 ∷ []
the_front_is_decided_in_turn = refl

pub known_in_turn : known_lead got ∷ known_lead (link_after got 3 (Know 0 0)) ∷ [] ≡ 0 ∷ 1 ∷ []
known_in_turn = refl

-- ---- a link of requests

abbrev pub asking : Terms
asking = record { capacity = 16; requests = true }

abbrev pub wanted : List LinkOffer
wanted = link_after [] 1 (Offer 1 0 write_two)

abbrev pub written : List LinkOffer
written = link_after wanted 2 (Did 1 0 (Count 2))

pub it_is_done : link_fits asking wanted (Did 1 0 (Count 2)) ≡ true
it_is_done = refl

pub with_an_answer_that_fits : link_fits asking wanted (Did 1 0 (Count 1)) ≡ false
with_an_answer_that_fits = refl

pub it_is_what_was_asked : asked wanted (Did 1 0 (Count 2)) ≡ Some write_two
it_is_what_was_asked = refl

pub a_message_asks_for_nothing : asked offered (Got 0 0 (pos 5 ∷ [])) ≡ None
a_message_asks_for_nothing = refl

pub its_answer_comes_back : link_fits asking written (Reply 1 0 (Count 2)) ≡ true
its_answer_comes_back = refl

pub no_other_answer_comes_back : link_fits asking written (Reply 1 0 (Fault 2)) ≡ false
no_other_answer_comes_back = refl

pub it_comes_back_once : link_fits asking (link_after written 4 (Reply 1 0 (Count 2))) (Reply 1 0 (Count 2)) ≡ false
it_comes_back_once = refl

pub none_before_it_is_done : link_fits asking wanted (Reply 1 0 (Count 2)) ≡ false
none_before_it_is_done = refl

-- ---- lists of entries

abbrev pub at : ℕ → Event → Entry
at stamp event = record { stamp = stamp; turn = 1; event = event }

abbrev pub by : ℕ → ℕ → Event → Stamped
by party stamp event = record { party = party; entry = at stamp event }

abbrev pub one_sends : List Entry
one_sends = at 1 offer_five ∷ at 3 (Know 0 0) ∷ []

abbrev pub one_receives : List Entry
one_receives = at 2 (Got 0 0 (pos 5 ∷ [])) ∷ []

pub in_order_of_stamps : in_order stamp_of (of_party 0 one_sends ++ of_party 1 one_receives) ≡ by 0 1 offer_five ∷ by 1 2 (Got 0 0 (pos 5 ∷ [])) ∷ by 0 3 (Know 0 0) ∷ []
in_order_of_stamps = refl

-- those of one stamp stay as they stood
pub one_stamp_keeps_its_order : in_order stamp_of (by 1 4 (Know 0 1) ∷ by 0 4 (Know 0 2) ∷ []) ≡ by 1 4 (Know 0 1) ∷ by 0 4 (Know 0 2) ∷ []
one_stamp_keeps_its_order = refl

pub stamps_that_rise : Rises stamp_of (of_party 0 one_sends)
stamps_that_rise = ((omega arith, tt), (tt, tt))

pub stamps_that_do_not : Rises stamp_of (by 0 3 (Know 0 0) ∷ by 0 1 (Know 0 1) ∷ []) → ⊥
stamps_that_do_not r = let low = r.0.0 in omega arith

pub of_another_link : is_of_link 1 (by 0 1 offer_five) ≡ false
of_another_link = refl

-- what the entries of the channel answer
abbrev pub seen : Event → ℕ
seen (Offer l n p) = 0
seen (Withdraw l n) = 0
seen (Know l n) = 2
seen (Room l n) = 0
seen (Got l n v) = 1
seen (Pass l n) = 0
seen (Did l n w) = 0
seen (Reply l n w) = 0

pub the_stamps_of_a_journal : HasStamps seen 0 one_sends
the_stamps_of_a_journal = (refl, (refl, tt))

pub its_last_stamp : last_of 0 one_sends ∷ last_of 4 [] ∷ [] ≡ 3 ∷ 4 ∷ []
its_last_stamp = refl

-- a stamp that leaves out what is answered
pub too_low_a_stamp : HasStamps seen 0 (at 1 offer_five ∷ at 2 (Know 0 0) ∷ []) → ⊥
too_low_a_stamp h = let e = h.1.0 in cc

-- ---- the views of the two sides

abbrev pub sent : OwnerOffer
sent = record { payload = Int (pos 5 ∷ []); stamp = 1; withdrawn = None; known = Some 2; reply = None }

abbrev pub received : PeerDecision
received = record { value = Some (Message (pos 5 ∷ [])); stamp = 2; answers = 1 }

pub the_owner_came_to_its_view : OwnerRuns channel (owner_noted (sent ∷ [])) [] (of_party 0 one_sends) (sent ∷ [])
the_owner_came_to_its_view = (refl, omega arith, (refl, omega arith, refl))

pub the_peer_came_to_its_view : PeerRuns channel (peer_noted (received ∷ [])) [] (of_party 1 one_receives) (received ∷ [])
the_peer_came_to_its_view = (refl, omega arith, refl)

-- it cannot know what it did not offer
pub nothing_to_know : OwnerRuns channel (owner_noted (sent ∷ [])) [] (by 0 1 (Know 0 0) ∷ []) (sent ∷ []) → ⊥
nothing_to_know r = let e = r.0 in cc

pub the_views_agree : ViewsAgree (sent ∷ []) (received ∷ [])
the_views_agree = ((omega arith, (Message (pos 5 ∷ []), refl, refl, refl), refl, omega arith, tt), tt)

-- a decision of what was not offered
pub nothing_to_decide : ViewsAgree [] (received ∷ []) → ⊥
nothing_to_decide a = a

-- a message that was withdrawn and yet taken
abbrev pub taken_back : OwnerOffer
taken_back = record { payload = Int (pos 5 ∷ []); stamp = 1; withdrawn = Some 2; known = None; reply = None }

pub withdrawn_and_yet_taken : OfferAgrees taken_back received → ⊥
withdrawn_and_yet_taken a = let e = a.1.0 in cc

pub no_decision_is_known_before_it_is_made : ViewsAgree (sent ∷ []) [] → ⊥
no_decision_is_known_before_it_is_made a = let e = a.0 in cc

-- the views tell what each entry answers
pub what_the_views_tell : seen_of (sent ∷ []) (received ∷ []) (Got 0 0 (pos 5 ∷ [])) ∷ seen_of (sent ∷ []) (received ∷ []) (Know 0 0) ∷ [] ≡ 1 ∷ 2 ∷ []
what_the_views_tell = refl

pub no_request_on_a_channel : request_of (sent ∷ []) (Got 0 0 (pos 5 ∷ [])) ≡ None
no_request_on_a_channel = refl

pub the_entries_of_the_link : LinkAgrees (seen_of (sent ∷ []) (received ∷ [])) (request_of (sent ∷ [])) channel [] (in_order stamp_of (of_party 0 one_sends ++ of_party 1 one_receives))
the_entries_of_the_link = ((refl, refl, refl, (refl, refl, refl, (refl, refl, refl, tt))))

-- the peer may not take the second before the first, nor an owner withdraw what it knows to be taken
pub the_next_is_decided : peer_fits channel [] (Got 0 0 (pos 5 ∷ [])) ∷ peer_fits channel [] (Got 0 1 (pos 5 ∷ [])) ∷ [] ≡ true ∷ false ∷ []
the_next_is_decided = refl

pub what_is_known_stays : owner_fits channel (sent ∷ []) (Withdraw 0 0) ≡ false
what_is_known_stays = refl

-- ---- the ring of the replies

-- two requests: the first was withdrawn, the second done and not yet replied
abbrev pub first_request : OwnerOffer
first_request = record { payload = read_four; stamp = 1; withdrawn = Some 2; known = None; reply = None }

abbrev pub second_request : OwnerOffer
second_request = record { payload = write_two; stamp = 3; withdrawn = None; known = None; reply = None }

abbrev pub first_passed : PeerDecision
first_passed = record { value = None; stamp = 3; answers = 2 }

abbrev pub second_done : PeerDecision
second_done = record { value = Some (Done (Count 2)); stamp = 4; answers = 3 }

abbrev pub its_response : Response
its_response = record { answer = Count 2; of = 4 }

pub one_answer_is_on_the_ring : waiting_replies (first_request ∷ second_request ∷ []) (first_passed ∷ second_done ∷ []) ≡ its_response ∷ []
one_answer_is_on_the_ring = refl

pub the_second_is_the_least_that_waits : least_open (first_request ∷ second_request ∷ []) ≡ 1
the_second_is_the_least_that_waits = refl

pub it_is_taken_as_its_reply : TakesReply asking 1 (first_request ∷ second_request ∷ []) (first_passed ∷ second_done ∷ []) its_response []
it_is_taken_as_its_reply = record {
  fits = refl;
  agree = ((omega arith, (refl, refl), tt, omega arith, tt), ((omega arith, (Done (Count 2), refl, refl, refl), tt, omega arith, (refl, refl)), tt));
  left = refl;
}

-- another answer is not
pub not_another_answer : TakesReply asking 1 (second_request ∷ []) (second_done ∷ []) (record { answer = Count 1; of = 4 }) [] → ⊥
not_another_answer t = let e = t.agree.0.4.0 in cc

pub no_message_among_requests : NoMessages (first_passed ∷ second_done ∷ [])
no_message_among_requests = (refl, (refl, tt))

pub a_message_is_one : NoMessages (received ∷ []) → ⊥
a_message_is_one m = let e = m.0 in cc

-- a later request has no reply before an earlier one
abbrev pub second_replied : OwnerOffer
second_replied = record second_request { reply = Some its_response }

pub replies_in_turn : AreInTurn (first_request ∷ second_replied ∷ [])
replies_in_turn = (tt, (tt, tt))

pub replies_out_of_turn : AreInTurn (second_request ∷ second_replied ∷ []) → ⊥
replies_out_of_turn t = let e = t.0 in cc

pub what_was_had_and_what_was_given : replies_had (first_request ∷ second_replied ∷ []) ≡ responses (first_passed ∷ second_done ∷ [])
what_was_had_and_what_was_given = refl

-- ---- a party

-- the sender has an end of link 0 alone
abbrev pub its_ends : OwnerOffer → ℕ → LinkEnd
its_ends o = with_end (λ l. Absent) 0 (Owns (o ∷ []))

abbrev pub terms_of_links : ℕ → Terms
terms_of_links l = channel

-- as long as it does not know what became of its offer
abbrev pub not_known : OwnerOffer
not_known = record sent { known = None }

each_end_runs : (l : ℕ) → EndRuns channel (its_ends not_known l) (filter (is_of_link l) (of_party 0 (at 1 offer_five ∷ [])))
each_end_runs zero = (refl, omega arith, refl)
each_end_runs (suc l) =
    let e : (0 == suc l) ≡ false = grind (arith, nat_tests) in
    subst (λ b. EndRuns channel (cond b (Owns (not_known ∷ [])) Absent) (cond b (by 0 1 offer_five ∷ []) [])) (sym e) refl

pub its_journal_agrees : PartyAgrees terms_of_links 0 (its_ends not_known) (at 1 offer_five ∷ [])
its_journal_agrees = record { runs = each_end_runs; stamps = (refl, tt) }

pub an_empty_journal_does_not : PartyAgrees terms_of_links 0 (its_ends not_known) [] → ⊥
an_empty_journal_does_not a = let e = a.runs 0 in cc

pub it_may_enter_what_it_knows : MayEnter terms_of_links (its_ends not_known) (at 1 offer_five ∷ []) (at 3 (Know 0 0)) 2
it_may_enter_what_it_knows = record { fits = refl; next = refl; noted = refl }

-- with no other stamp
pub not_with_another_stamp : MayEnter terms_of_links (its_ends not_known) (at 1 offer_five ∷ []) (at 4 (Know 0 0)) 2 → ⊥
not_with_another_stamp m = let e = m.next in cc

-- What calls of the ports make of the end of their link, by numbers: 5 is offered and taken on a channel of one place, and a read is
-- offered on the link of the requests, is done, and has its reply. No answer comes that the end has not given in the call.
use Rattle.std.proofs.Common.{◌≡◌, ℕ, List, [], ◌∷◌, Option, Some, None, true, false, refl, arith, inl, ℤ}
use Rattle.std.specs.Prelude.{pos}
use Rattle.ac_base.specs.declared.entry.Payload.TheVariants.{Int}
use Rattle.ac_base.specs.declared.entry.Answer.TheVariants.{Bytes, Count}
use Rattle.ac_links.specs.Views.{Response}
use Rattle.completion_word.specs.declared.answers.Look.TheVariants as look
use Rattle.completion_word.specs.declared.standing.Standing.TheVariants as word
use Rattle.core_channels.specs.declared.answers.Arrived.{Arrived}
use Rattle.core_channels.specs.declared.answers.Arrived.TheVariants as arrived
use Rattle.core_channels.specs.declared.answers.Offering.{Offering}
use Rattle.core_channels.specs.declared.answers.Offering.TheVariants.{Offered, NoRoom, NotYet, ClockFull}
use Rattle.core_channels.specs.declared.answers.Learning.{Learning}
use Rattle.core_channels.specs.declared.answers.Learning.TheVariants as learning
use Rattle.core_channels.specs.declared.answers.Receiving.{Receiving as Received}
use Rattle.core_channels.specs.declared.answers.Receiving.TheVariants as receiving
use Rattle.core_channels.specs.declared.answers.Withdrawing.TheVariants as withdrawing
use Rattle.channel_ends.specs.Sending.{OwnerNotes}
use Rattle.channel_ends.specs.Offers.{Offers}
use Rattle.channel_ends.specs.Learns.{Learns}
use Rattle.channel_ends.specs.Receiving.{Receiving, Receives, DecidesNone, SawOne}
use Rattle.channel_ends.proofs.Examples.{one_int, an_offer, notes, a_peer, receiver, new_one, five_offered, five_known, five_taken, five_is_offered, five_is_taken}
use Rattle.channel_ends.proofs.Examples.{it_is_found_taken, and_it_is_not_withdrawn}
use Rattle.channel_ends.proofs.AnswerExamples.{five_is_known}
use Rattle.request_ends.specs.Asking.{Asking}
use Rattle.request_ends.specs.declared.asking.Replied.TheVariants as replied
use Rattle.end_ports.specs.Held.{SendingAt, ReceivingAt, AskingAt}
use Rattle.end_ports.specs.Held.HeldEnd.{OfSend, OfRecv, OfAsk, NotHeld}
use Rattle.end_ports.specs.OnLinks.{on_send}
use Rattle.end_ports.specs.Answers.{as_payload, learned_as, received_as, replied_as, is_quiet}
use Rattle.end_ports.specs.EndCalls.{OffersInt, OffersAt, WithdrawsAt, TakesWanted, HasWanted, AfterLearning, PollsAt}
use Rattle.end_ports.specs.declared.brought.Brought.{Brought}
use Rattle.end_ports.specs.declared.brought.Polled.TheVariants as small
use Rattle.end_ports.specs.inner.Arrivals.{arrival_of}
use Rattle.end_ports.specs.inner.Calls.{TellsAt, OffersOn, WithdrawsOn, PollsOn}
use Rattle.end_ports.specs.PortFields.{held_of}
use Rattle.end_ports.specs.RecvFields.{receiving_at_of, IsReceivingAt}
use Rattle.end_ports.specs.SendFields.{sending_at_of, IsSendingAt}
use Rattle.end_ports.proofs.Examples.{sends_on, receives_on, asks_on, read, seven, requested, asks}

-- ---- how the answers are told

-- 7, and a count of 2
abbrev left_there : Brought
left_there = record { message = pos 7 ∷ []; answer = Count 2 }

pub what_was_left : arrival_of (small.Got 3 4) left_there ∷ arrival_of (small.Reply 3 4) left_there ∷ arrival_of (small.Pass 3 4) left_there ∷ []
    ≡ arrived.Got 3 (pos 7 ∷ []) 4 ∷ arrived.Reply 3 (Count 2) 4 ∷ arrived.Pass 3 4 ∷ []
what_was_left = refl

pub not_another_message : arrival_of (small.Got 3 4) left_there ≡ arrived.Got 3 (pos 8 ∷ []) 4 → ⊥
not_another_message h = cc

pub what_is_handed_back : as_payload (Offered 0 1) ∷ as_payload (NoRoom (one_int 5)) ∷ as_payload (NotYet (one_int 6)) ∷ as_payload (ClockFull (one_int 7)) ∷ []
    ≡ Offered 0 1 ∷ NoRoom (Int (pos 5 ∷ [])) ∷ NotYet (Int (pos 6 ∷ [])) ∷ ClockFull (Int (pos 7 ∷ [])) ∷ []
what_is_handed_back = refl

abbrev learnings : (Learning → Arrived) → List Arrived
learnings f = f (learning.Know 0 3) ∷ f (learning.Room 1 4) ∷ f learning.Undecided ∷ f learning.AllKnown ∷ f learning.ClockFull ∷ []

pub what_is_learned : learnings learned_as ≡ arrived.Know 0 3 ∷ arrived.Room 1 4 ∷ arrived.Nothing ∷ arrived.Nothing ∷ arrived.ClockFull ∷ []
what_is_learned = refl

pub what_is_quiet : is_quiet (learning.Know 0 3) ∷ is_quiet (learning.Room 1 4) ∷ is_quiet learning.Undecided ∷ is_quiet learning.AllKnown ∷ is_quiet learning.ClockFull ∷ []
    ≡ false ∷ false ∷ true ∷ true ∷ false ∷ []
what_is_quiet = refl

pub what_is_received : received_as (receiving.Took 0 (one_int 5) 2) ∷ received_as (receiving.Passed 1 4) ∷ received_as receiving.Nothing ∷ received_as receiving.NotYet
    ∷ received_as receiving.ClockFull ∷ [] ≡ arrived.Got 0 (one_int 5) 2 ∷ arrived.Pass 1 4 ∷ arrived.Nothing ∷ arrived.NotYet ∷ arrived.ClockFull ∷ []
what_is_received = refl

pub what_is_replied : replied_as (replied.Reply 0 (Bytes (7 ∷ [])) 4) ∷ replied_as replied.Nothing ∷ replied_as replied.ClockFull ∷ []
    ≡ arrived.Reply 0 (Bytes (7 ∷ [])) 4 ∷ arrived.Nothing ∷ arrived.ClockFull ∷ []
what_is_replied = refl

-- ---- a channel of one place

abbrev before_five : SendingAt
before_five = sends_on 0 new_one

abbrev after_five : SendingAt
after_five = sends_on 0 five_offered

-- with other notes of it
abbrev five_noted : OwnerNotes → SendingAt
five_noted e = sends_on 0 (record five_offered { notes = e })

abbrev before_taking : ReceivingAt
before_taking = receives_on 0 (receiver 1 (a_peer [] 0 word.Unused None) [])

abbrev after_taking : ReceivingAt
after_taking = receives_on 0 five_taken

pub an_int_is_offered : OffersInt before_five 0 (Int (pos 5 ∷ [])) (Offered 0 1) after_five
an_int_is_offered = (Offered 0 1, five_is_offered, refl)

pub so_it_is_on_its_link : OffersAt (OfSend before_five) 0 (Int (pos 5 ∷ [])) (Offered 0 1) (OfSend after_five)
so_it_is_on_its_link = an_int_is_offered

pub a_read_is_not : OffersInt before_five 0 (read 4) (Offered 0 1) after_five → ⊥
a_read_is_not h = h

pub nothing_is_offered_where_it_receives : OffersAt (OfRecv before_taking) 0 (Int (pos 5 ∷ [])) (Offered 0 1) (OfSend after_five) → ⊥
nothing_is_offered_where_it_receives h = h

-- one that is made is told of with its number
pub not_under_another_number : OffersAt (OfSend before_five) 0 (Int (pos 5 ∷ [])) (Offered 1 1) (OfSend after_five) → ⊥
not_under_another_number h = never h.0 h.1 h.2
  where
    never : (r : Offering (List ℤ)) → Offers new_one (one_int 5) 0 r five_offered → Offered 1 1 ≡ as_payload r → ⊥
    never (Offered number stamp) o e = let n : 1 ≡ number = cc in omega (arith, n, o.2)
    never (NoRoom back) o e = cc
    never (NotYet back) o e = cc
    never (ClockFull back) o e = cc

pub it_is_found_taken_there : WithdrawsAt (OfSend after_five) 0 1 (withdrawing.Taken 3) (OfSend (five_noted five_known))
it_is_found_taken_there = it_is_found_taken

pub and_is_not_withdrawn : WithdrawsAt (OfSend after_five) 0 1 (withdrawing.Withdrawn 2) (OfSend (five_noted five_known)) → ⊥
and_is_not_withdrawn h = and_it_is_not_withdrawn h

abbrev five_learned : OwnerNotes
five_learned = notes 1 (an_offer 1 None (Some 2) ∷ []) (Some 2 ∷ []) 1 (word.Taken 2)

pub its_taking_is_known : PollsAt (OfSend after_five) 1 false (arrived.Know 0 3) (OfSend (five_noted five_learned))
its_taking_is_known = (learning.Know 0 3, five_is_known, refl)

-- nothing comes without a look in this call
pub not_without_a_load : PollsAt (OfSend after_five) 1 true arrived.Nothing (OfSend after_five) → ⊥
not_without_a_load h = never h.0 h.1 h.2
  where
    never : (r : Learning) → Learns five_offered.notes 1 r five_offered.notes → arrived.Nothing ≡ learned_as r → ⊥
    never (learning.Know number s) l e = cc
    never (learning.Room number s) l e = cc
    never learning.Undecided l e = let more = l.loads in omega (arith, more)
    never learning.AllKnown l e = let all = l.0 in omega (arith, all)
    never learning.ClockFull l e = cc

pub it_is_taken_where_it_is_wanted : PollsAt (OfRecv before_taking) 0 true (arrived.Got 0 (one_int 5) 2) (OfRecv after_taking)
it_is_taken_where_it_is_wanted = (receiving.Took 0 (one_int 5) 2, five_is_taken, refl)

pub and_else_nothing_changes : TakesWanted false before_taking.end 0 arrived.Nothing before_taking.end
and_else_nothing_changes = (refl, refl)

pub not_taken_unwanted : TakesWanted false before_taking.end 0 (arrived.Got 0 (one_int 5) 2) after_taking.end → ⊥
not_taken_unwanted h = let e = h.0 in cc

pub not_without_a_look : TakesWanted true before_taking.end 0 arrived.Nothing before_taking.end → ⊥
not_without_a_look h = never h.0 h.1 h.2
  where
    never : (r : Received (List ℤ)) → Receives before_taking.end 0 r before_taking.end → arrived.Nothing ≡ received_as r → ⊥
    never (receiving.Took number value s) l e = cc
    never (receiving.Passed number s) l e = cc
    never receiving.Nothing l e = let more = l.0.looks in omega (arith, more)
    never receiving.NotYet l e = cc
    never receiving.ClockFull l e = cc

-- ---- the requests: a read is offered with stamp 1, and done with stamp 2

abbrev none_asked : Asking
none_asked = asks (requested [] [] 0 []) [] []

abbrev one_asked : Option ℕ → Option ℕ → Option ℕ → ℕ → List Response → Asking
one_asked withdrawn known heard told gathered =
    record (asks (record (requested (an_offer 1 withdrawn known ∷ []) (heard ∷ []) told (read 4 ∷ [])) { free = 15 }) gathered []) { places = 39 }

abbrev at_requests : Asking → AskingAt
at_requests a = asks_on 2 false a

pub a_read_is_offered_there : OffersAt (OfAsk (at_requests none_asked)) 0 (read 4) (Offered 0 1) (OfAsk (at_requests (one_asked None None None 0 [])))
a_read_is_offered_there = (
  refl,
  refl,
  refl,
  record {
    send = record {
      ring = refl;
      notes = record { table = refl; offers = refl; heard = refl; told = refl; loads = omega arith };
      payloads = refl;
      free = omega arith;
    };
    rest = refl;
    places = refl;
    list = refl;
  },
)

pub there_is_room : OffersAt (OfAsk (at_requests none_asked)) 0 (read 4) (NoRoom (read 4)) (OfAsk (at_requests none_asked)) → ⊥
there_is_room h = let e = h.0 in cc

pub it_is_withdrawn : WithdrawsAt (OfAsk (at_requests (one_asked None None None 0 []))) 0 1 (withdrawing.Withdrawn 2) (OfAsk (at_requests (one_asked (Some 2) None None 0 [])))
it_is_withdrawn = record { next = refl; not_heard = refl; not_told = omega arith; after = refl }

-- not once a settling has told of its decision
pub not_when_it_is_decided : WithdrawsAt (OfAsk (at_requests (one_asked None None None 1 []))) 0 1 (withdrawing.Withdrawn 2) (OfAsk (at_requests (one_asked (Some 2) None None 1 []))) → ⊥
not_when_it_is_decided h = let l = h.not_told in omega (arith, l)

-- its decision was heard of; it is known; and its reply is had
abbrev done_heard : Asking
done_heard = one_asked None None (Some 2) 1 (seven ∷ [])

abbrev done_known : Asking
done_known = one_asked None (Some 2) (Some 2) 1 (seven ∷ [])

abbrev done_replied : Asking
done_replied = record (one_asked None (Some 2) (Some 2) 1 []) { replies = seven ∷ [] }

abbrev a_reply : ℕ → Arrived
a_reply stamp = arrived.Reply 0 (Bytes (7 ∷ [])) stamp

pub its_reply_is_had : HasWanted true done_known 3 (a_reply 4) done_replied
its_reply_is_had = (replied.Reply 0 (Bytes (7 ∷ [])) 4, (2, refl, refl, record { rest = refl; replies = refl; waiting = inl (refl, ([], refl)); list = refl }), refl)

pub no_reply_unwanted : HasWanted false done_known 3 (a_reply 4) done_replied → ⊥
no_reply_unwanted h = let e = h.0 in cc

pub its_decision_comes_first : AfterLearning (is_quiet (learning.Know 0 3)) (learning.Know 0 3) done_known 1 true (arrived.Know 0 3) done_known
its_decision_comes_first = (refl, refl)

pub and_its_reply_then : PollsAt (OfAsk (at_requests done_known)) 3 true (a_reply 4) (OfAsk (at_requests done_replied))
and_its_reply_then = record { learned = learning.AllKnown; then = done_known; learns = (refl, refl); only = refl; after = its_reply_is_had }

pub or_nothing_unwanted : PollsAt (OfAsk (at_requests done_known)) 3 false arrived.Nothing (OfAsk (at_requests done_known))
or_nothing_unwanted = record { learned = learning.AllKnown; then = done_known; learns = (refl, refl); only = refl; after = (refl, refl) }

-- while there is a decision to be learned no reply comes
pub no_reply_before_it : (new : Asking) → PollsAt (OfAsk (at_requests done_heard)) 3 true (a_reply 4) (OfAsk (at_requests new)) → ⊥
no_reply_before_it new h = never h.learned h.then h.learns h.after
  where
    never : (r : Learning) (then : Asking) → Learns done_heard.send.notes 3 r then.send.notes → AfterLearning (is_quiet r) r then 3 true (a_reply 4) new → ⊥
    never (learning.Know number s) then l a = let e = a.0 in cc
    never (learning.Room number s) then l a = let e = a.0 in cc
    never learning.Undecided then l a = let told = l.not_told in omega (arith, told)
    never learning.AllKnown then l a = let all = l.0 in omega (arith, all)
    never learning.ClockFull then l a = let e = a.0 in cc

-- a link that the core does not have answers nothing
pub nothing_comes_of_another : PollsAt NotHeld 3 true arrived.Nothing NotHeld → ⊥
nothing_comes_of_another h = h

-- ---- what is told of the link then

abbrev polled : ReceivingAt → ReceivingAt
polled r = record r { polls = 5 }

pub the_offer_is_told : OffersOn (OfSend before_five) 0 0 (Int (pos 5 ∷ [])) (Offered 0 1) (OfSend (record after_five { tries = 4 })) 1
the_offer_is_told = record {
  answer = refl;
  serves = record { terms = refl; tells = record { link = refl; answers = 0; fits = refl; next = refl; noted = refl; end = refl; clock = refl }; hand = tt };
  polls = refl;
  tries = refl;
  exact = an_int_is_offered;
}

-- where none is made the end and the clock stay
pub nothing_else_is_told : TellsAt (on_send before_five).terms (on_send before_five).end 0 3 None (on_send before_five).end 3
nothing_else_is_told = (refl, refl)

pub the_clock_stays_then : TellsAt (on_send before_five).terms (on_send before_five).end 0 3 None (on_send before_five).end 4 → ⊥
the_clock_stays_then h = let e = h.1 in omega (arith, e)

pub its_try_is_counted : OffersOn (OfSend before_five) 0 0 (Int (pos 5 ∷ [])) (Offered 0 1) (OfSend after_five) 1 → ⊥
its_try_is_counted h = let e = h.tries in omega (arith, e)

pub its_withdrawal_is_told : WithdrawsOn (OfSend after_five) 0 1 0 (withdrawing.Taken 3) (OfSend (five_noted five_known)) 3
its_withdrawal_is_told = record {
  answer = tt;
  serves = record { terms = refl; tells = record { link = refl; answers = 2; fits = refl; next = refl; noted = refl; end = refl; clock = refl }; hand = tt };
  polls = refl;
  tries = refl;
  exact = it_is_found_taken;
}

pub its_taking_is_told : PollsOn (OfRecv before_taking) 0 0 true (arrived.Got 0 (one_int 5) 2) (OfRecv (polled after_taking)) 2
its_taking_is_told = record {
  answer = refl;
  serves = record { terms = refl; tells = record { link = refl; answers = 1; fits = refl; next = refl; noted = refl; end = refl; clock = refl }; hand = tt };
  polls = refl;
  tries = refl;
  exact = it_is_taken_where_it_is_wanted;
}

pub its_poll_is_counted : PollsOn (OfRecv before_taking) 0 0 true (arrived.Got 0 (one_int 5) 2) (OfRecv after_taking) 2 → ⊥
its_poll_is_counted h = let e = h.polls in omega (arith, e)

-- ---- ends, from their fields

pub as_it_sends : sending_at_of (record { link = 0; end = five_offered; polls = 7; tries = 3 }) ≡ after_five
as_it_sends = refl

pub as_it_receives : receiving_at_of (record { link = 0; end = five_taken; polls = 4 }) ≡ after_taking
as_it_receives = refl

pub it_has_what_it_carries : IsSendingAt (record { link = 0; end = five_offered; polls = 7; tries = 3 })
it_has_what_it_carries = record { carries = refl; hears = refl }

pub not_without_its_payload : IsSendingAt (record { link = 0; end = record five_offered { payloads = [] }; polls = 7; tries = 3 }) → ⊥
not_without_its_payload h = let e : ◌≡◌ {A = ℕ} 0 1 = h.carries in absurd (omega arith)

pub one_item_for_each : IsReceivingAt (record { link = 0; end = five_taken; polls = 4 })
one_item_for_each = record { one_each = refl; known = omega arith }

pub not_with_an_item_lost : IsReceivingAt (record { link = 0; end = record five_taken { popped = [] }; polls = 4 }) → ⊥
not_with_an_item_lost h = let e : ◌≡◌ {A = ℕ} 0 1 = h.one_each in absurd (omega arith)

pub as_it_holds : held_of (record { ends = record { sends = after_five ∷ []; recvs = after_taking ∷ []; ask = at_requests done_known; brought = left_there }; full = true })
    ≡ record { sends = after_five ∷ []; recvs = after_taking ∷ []; ask = at_requests done_known; full = true }
as_it_holds = refl

-- ---- a look that decides nothing

abbrev five_seen : Receiving (List ℤ)
five_seen = receiver 1 (a_peer [] 1 (word.Offered 1) (Some (look.Offered 1))) []

pub it_decides_none : DecidesNone before_taking.end five_seen
it_decides_none = record { table = refl; ring = refl; decisions = refl; told = refl; looks = refl; popped = refl; items = ([], refl) }

pub it_saw_one : SawOne five_seen.peer
it_saw_one e = cc

pub taking_decides_one : DecidesNone before_taking.end five_taken → ⊥
taking_decides_one h = let e = h.decisions in cc

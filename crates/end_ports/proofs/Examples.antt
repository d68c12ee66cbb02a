-- What is told of the links of one core, by numbers: on channel 0, of two places, it has withdrawn 5 and offered 6; on channel 1 it has
-- passed one offer and taken 6; and on link 2, of its requests, the reply with 7 was gathered and that with 8 is on the ring.
use Rattle.std.proofs.Common.{◌≡◌, ◌≤◌, ℕ, List, [], ◌∷◌, Option, Some, None, Bool, true, false, refl, ap, arith, ℤ}
use Rattle.std.specs.Prelude.{pos}
use Rattle.ac_base.specs.declared.entry.Payload.{Payload}
use Rattle.ac_base.specs.declared.entry.Payload.TheVariants.{Int, Read}
use Rattle.ac_base.specs.declared.entry.Answer.TheVariants.{Bytes}
use Rattle.ac_links.specs.Payloads.Taking.{Message}
use Rattle.ac_links.specs.Views.{Response, OwnerOffer}
use Rattle.ac_links.specs.Noted.{or_zero}
use Rattle.ac_links.specs.Party.LinkEnd.{Owns, Decides, Absent}
use Rattle.completion_word.specs.declared.answers.Look.{Look}
use Rattle.completion_word.specs.declared.answers.Look.TheVariants as look
use Rattle.completion_word.specs.declared.standing.Standing.TheVariants as word
use Rattle.core_ports.specs.Ends.{greatest}
use Rattle.channel_ends.specs.Rings.{RingName}
use Rattle.channel_ends.specs.Sending.{MadeOffer, OwnerNotes, Sending}
use Rattle.channel_ends.specs.Receiving.{Receiving}
use Rattle.channel_ends.proofs.Examples.{one_int, words_of, a_ring, an_offer, notes, sender, a_peer, receiver}
use Rattle.channel_ends.proofs.SettledExamples.{both_offers, both_decisions}
use Rattle.request_ends.specs.Asking.{Asking}
use Rattle.end_ports.specs.Held.{SendingAt, ReceivingAt, AskingAt, Held, IsSameSendAt, IsSameRecvAt, IsSameAskAt}
use Rattle.end_ports.specs.Held.HeldEnd.{OfSend, OfRecv, OfAsk, NotHeld}
use Rattle.end_ports.specs.OnLinks.{is_decided, on_send, on_recv, on_ask, not_held, offers_on, decisions_on}
use Rattle.end_ports.specs.OnLinks.{sent_on, received_on, or_received, or_sent, end_on, told_by, on_link}
use Rattle.end_ports.specs.PortsTold.{told_of, EachSo, Stays}

-- ---- a channel on which the core sends

-- both offers with so many decisions told of; of the first one the words have told that it was passed with stamp 3
abbrev pub two_offered : ℕ → OwnerNotes
two_offered told = record (notes 2 both_offers (Some 3 ∷ None ∷ []) 1 (word.Passed 3)) { told = told }

abbrev pub sends_on : ℕ → Sending (List ℤ) → SendingAt
sends_on l end = record { link = l; end = end; polls = 7; tries = 3 }

abbrev sending : SendingAt
sending = sends_on 0 (sender (two_offered 1) (one_int 5 ∷ one_int 6 ∷ []) 1)

abbrev pub offer_of : Payload → ℕ → Option ℕ → Option ℕ → OwnerOffer
offer_of payload stamp withdrawn known = record { payload = payload; stamp = stamp; withdrawn = withdrawn; known = known; reply = None }

pub both_are_offered : offers_on sending ≡ offer_of (Int (pos 5 ∷ [])) 1 (Some 2) None ∷ offer_of (Int (pos 6 ∷ [])) 3 None None ∷ []
both_are_offered = refl

pub what_is_told_where_it_sends : on_send sending ≡ record {
  terms = record { capacity = 2; requests = false };
  end = Owns (offer_of (Int (pos 5 ∷ [])) 1 (Some 2) None ∷ offer_of (Int (pos 6 ∷ [])) 3 None None ∷ []);
  hand = record { decision = true; front = false; reply = false; slot = true };
  heard = 3;
  polls = 7;
  tries = 3;
}
what_is_told_where_it_sends = refl

-- no slot is at hand where none is known to be free
pub no_slot_is_at_hand : (on_send (sends_on 0 (sender (two_offered 1) (one_int 5 ∷ one_int 6 ∷ []) 0))).hand ≡ record { decision = true; front = false; reply = false; slot = false }
no_slot_is_at_hand = refl

-- of two offers: the first one that is not known is the one that was told of, or the one after it; none was told of; and both are known
abbrev known_so : Option ℕ → Option ℕ → ℕ → OwnerNotes
known_so first second told = record (two_offered told) { offers = an_offer 1 (Some 2) first ∷ an_offer 3 None second ∷ [] }

pub when_one_is_decided : is_decided (known_so None None 1) ∷ is_decided (known_so (Some 3) None 1) ∷ is_decided (known_so None None 0) ∷ is_decided (known_so (Some 3) (Some 4) 3) ∷ []
    ≡ true ∷ false ∷ false ∷ false ∷ []
when_one_is_decided = refl

pub greatest_stamps : greatest or_zero (Some 3 ∷ None ∷ Some 8 ∷ Some 5 ∷ []) ∷ greatest or_zero [] ∷ [] ≡ 8 ∷ 0 ∷ []
greatest_stamps = refl

-- ---- one on which it receives

-- both are decided, and so many offers were told of
abbrev pub two_decided : ℕ → Option Look → Receiving (List ℤ)
two_decided told seen = receiver 2 (record (a_peer both_decisions 3 word.Unused seen) { told_offers = told }) (one_int 5 ∷ one_int 6 ∷ [])

abbrev pub receives_on : ℕ → Receiving (List ℤ) → ReceivingAt
receives_on l end = record { link = l; end = end; polls = 4 }

-- of a third offer it was told, and has seen that it stands with stamp 9
abbrev receiving : ReceivingAt
receiving = receives_on 1 (two_decided 3 (Some (look.Offered 9)))

pub both_are_decided : decisions_on receiving
    ≡ record { value = None; stamp = 3; answers = 2 } ∷ record { value = Some (Message (one_int 6)); stamp = 4; answers = 3 } ∷ []
both_are_decided = refl

pub what_is_told_where_it_receives : on_recv receiving ≡ record {
  terms = record { capacity = 2; requests = false };
  end = Decides (record { value = None; stamp = 3; answers = 2 } ∷ record { value = Some (Message (one_int 6)); stamp = 4; answers = 3 } ∷ []);
  hand = record { decision = false; front = true; reply = false; slot = false };
  heard = 9;
  polls = 4;
  tries = 0;
}
what_is_told_where_it_receives = refl

-- what it has decided is not at hand any more
pub no_front_is_at_hand : (on_recv (receives_on 1 (two_decided 2 None))).hand ≡ record { decision = false; front = false; reply = false; slot = false }
no_front_is_at_hand = refl

-- ---- the requests

-- so many bytes from the start of file 0
abbrev pub read : ℕ → Payload
read n = Read 0 0 n

abbrev pub seven : Response
seven = record { answer = Bytes (7 ∷ []); of = 2 }

abbrev eight : Response
eight = record { answer = Bytes (8 ∷ []); of = 6 }

abbrev pub requested : List MadeOffer → List (Option ℕ) → ℕ → List Payload → Sending Payload
requested offers heard told payloads = record {
  ring = a_ring;
  notes = record (notes 16 offers heard 0 word.Unused) { told = told };
  payloads = payloads;
  free = 16;
}

abbrev pub asks : Sending Payload → List Response → List Response → Asking
asks send gathered items = record { send = send; ring = a_ring; replies = []; gathered = gathered; items = items; places = 40 }

abbrev pub asks_on : ℕ → Bool → Asking → AskingAt
asks_on l settled end = record { link = l; end = end; polls = 5; tries = 2; settled = settled }

-- the first is known to be done, with stamp 2, and all three decisions were told of
abbrev three : Sending Payload
three = requested (an_offer 1 None (Some 2) ∷ an_offer 2 (Some 4) None ∷ an_offer 3 None None ∷ []) (Some 2 ∷ None ∷ None ∷ []) 3 (read 1 ∷ read 2 ∷ read 3 ∷ [])

abbrev asking : AskingAt
asking = asks_on 2 true (asks three (seven ∷ []) (eight ∷ []))

pub what_is_told_where_it_asks : on_ask asking ≡ record {
  terms = record { capacity = 16; requests = true };
  end = Owns (offer_of (read 1) 1 None (Some 2) ∷ offer_of (read 2) 2 (Some 4) None ∷ offer_of (read 3) 3 None None ∷ []);
  hand = record { decision = true; front = false; reply = true; slot = true };
  heard = 6;
  polls = 5;
  tries = 2;
}
what_is_told_where_it_asks = refl

-- once something was entered no place is told of; and a reply that was not gathered is heard of, but not at hand
pub not_all_is_at_hand : (on_ask (asks_on 2 false (asks three [] (eight ∷ [])))).hand ≡ record { decision = true; front = false; reply = false; slot = false }
not_all_is_at_hand = refl

-- ---- all links of the core

abbrev held : Held
held = record { sends = sending ∷ []; recvs = receiving ∷ []; ask = asking; full = false }

pub whose_end_it_is : end_on held 0 ∷ end_on held 1 ∷ end_on held 2 ∷ end_on held 3 ∷ [] ≡ OfSend sending ∷ OfRecv receiving ∷ OfAsk asking ∷ NotHeld ∷ []
whose_end_it_is = refl

-- where several have one number
abbrev twice : Held
twice = record held {
  sends = sending ∷ sends_on 0 (sender (two_offered 0) [] 0) ∷ sends_on 2 (sender (two_offered 0) [] 0) ∷ [];
  recvs = receives_on 0 (two_decided 0 None) ∷ receiving ∷ [];
}

pub first_of_its_number : end_on twice 0 ∷ end_on twice 1 ∷ end_on twice 2 ∷ [] ≡ OfSend sending ∷ OfRecv receiving ∷ OfAsk asking ∷ []
first_of_its_number = refl

pub ends_of_one_kind : (sent_on twice.sends 0 ≡ Some sending) × (sent_on twice.sends 1 ≡ None) × (received_on twice.recvs 1 ≡ Some receiving) × (received_on twice.recvs 2 ≡ None)
ends_of_one_kind = (refl, refl, refl, refl)

pub sent_before_received : or_sent (Some sending) (Some receiving) ∷ or_sent None (Some receiving) ∷ or_sent None None ∷ or_received (Some receiving) ∷ []
    ≡ OfSend sending ∷ OfRecv receiving ∷ NotHeld ∷ OfRecv receiving ∷ []
sent_before_received = refl

pub nothing_is_told_of_others : not_held ≡ record {
  terms = record { capacity = 0; requests = false };
  end = Absent;
  hand = record { decision = false; front = false; reply = false; slot = false };
  heard = 0;
  polls = 0;
  tries = 0;
}
nothing_is_told_of_others = refl

pub told_of_each : on_link held 0 ∷ on_link held 1 ∷ told_by (OfAsk asking) ∷ on_link held 3 ∷ [] ≡ on_send sending ∷ on_recv receiving ∷ on_link held 2 ∷ not_held ∷ []
told_of_each = refl

abbrev at_each : {X : Type 0} → (ℕ → X) → List X
at_each f = f 0 ∷ f 1 ∷ f 2 ∷ f 3 ∷ []

pub numbers_told : at_each (told_of held).heard ∷ at_each (told_of held).polls ∷ at_each (told_of held).tries ∷ []
    ≡ (3 ∷ 9 ∷ 6 ∷ 0 ∷ []) ∷ (7 ∷ 4 ∷ 5 ∷ 0 ∷ []) ∷ (3 ∷ 0 ∷ 2 ∷ 0 ∷ []) ∷ []
numbers_told = refl

pub rest_told : ((told_of held).terms 2 ≡ record { capacity = 16; requests = true }) × ((told_of held).ends 3 ≡ Absent)
    × ((told_of held).at_hand 1 ≡ record { decision = false; front = true; reply = false; slot = false }) × ((told_of held).full ≡ false)
rest_told = (refl, refl, refl, refl)

-- ---- the same ends

abbrev pub other_ring : RingName
other_ring = record a_ring { names = (2, (0, 0)) }

abbrev pub ring_number : RingName → ℕ
ring_number r = r.names.0

-- 6 was withdrawn too, and the channel settled
abbrev sending_later : SendingAt
sending_later = record sending { end = sender (record (two_offered 2) { offers = an_offer 1 (Some 2) None ∷ an_offer 3 (Some 5) None ∷ [] }) (one_int 5 ∷ one_int 6 ∷ []) 2; tries = 4 }

pub it_sends_on_the_same : IsSameSendAt sending sending_later
it_sends_on_the_same = record { link = refl; end = record { table = refl; ring = refl } }

pub not_on_other_words : IsSameSendAt sending (sends_on 0 (sender (record (two_offered 1) { table = words_of 3 }) (one_int 5 ∷ one_int 6 ∷ []) 1)) → ⊥
not_on_other_words h = let e = ap (λ t. t.words) h.end.table in omega (arith, e)

pub it_receives_on_the_same : IsSameRecvAt receiving (receives_on 1 (two_decided 0 None))
it_receives_on_the_same = record { link = refl; end = record { table = refl; ring = refl } }

pub not_under_another_number : IsSameRecvAt receiving (record receiving { link = 3 }) → ⊥
not_under_another_number h = let e = h.link in omega (arith, e)

pub it_asks_on_the_same : IsSameAskAt asking (asks_on 2 false (asks three (seven ∷ eight ∷ []) []))
it_asks_on_the_same = record { link = refl; end = record { send = record { table = refl; ring = refl }; ring = refl } }

pub not_with_another_ring_of_replies : IsSameAskAt asking (record asking { end = record (asks three [] []) { ring = other_ring } }) → ⊥
not_with_another_ring_of_replies h = let e = ap ring_number h.end.ring in omega (arith, e)

pub each_in_its_place : EachSo (λ m n. m ≤ n) (1 ∷ 2 ∷ []) (1 ∷ 3 ∷ [])
each_in_its_place = (omega arith, (omega arith, tt))

pub not_in_another_order : EachSo (λ m n. m ≤ n) (1 ∷ 2 ∷ []) (3 ∷ 1 ∷ []) → ⊥
not_in_another_order h = let l = h.1.0 in omega (arith, l)

pub they_stay : Stays held (record { sends = sending_later ∷ []; recvs = receives_on 1 (two_decided 0 None) ∷ []; ask = asks_on 2 false (asks three (seven ∷ eight ∷ []) []); full = true })
they_stay = record { sends = (it_sends_on_the_same, tt); recvs = (it_receives_on_the_same, tt); ask = it_asks_on_the_same }

pub not_with_one_end_less : Stays held (record held { recvs = [] }) → ⊥
not_with_one_end_less h = h.recvs

pub not_with_another_ring : Stays held (record held { sends = record sending { end = record (sender (two_offered 1) (one_int 5 ∷ one_int 6 ∷ []) 1) { ring = other_ring } } ∷ [] }) → ⊥
not_with_another_ring h = let e = ap ring_number h.sends.0.end.ring in omega (arith, e)

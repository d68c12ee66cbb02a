-- The stamps of what entries answer, as the two sides of a link have noted them.
use Rattle.std.specs.Prelude.{ℕ, List, Option, slice_get, Some, None}
use Rattle.ac_base.specs.declared.entry.Payload.{Payload}
use Rattle.ac_base.specs.declared.entry.Event.{Event}
use Rattle.ac_base.specs.declared.entry.Event.TheVariants.{Offer, Withdraw, Know, Room, Got, Pass, Did, Reply}
use Rattle.ac_links.specs.Views.{Response, OwnerOffer, PeerDecision}

abbrev pub offer_stamp : Option OwnerOffer → ℕ
offer_stamp None = 0
offer_stamp (Some o) = o.stamp

abbrev pub or_zero : Option ℕ → ℕ
or_zero None = 0
or_zero (Some w) = w

abbrev pub withdrawal_stamp : Option OwnerOffer → ℕ
withdrawal_stamp None = 0
withdrawal_stamp (Some o) = or_zero o.withdrawn

abbrev pub decision_stamp : Option PeerDecision → ℕ
decision_stamp None = 0
decision_stamp (Some d) = d.stamp

-- the stamp of the entry that an event answers, as the two views tell it
abbrev pub seen_of : List OwnerOffer → List PeerDecision → Event → ℕ
seen_of os ds (Offer l n payload) = 0
seen_of os ds (Withdraw l n) = 0
seen_of os ds (Know l n) = decision_stamp (slice_get ds n)
seen_of os ds (Room l n) = decision_stamp (slice_get ds n)
seen_of os ds (Got l n value) = offer_stamp (slice_get os n)
seen_of os ds (Pass l n) = withdrawal_stamp (slice_get os n)
seen_of os ds (Did l n answer) = offer_stamp (slice_get os n)
seen_of os ds (Reply l n answer) = decision_stamp (slice_get ds n)

abbrev pub offer_payload : Option OwnerOffer → Option Payload
offer_payload None = None
offer_payload (Some o) = Some o.payload

-- the request that an event answers, as the owner tells it
abbrev pub request_of : List OwnerOffer → Event → Option Payload
request_of os (Offer l n payload) = None
request_of os (Withdraw l n) = None
request_of os (Know l n) = None
request_of os (Room l n) = None
request_of os (Got l n value) = None
request_of os (Pass l n) = None
request_of os (Did l n answer) = offer_payload (slice_get os n)
request_of os (Reply l n answer) = None

abbrev pub known_stamp : Option OwnerOffer → ℕ
known_stamp None = 0
known_stamp (Some o) = or_zero o.known

abbrev pub response_stamp : Option Response → ℕ
response_stamp None = 0
response_stamp (Some r) = r.of

abbrev pub reply_stamp : Option OwnerOffer → ℕ
reply_stamp None = 0
reply_stamp (Some o) = response_stamp o.reply

abbrev pub answers_stamp : Option PeerDecision → ℕ
answers_stamp None = 0
answers_stamp (Some d) = d.answers

-- the stamp that the owner noted of what its event answers
abbrev pub owner_noted : List OwnerOffer → Event → ℕ
owner_noted os (Offer l n payload) = 0
owner_noted os (Withdraw l n) = 0
owner_noted os (Know l n) = known_stamp (slice_get os n)
owner_noted os (Room l n) = known_stamp (slice_get os n)
owner_noted os (Got l n value) = 0
owner_noted os (Pass l n) = 0
owner_noted os (Did l n answer) = 0
owner_noted os (Reply l n answer) = reply_stamp (slice_get os n)

-- the stamp that the peer noted of what its event answers
abbrev pub peer_noted : List PeerDecision → Event → ℕ
peer_noted ds (Offer l n payload) = 0
peer_noted ds (Withdraw l n) = 0
peer_noted ds (Know l n) = 0
peer_noted ds (Room l n) = 0
peer_noted ds (Got l n value) = answers_stamp (slice_get ds n)
peer_noted ds (Pass l n) = answers_stamp (slice_get ds n)
peer_noted ds (Did l n answer) = answers_stamp (slice_get ds n)
peer_noted ds (Reply l n answer) = 0

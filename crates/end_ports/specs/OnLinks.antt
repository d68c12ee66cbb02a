-- What the ports of a core tell of one link.
use Rattle.std.specs.Prelude.{ℕ, List, ◌++◌, length, Option, Some, None, Bool, true, false, ◌&&◌, ◌==◌, if◌then◌else◌, max, nat_lt}
use Rattle.std.specs.List.{find}
use Rattle.ac_base.specs.declared.entry.Payload.TheVariants.{Int}
use Rattle.ac_links.specs.declared.payloads.Terms.{Terms}
use Rattle.ac_links.specs.Payloads.Taking.{Message}
use Rattle.ac_links.specs.Views.{Response, OwnerOffer, PeerDecision}
use Rattle.ac_links.specs.Noted.{or_zero}
use Rattle.ac_links.specs.Party.{LinkEnd}
use Rattle.ac_links.specs.Party.LinkEnd.{Owns, Decides, Absent}
use Rattle.completion_word.specs.Steps.{stamp_seen}
use Rattle.channel_ends.specs.Sending.{OwnerNotes, capacity_of, known_lead, has_room}
use Rattle.channel_ends.specs.Settled.{owner_offers, peer_decisions}
use Rattle.core_ports.specs.AtHand.{AtHand}
use Rattle.core_ports.specs.Ends.{greatest}
use Rattle.request_ends.specs.Asking.{end_of}
use Rattle.end_ports.specs.Held.{SendingAt, ReceivingAt, AskingAt, Held, HeldEnd}
use Rattle.end_ports.specs.Held.HeldEnd.{OfSend, OfRecv, OfAsk, NotHeld}

-- its terms, the core's end, what is at hand, the greatest stamp of the other side that was heard of, and the counts of calls
pub record OnLink : Type 0 where
  pub terms : Terms
  pub end : LinkEnd
  pub hand : AtHand
  pub heard : ℕ
  pub polls : ℕ
  pub tries : ℕ

-- the first offer that is not known is decided, as the last settling told
abbrev pub is_decided : OwnerNotes → Bool
is_decided e = nat_lt (known_lead e.offers) e.told && nat_lt (known_lead e.offers) (length e.offers)

-- the offers of a channel, and the decisions, as the law on links has them
abbrev pub offers_on : SendingAt → List OwnerOffer
offers_on s = owner_offers Int s.end.payloads s.end.notes.offers

abbrev pub decisions_on : ReceivingAt → List PeerDecision
decisions_on r = peer_decisions (λ k x. Message x) 0 r.end.popped r.end.peer.decisions

-- a free slot is at hand where the end knows of one
abbrev pub on_send : SendingAt → OnLink
on_send s = record {
  terms = record { capacity = capacity_of s.end.notes; requests = false };
  end = Owns (offers_on s);
  hand = record { decision = is_decided s.end.notes; front = false; reply = false; slot = nat_lt 0 s.end.free };
  heard = greatest or_zero s.end.notes.heard;
  polls = s.polls;
  tries = s.tries;
}

-- an offer is at hand where the last settling told of more offers than are decided
abbrev pub on_recv : ReceivingAt → OnLink
on_recv r = record {
  terms = record { capacity = r.end.table.words; requests = false };
  end = Decides (decisions_on r);
  hand = record { decision = false; front = nat_lt (length r.end.peer.decisions) r.end.peer.told_offers; reply = false; slot = false };
  heard = stamp_seen r.end.peer.look;
  polls = r.polls;
  tries = 0;
}

-- a reply is at hand where one was gathered; a place for a request where there is room, and nothing was entered since the last settling
abbrev pub on_ask : AskingAt → OnLink
on_ask a = record {
  terms = record { capacity = capacity_of a.end.send.notes; requests = true };
  end = end_of a.end;
  hand = record {
    decision = is_decided a.end.send.notes;
    front = false;
    reply = nat_lt 0 (length a.end.gathered);
    slot = a.settled && has_room a.end.send.notes;
  };
  heard = max (greatest or_zero a.end.send.notes.heard) (greatest (λ (r : Response). r.of) (a.end.gathered ++ a.end.items));
  polls = a.polls;
  tries = a.tries;
}

abbrev pub not_held : OnLink
not_held = record {
  terms = record { capacity = 0; requests = false };
  end = Absent;
  hand = record { decision = false; front = false; reply = false; slot = false };
  heard = 0;
  polls = 0;
  tries = 0;
}

-- the end of link l among those on which the core sends, and among those on which it receives
abbrev pub sent_on : List SendingAt → ℕ → Option SendingAt
sent_on sends l = find (λ s. s.link == l) sends

abbrev pub received_on : List ReceivingAt → ℕ → Option ReceivingAt
received_on recvs l = find (λ r. r.link == l) recvs

abbrev pub or_received : Option ReceivingAt → HeldEnd
or_received None = NotHeld
or_received (Some r) = OfRecv r

abbrev pub or_sent : Option SendingAt → Option ReceivingAt → HeldEnd
or_sent None r = or_received r
or_sent (Some s) r = OfSend s

-- the end of the requests, or else the first of this number on which the core sends, or else on which it receives
abbrev pub end_on : Held → ℕ → HeldEnd
end_on h l = if h.ask.link == l then OfAsk h.ask else or_sent (sent_on h.sends l) (received_on h.recvs l)

abbrev pub told_by : HeldEnd → OnLink
told_by (OfSend s) = on_send s
told_by (OfRecv r) = on_recv r
told_by (OfAsk a) = on_ask a
told_by NotHeld = not_held

abbrev pub on_link : Held → ℕ → OnLink
on_link h l = told_by (end_on h l)

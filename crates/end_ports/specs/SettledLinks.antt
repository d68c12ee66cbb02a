-- What is told of a channel once its two ends are settled, and of the requests.
use Rattle.std.specs.Prelude.{◌≡◌, ◌≤◌, ℕ, ◌+◌, List, length, Some, None, max, nat_lt, true, false}
use Rattle.ac_base.specs.declared.entry.Payload.{Payload}
use Rattle.ac_links.specs.Views.{Response, OwnerOffer, PeerDecision, owner_lead}
use Rattle.ac_links.specs.Party.LinkEnd.{Owns, Decides}
use Rattle.core_channels.specs.LinkViews.{AreViews}
use Rattle.core_ports.specs.Ends.{greatest, has_room, last_stamp_of}
use Rattle.completion_word.specs.declared.views.Decision.{Decision}
use Rattle.channel_ends.specs.Sending.{known_lead}
use Rattle.channel_ends.specs.Receiving.{Receiving}
use Rattle.channel_ends.specs.Settled.{AreEnds, stamp_of}
use Rattle.request_ends.specs.Replying.{Replying}
use Rattle.end_ports.specs.Held.{Held, SendingAt, ReceivingAt, AskingAt}
use Rattle.end_ports.specs.OnLinks.{OnLink, sent_on, received_on, on_ask, end_on}
use Rattle.end_ports.specs.PortsTold.{told_of, Stays}

-- settling makes no entry and counts no call: it may change only what is at hand
pub record IsQuiet (old new : OnLink) : Type 0 where
  pub terms : new.terms ≡ old.terms
  pub end : new.end ≡ old.end
  pub heard : new.heard ≡ old.heard
  pub polls : new.polls ≡ old.polls
  pub tries : new.tries ≡ old.tries

-- the two ends make one legal link, all that there is is at hand, and of no stamp was heard that is greater than all of the other side
pub record IsSettled (owner peer : OnLink) : Type 0 where
  pub offers : List OwnerOffer
  pub decisions : List PeerDecision
  pub owns : owner.end ≡ Owns offers
  pub decides : peer.end ≡ Decides decisions
  pub views : AreViews false offers decisions
  -- the first offer that is not known is decided
  pub decision : owner.hand.decision ≡ nat_lt (owner_lead offers) (length decisions)
  pub slot : has_room owner.terms owner.end ≡ true → owner.hand.slot ≡ true
  -- there is an offer that is not decided
  pub front : peer.hand.front ≡ nat_lt (length decisions) (length offers)
  pub heard_by_owner : owner.heard ≤ greatest (λ (d : PeerDecision). d.stamp) decisions
  pub heard_by_peer : peer.heard ≤ greatest last_stamp_of offers

-- the one end is that of the first ports on the link, where they send, and the other that of the second, which receive; they are of one
-- pair
pub record HavePair (from to : Held) (l : ℕ) : Type 0 where
  pub send : SendingAt
  pub recv : ReceivingAt
  pub sends : sent_on from.sends l ≡ Some send
  pub from_asks : from.ask.link ≡ l → ⊥
  pub recvs : received_on to.recvs l ≡ Some recv
  pub to_sends : sent_on to.sends l ≡ None
  pub to_asks : to.ask.link ≡ l → ⊥
  pub ends : AreEnds send.end recv.end

-- of all that ports tell only what is at hand on this link may have changed
pub record Settles (old : Held) (l : ℕ) (new : Held) : Type 0 where
  pub terms : (told_of new).terms ≡ (told_of old).terms
  pub ends : (told_of new).ends ≡ (told_of old).ends
  pub heard : (told_of new).heard ≡ (told_of old).heard
  pub polls : (told_of new).polls ≡ (told_of old).polls
  pub tries : (told_of new).tries ≡ (told_of old).tries
  pub full : new.full ≡ old.full
  pub others : (k : ℕ) → (l ≡ k → ⊥) → end_on new k ≡ end_on old k
  pub stays : Stays old new

-- ---- the requests

-- and of the link of the requests more may have been heard of the worker's entries, by the replies that have come
pub record SettlesRequests (old new : Held) : Type 0 where
  pub terms : (told_of new).terms ≡ (told_of old).terms
  pub ends : (told_of new).ends ≡ (told_of old).ends
  pub heard : (k : ℕ) → (told_of old).heard k ≤ (told_of new).heard k
  pub polls : (told_of new).polls ≡ (told_of old).polls
  pub tries : (told_of new).tries ≡ (told_of old).tries
  pub rest : new ≡ record old { ask = new.ask }
  pub others : (k : ℕ) → (old.ask.link ≡ k → ⊥) → end_on new k ≡ end_on old k
  pub stays : Stays old new

-- all that there is is at hand, and of no stamp was heard that is greater than all of the worker's decisions and replies
pub record IsSettledAsk (ask : AskingAt) (recv : Receiving Payload) (end : Replying) : Type 0 where
  pub decision : (on_ask ask).hand.decision ≡ nat_lt (known_lead ask.end.send.notes.offers) (length recv.peer.decisions)
  pub slot : has_room (on_ask ask).terms (on_ask ask).end ≡ true → (on_ask ask).hand.slot ≡ true
  pub reply : (on_ask ask).hand.reply ≡ nat_lt (length ask.end.replies) (length end.replies)
  pub heard : (on_ask ask).heard
      ≤ max (greatest (λ (d : Decision). stamp_of d.outcome) recv.peer.decisions) (greatest (λ (r : Response). r.of) end.replies)
  -- and no more requests are left to decide than their ring has places
  pub few : length ask.end.send.notes.offers ≤ length recv.peer.decisions + 16

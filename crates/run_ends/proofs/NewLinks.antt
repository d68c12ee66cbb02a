-- What is told of a link on which nothing was done.
use Rattle.std.proofs.Common.{◌≡◌, ◌≢◌, ℕ, List, [], ◌++◌}
use Rattle.std.proofs.Common.{true, false, refl, ap, ◌∙◌, length, nat_lt}
use Rattle.std.specs.Prelude.{◌&&◌, max}
use Rattle.std.proofs.Math.Bool.{and-false}
use Rattle.ac_base.specs.declared.entry.Payload.{Payload}
use Rattle.ac_base.specs.declared.entry.Payload.TheVariants.{Int}
use Rattle.ac_links.specs.declared.payloads.Terms.{Terms}
use Rattle.ac_links.specs.Noted.{or_zero}
use Rattle.ac_links.specs.Views.{Response}
use Rattle.ac_links.specs.Payloads.Taking.{Message}
use Rattle.ac_links.specs.Party.LinkEnd.{Owns, Decides}
use Rattle.completion_word.specs.Steps.{stamp_seen}
use Rattle.core_ports.specs.declared.side.Side.{Side}
use Rattle.core_ports.specs.declared.side.Side.TheVariants.{Owner, Peer, Neither}
use Rattle.channel_ends.specs.Sending.{OwnerNotes, known_lead}
use Rattle.channel_ends.specs.Receiving.{Receiving}
use Rattle.channel_ends.specs.Settled.{owner_offers, peer_decisions}
use Rattle.request_ends.specs.Asking.{Asking, asked}
use Rattle.request_ends.specs.Replying.{Replying}
use Rattle.end_ports.specs.Held.{SendingAt, ReceivingAt}
use Rattle.core_ports.specs.Ends.{greatest}
use Rattle.end_ports.specs.OnLinks.{OnLink, is_decided, on_send, on_recv, on_ask, not_held}
use Rattle.run_ends.specs.Dealt.{new_end}
use Rattle.run_ends.specs.inner.NewEnds.{IsNewChannel, AreNewRequests}

-- what is told of a new link
pub record IsNewLink (side : Side) (terms : Terms) (x : OnLink) : Type 0 where
  pub end : x.end ≡ new_end side
  pub terms_are : side ≢ Neither → x.terms ≡ terms
  pub decision : x.hand.decision ≡ false
  pub front : x.hand.front ≡ false
  pub reply : x.hand.reply ≡ false
  pub heard : x.heard ≡ 0
  pub polls : x.polls ≡ 0
  pub tries : x.tries ≡ 0

undecided : (e : OwnerNotes) → e.offers ≡ [] → is_decided e ≡ false
undecided e none = ap (λ os. nat_lt (known_lead os) e.told && nat_lt (known_lead os) (length os)) none ∙ and-false (nat_lt 0 e.told)

pub new_send : (c l : ℕ) (s : SendingAt) (r : ReceivingAt) → IsNewChannel c l s r → IsNewLink Owner (record { capacity = c; requests = false }) (on_send s)
new_send c l s r new = record {
  end = ap (λ xs. Owns (owner_offers Int xs s.end.notes.offers)) new.pair.payloads;
  terms_are = λ n. ap (λ m. record { capacity = m; requests = false }) new.pair.capacity_is;
  decision = undecided s.end.notes new.pair.offers;
  front = refl;
  reply = refl;
  heard = ap (greatest or_zero) new.pair.heard;
  polls = new.polls.0;
  tries = new.tries;
}

pub new_recv : (c l : ℕ) (s : SendingAt) (r : ReceivingAt) → IsNewChannel c l s r → IsNewLink Peer (record { capacity = c; requests = false }) (on_recv r)
new_recv c l s r new = record {
  end = ap (λ xs. Decides (peer_decisions (λ k x. Message x) 0 xs r.end.peer.decisions)) new.pair.popped;
  terms_are = λ n. ap (λ m. record { capacity = m; requests = false }) new.pair.words;
  decision = refl;
  front = ap (λ p. nat_lt (length p.decisions) p.told_offers) new.pair.peer;
  reply = refl;
  heard = ap (λ p. stamp_seen p.look) new.pair.peer;
  polls = new.polls.1;
  tries = refl;
}

pub none_held : (terms : Terms) → IsNewLink Neither terms not_held
none_held terms = record {
  end = refl;
  terms_are = λ n. absurd (n refl);
  decision = refl;
  front = refl;
  reply = refl;
  heard = refl;
  polls = refl;
  tries = refl;
}

-- no reply is known of, so none of their stamps either
no_reply_heard : (a : Asking) → a.gathered ≡ [] → a.items ≡ [] → greatest (λ (r : Response). r.of) (a.gathered ++ a.items) ≡ 0
no_reply_heard a gathered items = ap (λ rs. greatest (λ (r : Response). r.of) (rs ++ a.items)) gathered
    ∙ ap (greatest (λ (r : Response). r.of)) items

pub new_ask : (l : ℕ) (a : Asking) (r : Receiving Payload) (e : Replying) → AreNewRequests a r e
    → IsNewLink Owner (record { capacity = 16; requests = true }) (on_ask (record { link = l; end = a; polls = 0; tries = 0; settled = false }))
new_ask l a r e new = record {
  end = ap (λ xs. Owns (asked xs a.send.notes.offers a.replies)) new.pair.payloads;
  terms_are = λ n. ap (λ m. record { capacity = m; requests = true }) new.pair.capacity_is;
  decision = undecided a.send.notes new.pair.offers;
  front = refl;
  reply = ap (λ (xs : List _). nat_lt 0 (length xs)) new.gathered;
  heard = ap (λ m. max m (greatest (λ (r : Response). r.of) (a.gathered ++ a.items))) (ap (greatest or_zero) new.pair.heard)
      ∙ ap (max 0) (no_reply_heard a new.gathered new.items);
  polls = refl;
  tries = refl;
}

-- What the ports of the cores tell once all is dealt.
use Rattle.std.proofs.Common.{◌≡◌, ℕ, zero, suc, ◌+◌, ◌<◌, ◌≤◌, List, [], ◌∷◌, Option, Some}
use Rattle.std.proofs.Common.{None, Bool, true, false, cond, refl, sym, ap, ◌∙◌, subst, arith, length, option_map, slice_index_or, All}
use Rattle.std.specs.Prelude.{slice_get, ◌==◌, nat_le}
use Rattle.std.proofs.lemmas.Bool.Decides.{nat_tests}
use Rattle.std.proofs.lemmas.List.{length-map}
use Rattle.std.proofs.lemmas.Option.{slice_get_within, slice_get-get_or, slice_get-map, get_or_from_slice_get}
use Rattle.ac_base.specs.declared.entry.Payload.{Payload}
use Rattle.core_channels.specs.LinkViews.{terms_at}
use Rattle.stack_code.specs.declared.parts.ChannelEnds.{ChannelEnds}
use Rattle.core_ports.specs.declared.side.Side.TheVariants.{Owner, Peer, Neither}
use Rattle.core_ports.specs.Sides.{side_at, side_of}
use Rattle.channel_ends.specs.Receiving.{Receiving}
use Rattle.request_ends.specs.Asking.{asked}
use Rattle.request_ends.specs.Replying.{Replying}
use Rattle.end_ports.specs.Held.{Held}
use Rattle.end_ports.specs.Held.HeldEnd.{OfAsk}
use Rattle.end_ports.specs.OnLinks.{on_ask, not_held, sent_on, received_on, or_sent, or_received, told_by, on_link}
use Rattle.end_ports.specs.SettledLinks.{HavePair}
use Rattle.run_ends.specs.Dealt.{IsBetween, HasItsEnds, HasRequests, AreDealt}
use Rattle.run_ends.specs.inner.Hands.{Handed, sends_in, recvs_in, sends_at, recvs_at, asks_of, port_of, ports_from}
use Rattle.run_ends.specs.inner.NewEnds.{AreNewRequests}
use Rattle.run_ends.specs.inner.Dealing.{IsDealt, AreDealtBelow, AreAllNew, AsksNothing}
use Rattle.run_ends.proofs.Places.{are_equal, not_equal, same_some}
use Rattle.run_ends.proofs.NewLinks.{IsNewLink, new_send, new_recv, none_held, new_ask}

not_below : (m n : ℕ) → m < n → nat_le n m ≡ false
not_below m n h = grind (arith, nat_tests)

not_above : (m n : ℕ) → n ≤ m → nat_le n m ≡ true
not_above m n h = grind (arith, nat_tests)

swapped : (m n : ℕ) → (m == n) ≡ (n == m)
swapped m n = grind (arith, nat_tests)

past_none : {X : Type 0} (xs : List X) (k : ℕ) → slice_get xs k ≡ None → length xs ≤ k
past_none [] k h = omega arith
past_none (x ∷ xs) zero h = cc
past_none (x ∷ xs) (suc k) h = let more = past_none xs k h in omega (arith, more)

-- ---- the ports, by the numbers of the cores

pub same_count : (xs ys : List Handed) → asks_of xs ≡ asks_of ys → length xs ≡ length ys
same_count xs ys e = sym (length-map xs (λ (h : Handed). h.ask)) ∙ ap (λ zs. length zs) e ∙ length-map ys (λ (h : Handed). h.ask)

ports_count : (asked : ℕ) (hands : List Handed) → length (ports_from asked hands) ≡ length hands
ports_count asked [] = refl
ports_count asked (h ∷ hs) = ap suc (ports_count (suc asked) hs)

-- the hand of which it is
record IsOfHand (asked : ℕ) (hands : List Handed) (k : ℕ) (p : Held) : Type 0 where
  hand : Handed
  here : slice_get hands k ≡ Some hand
  is : p ≡ port_of (asked + k) hand

of_hand : (asked : ℕ) (hands : List Handed) (k : ℕ) (p : Held) → slice_get (ports_from asked hands) k ≡ Some p → IsOfHand asked hands k p
of_hand asked [] k p h = cc
of_hand asked (x ∷ xs) zero p h = record {
  hand = x;
  here = refl;
  is = sym (same_some (port_of asked x) p h) ∙ ap (λ m. port_of m x) (omega arith);
}
of_hand asked (x ∷ xs) (suc k) p h =
    let more = of_hand (suc asked) xs k p h in
    record {
      hand = more.hand;
      here = more.here;
      is = more.is ∙ ap (λ m. port_of m more.hand) (omega arith);
    }

-- ---- the links of one core

-- where each link is told as a new one
pub each_told : (ends : List ChannelEnds) (capacities : List ℕ) (core : ℕ) (h : Held)
    → ((l : ℕ) → IsNewLink (side_of ends core l) (terms_at (length ends) capacities l) (on_link h l)) → h.full ≡ false → HasItsEnds ends capacities core h
each_told ends capacities core h new full = record {
  ends = λ l. (new l).end;
  terms = λ l n. (new l).terms_are n;
  heard = λ l. (new l).heard;
  decision = λ l. (new l).decision;
  front = λ l. (new l).front;
  reply = λ l. (new l).reply;
  polls = λ l. (new l).polls;
  tries = λ l. (new l).tries;
  full = full;
}

module _ (ends : List ChannelEnds) (capacities : List ℕ) (hands : List Handed) (dealt : AreDealtBelow ends capacities (length ends) hands)
    (few : length ends ≤ length capacities) (k : ℕ) (hand : Handed) (here : slice_get hands k ≡ Some hand) where
  abbrev port : Held
  port = port_of (length ends + k) hand

  sends_are : sends_at hands k ≡ hand.sends
  sends_are = ap sends_in here

  recvs_are : recvs_at hands k ≡ hand.recvs
  recvs_are = ap recvs_in here

  apart : (l : ℕ) → l < length ends → (length ends + k == l) ≡ false
  apart l less = not_equal (length ends + k) l (λ e. omega (arith, less, e))

  channel : (l : ℕ) (e : ChannelEnds) → slice_get ends l ≡ Some e → IsDealt (slice_index_or capacities l 0) l e hands
  channel l e is =
      let within = slice_get_within ends l e is in
      dealt.each l (slice_index_or capacities l 0) e within is (slice_get-get_or capacities l 0 (omega (arith, within, few)))

  -- what is told of a channel
  module _ (l : ℕ) (e : ChannelEnds) (is : slice_get ends l ≡ Some e) where
    d : IsDealt (slice_index_or capacities l 0) l e hands
    d = channel l e is

    within : l < length ends
    within = slice_get_within ends l e is

    told : on_link port l ≡ told_by (or_sent (cond (e.from == k) (Some d.send) None) (cond (e.to == k) (Some d.recv) None))
    told = ap (λ b. told_by (cond b (OfAsk port.ask) (or_sent (sent_on hand.sends l) (received_on hand.recvs l)))) (apart l within)
        ∙ ap (λ o. told_by (or_sent o (received_on hand.recvs l))) (sym (ap (λ xs. sent_on xs l) sends_are) ∙ d.sends k)
        ∙ ap (λ o. told_by (or_sent (cond (e.from == k) (Some d.send) None) o)) (sym (ap (λ xs. received_on xs l) recvs_are) ∙ d.recvs k)

    terms_are : terms_at (length ends) capacities l ≡ record { capacity = slice_index_or capacities l 0; requests = false }
    terms_are = ap (λ b. record { capacity = slice_index_or capacities l 0; requests = b }) (not_below l (length ends) within)

    by_side : (f t : Bool) → IsNewLink (cond f Owner (cond t Peer Neither)) (record { capacity = slice_index_or capacities l 0; requests = false })
        (told_by (or_sent (cond f (Some d.send) None) (cond t (Some d.recv) None)))
    by_side true t = new_send (slice_index_or capacities l 0) l d.send d.recv d.new
    by_side false true = new_recv (slice_index_or capacities l 0) l d.send d.recv d.new
    by_side false false = none_held (record { capacity = slice_index_or capacities l 0; requests = false })

    side_is : side_of ends k l ≡ cond (e.from == k) Owner (cond (e.to == k) Peer Neither)
    side_is = ap (side_at (length ends) k l) is

    channel_new : IsNewLink (side_of ends k l) (terms_at (length ends) capacities l) (on_link port l)
    channel_new =
        subst (λ s. IsNewLink s (terms_at (length ends) capacities l) (on_link port l)) (sym side_is)
        (subst (λ t. IsNewLink (cond (e.from == k) Owner (cond (e.to == k) Peer Neither)) t (on_link port l)) (sym terms_are)
        (subst (λ x. IsNewLink (cond (e.from == k) Owner (cond (e.to == k) Peer Neither)) (record { capacity = slice_index_or capacities l 0; requests = false }) x) (sym told)
        (by_side (e.from == k) (e.to == k))))

  -- and of a link of requests, or of none
  module _ (recv : Receiving Payload) (end : Replying) (new : AreNewRequests hand.ask recv end) (size : slice_get capacities (length ends + k) ≡ Some 16)
      (l : ℕ) (is : slice_get ends l ≡ None) (past : length ends ≤ l) where
    side_past : side_of ends k l ≡ cond (l == length ends + k) Owner Neither
    side_past = ap (side_at (length ends) k l) is

    told_past : (b : Bool) → (length ends + k == l) ≡ b → on_link port l ≡ cond b (on_ask port.ask) not_held
    told_past true t = ap (λ b. told_by (cond b (OfAsk port.ask) (or_sent (sent_on hand.sends l) (received_on hand.recvs l)))) t
    told_past false t = ap (λ b. told_by (cond b (OfAsk port.ask) (or_sent (sent_on hand.sends l) (received_on hand.recvs l)))) t
        ∙ ap (λ o. told_by (or_sent o (received_on hand.recvs l))) (sym (ap (λ xs. sent_on xs l) sends_are) ∙ dealt.no_sends k l past)
        ∙ ap (λ o. told_by (or_received o)) (sym (ap (λ xs. received_on xs l) recvs_are) ∙ dealt.no_recvs k l past)

    equal_if : (m n : ℕ) → (m == n) ≡ true → m ≡ n
    equal_if m n h = grind (arith, nat_tests)

    terms_past : (length ends + k == l) ≡ true → terms_at (length ends) capacities l ≡ record { capacity = 16; requests = true }
    terms_past t =
        let same : length ends + k ≡ l = equal_if (length ends + k) l t in
        ap (λ b. record { capacity = slice_index_or capacities l 0; requests = b }) (not_above l (length ends) past)
        ∙ ap (λ c. record { capacity = c; requests = true }) (sym (ap (λ m. slice_index_or capacities m 0) same) ∙ get_or_from_slice_get capacities (length ends + k) 16 0 size)

    new_past : (b : Bool) → (length ends + k == l) ≡ b → IsNewLink (cond b Owner Neither) (terms_at (length ends) capacities l) (cond b (on_ask port.ask) not_held)
    new_past true t = subst (λ x. IsNewLink Owner x (on_ask port.ask)) (sym (terms_past t)) (new_ask (length ends + k) hand.ask recv end new)
    new_past false t = none_held (terms_at (length ends) capacities l)

    request_new : IsNewLink (side_of ends k l) (terms_at (length ends) capacities l) (on_link port l)
    request_new =
        subst (λ s. IsNewLink s (terms_at (length ends) capacities l) (on_link port l)) (sym (side_past ∙ ap (λ b. cond b Owner Neither) (swapped l (length ends + k))))
        (subst (λ x. IsNewLink (cond (length ends + k == l) Owner Neither) (terms_at (length ends) capacities l) x) (sym (told_past (length ends + k == l) refl))
        (new_past (length ends + k == l) refl))

  -- what is told of each link
  module _ (recv : Receiving Payload) (end : Replying) (new : AreNewRequests hand.ask recv end) (size : slice_get capacities (length ends + k) ≡ Some 16) where
    each_new : (l : ℕ) → IsNewLink (side_of ends k l) (terms_at (length ends) capacities l) (on_link port l)
    each_new l = by (slice_get ends l) refl
      where
        by : (o : Option ChannelEnds) → slice_get ends l ≡ o → IsNewLink (side_of ends k l) (terms_at (length ends) capacities l) (on_link port l)
        by None is = request_new recv end new size l is (past_none ends l is)
        by (Some e) is = channel_new l e is

    has_its_ends : HasItsEnds ends capacities k port
    has_its_ends = each_told ends capacities k port each_new refl

    has_requests : HasRequests (length ends + k) port recv end
    has_requests = record {
      asked = refl;
      ends = new.pair.ends;
      places = new.pair.words;
      peer = new.pair.peer;
      popped = new.pair.popped;
      items = new.pair.items;
      ring = new.ring;
      replies = new.replies;
      free = new.free;
    }

-- ---- all cores

some_at : {X : Type 0} (xs : List X) (k : ℕ) → k < length xs → (x : X) × (slice_get xs k ≡ Some x)
some_at [] k h = absurd (omega (arith, h))
some_at (x ∷ xs) zero h = (x, refl)
some_at (x ∷ xs) (suc k) h = some_at xs k (omega (arith, h))

ask_at : (hands : List Handed) (k : ℕ) (h : Handed) → slice_get hands k ≡ Some h → slice_get (asks_of hands) k ≡ Some h.ask
ask_at hands k h is = slice_get-map (λ (x : Handed). x.ask) hands k ∙ ap (option_map (λ (x : Handed). x.ask)) is

module _ (hands : List Handed) (asks : List (Receiving Payload)) (replies : List Replying) (new : AreAllNew (asks_of hands) asks replies)
    (as_many : length asks ≡ length hands) (and_as_many : length replies ≡ length hands) where
  -- the worker's ends of one core
  record WorkerEnds (k : ℕ) (h : Handed) : Type 0 where
    recv : Receiving Payload
    end : Replying
    asked_at : slice_get asks k ≡ Some recv
    replied_at : slice_get replies k ≡ Some end
    new_ends : AreNewRequests h.ask recv end

  worker_ends : (k : ℕ) (h : Handed) → slice_get hands k ≡ Some h → WorkerEnds k h
  worker_ends k h here =
      let within = slice_get_within hands k h here in
      let r = some_at asks k (omega (arith, within, as_many)) in
      let e = some_at replies k (omega (arith, within, and_as_many)) in
      record { recv = r.0; end = e.0; asked_at = r.1; replied_at = e.1; new_ends = new k h.ask r.0 e.0 (ask_at hands k h here) r.1 e.1 }

  pub ask_nothing : All AsksNothing hands
  ask_nothing k d less =
      let w = worker_ends k (slice_index_or hands k d) (slice_get-get_or hands k d less) in
      (w.new_ends.pair.offers, w.new_ends.pair.heard, w.new_ends.pair.payloads)

  module _ (ends : List ChannelEnds) (capacities : List ℕ) (dealt : AreDealtBelow ends capacities (length ends) hands) (few : length ends ≤ length capacities)
      (between : All (IsBetween (length hands)) ends) (sizes : (k : ℕ) → k < length hands → slice_get capacities (length ends + k) ≡ Some 16) where
    its_ends : (k : ℕ) (p : Held) → slice_get (ports_from (length ends) hands) k ≡ Some p → HasItsEnds ends capacities k p
    its_ends k p is =
        let o = of_hand (length ends) hands k p is in
        let w = worker_ends k o.hand o.here in
        subst (HasItsEnds ends capacities k) (sym o.is)
        (has_its_ends ends capacities hands dealt few k o.hand o.here w.recv w.end w.new_ends (sizes k (slice_get_within hands k o.hand o.here)))

    requests_of_core : (k : ℕ) (p : Held) (recv : Receiving Payload) (end : Replying) → slice_get (ports_from (length ends) hands) k ≡ Some p
        → slice_get asks k ≡ Some recv → slice_get replies k ≡ Some end → HasRequests (length ends + k) p recv end
    requests_of_core k p recv end is is_r is_e =
        let o = of_hand (length ends) hands k p is in
        subst (λ q. HasRequests (length ends + k) q recv end) (sym o.is)
        (has_requests ends capacities hands dealt few k o.hand o.here recv end (new k o.hand.ask recv end (ask_at hands k o.hand o.here) is_r is_e)
        (sizes k (slice_get_within hands k o.hand o.here)))

    have_pair : (l : ℕ) (e : ChannelEnds) (from to : Handed) → slice_get ends l ≡ Some e → slice_get hands e.from ≡ Some from → slice_get hands e.to ≡ Some to
        → HavePair (port_of (length ends + e.from) from) (port_of (length ends + e.to) to) l
    have_pair l e from to is is_from is_to =
        let within = slice_get_within ends l e is in
        let d = dealt.each l (slice_index_or capacities l 0) e within is (slice_get-get_or capacities l 0 (omega (arith, within, few))) in
        let cores : IsBetween (length hands) e = subst (IsBetween (length hands)) (get_or_from_slice_get ends l e e is) (between l e within) in
        record {
          send = d.send;
          recv = d.recv;
          sends = sym (ap (λ o. sent_on (sends_in o) l) is_from) ∙ d.sends e.from ∙ ap (λ b. cond b (Some d.send) None) (are_equal e.from e.from refl);
          from_asks = λ f. omega (arith, within, f);
          recvs = sym (ap (λ o. received_on (recvs_in o) l) is_to) ∙ d.recvs e.to ∙ ap (λ b. cond b (Some d.recv) None) (are_equal e.to e.to refl);
          to_sends = sym (ap (λ o. sent_on (sends_in o) l) is_to) ∙ d.sends e.to ∙ ap (λ b. cond b (Some d.send) None) (not_equal e.from e.to cores.2);
          to_asks = λ f. omega (arith, within, f);
          ends = d.new.pair.ends;
        }

    pairs_of_cores : (l : ℕ) (e : ChannelEnds) (p q : Held) → slice_get ends l ≡ Some e → slice_get (ports_from (length ends) hands) e.from ≡ Some p
        → slice_get (ports_from (length ends) hands) e.to ≡ Some q → HavePair p q l
    pairs_of_cores l e p q is is_p is_q =
        let o = of_hand (length ends) hands e.from p is_p in
        let u = of_hand (length ends) hands e.to q is_q in
        subst (λ x. HavePair x q l) (sym o.is) (subst (λ x. HavePair (port_of (length ends + e.from) o.hand) x l) (sym u.is)
        (have_pair l e o.hand u.hand is o.here u.here))

    pub all_dealt : AreDealt ends capacities (length hands) (ports_from (length ends) hands) asks replies
    all_dealt = record {
      ports_count = ports_count (length ends) hands;
      asks_count = as_many;
      replies_count = and_as_many;
      each = its_ends;
      pairs = pairs_of_cores;
      requests = requests_of_core;
    }

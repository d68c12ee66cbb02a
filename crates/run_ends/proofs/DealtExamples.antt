-- Two cores with a channel each way, of two places and of one: their ports and the worker's ends as they are dealt, beside ports with the end
-- of another core or of another pair, and ends on which something was told or heard.
use Rattle.std.proofs.Common.{◌≡◌, ℕ, zero, suc, ◌+◌, ◌<◌, List, [], ◌∷◌, Option, Some, None, false, cond, refl, sym, ap, ◌∙◌, subst, arith, ℤ}
use Rattle.std.specs.Prelude.{slice_get}
use denote.RawPtr.{null_ptr}
use Rattle.ac_base.specs.declared.entry.Answer.TheVariants.{Count}
use Rattle.ac_base.specs.declared.entry.Payload.{Payload}
use Rattle.ac_links.specs.declared.payloads.Terms.{Terms}
use Rattle.ac_links.specs.Party.LinkEnd.{Owns, Decides, Absent}
use Rattle.ac_links.specs.Views.{Response}
use Rattle.completion_word.specs.declared.standing.Standing.TheVariants as word
use Rattle.completion_word.specs.Link.{new_peer}
use Rattle.core_channels.specs.LinkViews.{terms_at}
use Rattle.core_ports.specs.declared.side.Side.TheVariants.{Owner, Peer, Neither}
use Rattle.core_ports.specs.Sides.{side_of}
use Rattle.stack_code.specs.declared.parts.ChannelEnds.{ChannelEnds}
use Rattle.channel_ends.specs.Rings.{RingName}
use Rattle.channel_ends.specs.Sending.{Sending}
use Rattle.channel_ends.specs.Receiving.{Receiving}
use Rattle.channel_ends.proofs.Examples.{words_of}
use Rattle.request_ends.specs.Asking.{Asking}
use Rattle.request_ends.specs.Replying.{Replying}
use Rattle.end_ports.specs.Held.{Held, SendingAt, ReceivingAt, AskingAt}
use Rattle.end_ports.specs.Held.HeldEnd.{OfAsk}
use Rattle.end_ports.specs.OnLinks.{on_link, not_held, or_sent, or_received, told_by, received_on, sent_on}
use Rattle.end_ports.specs.SettledLinks.{HavePair}
use Rattle.run_ends.specs.Dealt.{IsBetween, new_end, HasItsEnds, HasRequests, AreDealt}
use Rattle.run_ends.proofs.Places.{not_equal, same_some}
use Rattle.run_ends.proofs.NewLinks.{IsNewLink, none_held}
use Rattle.run_ends.proofs.Telling.{each_told}

-- ---- the code: its channels, and after them a link for the requests of each core

abbrev there : ChannelEnds
there = record { from = 0; to = 1 }

abbrev back : ChannelEnds
back = record { from = 1; to = 0 }

abbrev channels : List ChannelEnds
channels = there ∷ back ∷ []

abbrev capacities : List ℕ
capacities = 2 ∷ 1 ∷ 16 ∷ 16 ∷ []

pub between_two_cores : IsBetween 2 there × IsBetween 2 back
between_two_cores = ((omega arith, omega arith, λ e. omega (arith, e)), (omega arith, omega arith, λ e. omega (arith, e)))

pub not_where_there_is_one : IsBetween 1 there → ⊥
not_where_there_is_one h = let l = h.1 in omega (arith, l)

pub not_from_a_core_to_itself : IsBetween 2 (record { from = 1; to = 1 }) → ⊥
not_from_a_core_to_itself h = h.2 refl

pub ends_by_their_sides : new_end Owner ∷ new_end Peer ∷ new_end Neither ∷ [] ≡ Owns [] ∷ Decides [] ∷ Absent ∷ []
ends_by_their_sides = refl

-- ---- new ends of so many words, by the number of their ring

abbrev a_ring : ℕ → RingName
a_ring n = record { words = null_ptr; slots = null_ptr; names = (n, (0, 0)) }

abbrev ring_number : RingName → ℕ
ring_number r = r.names.0

module _ {M : Type 0} where
  abbrev sender : ℕ → ℕ → List (Option ℕ) → Sending M
  sender words ring heard = record {
    ring = a_ring ring;
    notes = record { table = words_of words; offers = []; heard = heard; told = 0; loads = 0; saw = word.Unused };
    payloads = [];
    free = words;
  }

  abbrev receiver : ℕ → ℕ → ℕ → Receiving M
  receiver words ring told = record { table = words_of words; ring = a_ring ring; peer = record new_peer { told_offers = told }; popped = []; items = [] }

abbrev asker : ℕ → ℕ → List Response → Asking
asker ring answers items = record { send = sender 16 ring []; ring = a_ring answers; replies = []; gathered = []; items = items; places = 0 }

abbrev sends : ℕ → Sending (List ℤ) → List SendingAt
sends link end = record { link = link; end = end; polls = 0; tries = 0 } ∷ []

abbrev recvs : ℕ → Receiving (List ℤ) → List ReceivingAt
recvs link end = record { link = link; end = end; polls = 0 } ∷ []

abbrev asks : ℕ → Asking → AskingAt
asks link end = record { link = link; end = end; polls = 0; tries = 0; settled = false }

abbrev ports : List SendingAt → List ReceivingAt → AskingAt → Held
ports s r a = record { sends = s; recvs = r; ask = a; full = false }

-- each link has a ring of its number, and the replies have 4 and 5
abbrev first_core : Held
first_core = ports (sends 0 (sender 2 0 [])) (recvs 1 (receiver 1 1 0)) (asks 2 (asker 2 4 []))

abbrev second_core : Held
second_core = ports (sends 1 (sender 1 1 [])) (recvs 0 (receiver 2 0 0)) (asks 3 (asker 3 5 []))

abbrev both_cores : List Held
both_cores = first_core ∷ second_core ∷ []

abbrev taker : ℕ → Receiving Payload
taker ring = receiver 16 ring 0

abbrev replier : ℕ → Replying
replier ring = record { ring = a_ring ring; replies = []; free = 16 }

-- ---- the ports of one core

-- no core has an end past the last link
no_side : (core l : ℕ) → core < 2 → side_of channels core (suc (suc (suc (suc l)))) ≡ Neither
no_side core l two = ap (λ b. cond b Owner Neither) (not_equal (suc (suc (suc (suc l)))) (2 + core) (λ e. omega (arith, e, two)))

module _ (s : SendingAt) (r : ReceivingAt) (a : AskingAt) (sent : s.link < 4) (received : r.link < 4) (asked : a.link < 4) where
  none_past : (l : ℕ) → on_link (ports (s ∷ []) (r ∷ []) a) (suc (suc (suc (suc l)))) ≡ not_held
  none_past l =
      let n : ℕ = suc (suc (suc (suc l))) in
      ap (λ b. told_by (cond b (OfAsk a) (or_sent (sent_on (s ∷ []) n) (received_on (r ∷ []) n)))) (not_equal a.link n (λ e. omega (arith, e, asked)))
      ∙ ap (λ b. told_by (or_sent (cond b (Some s) None) (received_on (r ∷ []) n))) (not_equal s.link n (λ e. omega (arith, e, sent)))
      ∙ ap (λ b. told_by (or_received (cond b (Some r) None))) (not_equal r.link n (λ e. omega (arith, e, received)))

  new_past : (core l : ℕ) → core < 2
      → IsNewLink (side_of channels core (suc (suc (suc (suc l))))) (terms_at 2 capacities (suc (suc (suc (suc l))))) (on_link (ports (s ∷ []) (r ∷ []) a) (suc (suc (suc (suc l)))))
  new_past core l two =
      let terms = terms_at 2 capacities (suc (suc (suc (suc l)))) in
      subst (λ side. IsNewLink side terms (on_link (ports (s ∷ []) (r ∷ []) a) (suc (suc (suc (suc l)))))) (sym (no_side core l two))
      (subst (IsNewLink Neither terms) (sym (none_past l)) (none_held terms))

first_links : (l : ℕ) → IsNewLink (side_of channels 0 l) (terms_at 2 capacities l) (on_link first_core l)
first_links zero = record { end = refl; terms_are = λ n. refl; decision = refl; front = refl; reply = refl; heard = refl; polls = refl; tries = refl }
first_links (suc zero) = record { end = refl; terms_are = λ n. refl; decision = refl; front = refl; reply = refl; heard = refl; polls = refl; tries = refl }
first_links (suc (suc zero)) = record { end = refl; terms_are = λ n. refl; decision = refl; front = refl; reply = refl; heard = refl; polls = refl; tries = refl }
first_links (suc (suc (suc zero))) = none_held (terms_at 2 capacities 3)
first_links (suc (suc (suc (suc l)))) =
    new_past (record { link = 0; end = sender 2 0 []; polls = 0; tries = 0 }) (record { link = 1; end = receiver 1 1 0; polls = 0 }) (asks 2 (asker 2 4 []))
    (omega arith) (omega arith) (omega arith) 0 l (omega arith)

second_links : (l : ℕ) → IsNewLink (side_of channels 1 l) (terms_at 2 capacities l) (on_link second_core l)
second_links zero = record { end = refl; terms_are = λ n. refl; decision = refl; front = refl; reply = refl; heard = refl; polls = refl; tries = refl }
second_links (suc zero) = record { end = refl; terms_are = λ n. refl; decision = refl; front = refl; reply = refl; heard = refl; polls = refl; tries = refl }
second_links (suc (suc zero)) = none_held (terms_at 2 capacities 2)
second_links (suc (suc (suc zero))) = record { end = refl; terms_are = λ n. refl; decision = refl; front = refl; reply = refl; heard = refl; polls = refl; tries = refl }
second_links (suc (suc (suc (suc l)))) =
    new_past (record { link = 1; end = sender 1 1 []; polls = 0; tries = 0 }) (record { link = 0; end = receiver 2 0 0; polls = 0 }) (asks 3 (asker 3 5 []))
    (omega arith) (omega arith) (omega arith) 1 l (omega arith)

pub first_has_its_ends : HasItsEnds channels capacities 0 first_core
first_has_its_ends = each_told channels capacities 0 first_core first_links refl

pub second_has_its_ends : HasItsEnds channels capacities 1 second_core
second_has_its_ends = each_told channels capacities 1 second_core second_links refl

-- it receives where it should send
pub not_at_the_wrong_core : HasItsEnds channels capacities 0 second_core → ⊥
not_at_the_wrong_core h = let e = h.ends 0 in cc

abbrev capacity : Terms → ℕ
capacity t = t.capacity

pub not_with_another_capacity : HasItsEnds channels (3 ∷ 1 ∷ 16 ∷ 16 ∷ []) 0 first_core → ⊥
not_with_another_capacity h = let e : ◌≡◌ {A = ℕ} 2 3 = ap capacity (h.terms 0 (λ e. cc)) in absurd (omega arith)

pub no_front_was_told : HasItsEnds channels capacities 1 (record second_core { recvs = recvs 0 (receiver 2 0 1) }) → ⊥
no_front_was_told h = let e = h.front 0 in cc

pub no_stamp_was_heard : HasItsEnds channels capacities 0 (record first_core { sends = sends 0 (sender 2 0 (Some 3 ∷ [])) }) → ⊥
no_stamp_was_heard h = let e : ◌≡◌ {A = ℕ} 3 0 = h.heard 0 in absurd (omega arith)

-- nor on the link of the requests, by a reply that would be known of
pub nor_that_of_a_reply : HasItsEnds channels capacities 0 (record first_core { ask = asks 2 (asker 2 4 (record { answer = Count 1; of = 5 } ∷ [])) }) → ⊥
nor_that_of_a_reply h = let e : ◌≡◌ {A = ℕ} 5 0 = h.heard 2 in absurd (omega arith)

pub no_call_was_made : HasItsEnds channels capacities 0 (record first_core { ask = record (asks 2 (asker 2 4 [])) { polls = 1 } }) → ⊥
no_call_was_made h = let e : ◌≡◌ {A = ℕ} 1 0 = h.polls 2 in absurd (omega arith)

-- ---- the requests of one core

pub first_has_requests : HasRequests 2 first_core (taker 2) (replier 4)
first_has_requests = record { asked = refl; ends = (refl, refl); places = refl; peer = refl; popped = refl; items = refl; ring = refl; replies = refl; free = refl }

second_has_requests : HasRequests 3 second_core (taker 3) (replier 5)
second_has_requests = record { asked = refl; ends = (refl, refl); places = refl; peer = refl; popped = refl; items = refl; ring = refl; replies = refl; free = refl }

pub not_with_the_end_of_another_core : HasRequests 2 first_core (taker 3) (replier 4) → ⊥
not_with_the_end_of_another_core h = let e : ◌≡◌ {A = ℕ} 2 3 = ap ring_number h.ends.1 in absurd (omega arith)

pub nor_with_its_replies : HasRequests 2 first_core (taker 2) (replier 5) → ⊥
nor_with_its_replies h = let e : ◌≡◌ {A = ℕ} 4 5 = ap ring_number h.ring in absurd (omega arith)

pub nor_under_its_number : HasRequests 3 first_core (taker 2) (replier 4) → ⊥
nor_under_its_number h = let e : ◌≡◌ {A = ℕ} 2 3 = h.asked in absurd (omega arith)

pub not_with_a_place_less : HasRequests 2 first_core (taker 2) (record (replier 4) { free = 15 }) → ⊥
not_with_a_place_less h = let e : ◌≡◌ {A = ℕ} 15 16 = h.free in absurd (omega arith)

-- ---- all of them

there_is_a_pair : HavePair first_core second_core 0
there_is_a_pair = record {
  send = record { link = 0; end = sender 2 0 []; polls = 0; tries = 0 };
  recv = record { link = 0; end = receiver 2 0 0; polls = 0 };
  sends = refl;
  from_asks = λ e. omega (arith, e);
  recvs = refl;
  to_sends = refl;
  to_asks = λ e. omega (arith, e);
  ends = (refl, refl);
}

and_one_back : HavePair second_core first_core 1
and_one_back = record {
  send = record { link = 1; end = sender 1 1 []; polls = 0; tries = 0 };
  recv = record { link = 1; end = receiver 1 1 0; polls = 0 };
  sends = refl;
  from_asks = λ e. omega (arith, e);
  recvs = refl;
  to_sends = refl;
  to_asks = λ e. omega (arith, e);
  ends = (refl, refl);
}

-- the cores of a channel are those that its ends name
by_its_cores : (l : ℕ) (e f : ChannelEnds) (p q from to : Held) → e ≡ f → slice_get both_cores e.from ≡ Some p → slice_get both_cores e.to ≡ Some q
    → slice_get both_cores f.from ≡ Some from → slice_get both_cores f.to ≡ Some to → HavePair p q l → HavePair from to l
by_its_cores l e f p q from to same is_p is_q is_from is_to pair =
    subst (λ x. HavePair x to l) (same_some p from (sym is_p ∙ ap (λ (x : ChannelEnds). slice_get both_cores x.from) same ∙ is_from))
    (subst (λ x. HavePair p x l) (same_some q to (sym is_q ∙ ap (λ (x : ChannelEnds). slice_get both_cores x.to) same ∙ is_to)) pair)

pub all_are_dealt : AreDealt channels capacities 2 both_cores (taker 2 ∷ taker 3 ∷ []) (replier 4 ∷ replier 5 ∷ [])
all_are_dealt = record { ports_count = refl; asks_count = refl; replies_count = refl; each = each; pairs = pairs; requests = requests }
  where
    each : (k : ℕ) (h : Held) → slice_get both_cores k ≡ Some h → HasItsEnds channels capacities k h
    each zero h is = subst (HasItsEnds channels capacities 0) (same_some first_core h is) first_has_its_ends
    each (suc zero) h is = subst (HasItsEnds channels capacities 1) (same_some second_core h is) second_has_its_ends
    each (suc (suc k)) h is = cc

    pairs : (l : ℕ) (e : ChannelEnds) (from to : Held) → slice_get channels l ≡ Some e → slice_get both_cores e.from ≡ Some from
        → slice_get both_cores e.to ≡ Some to → HavePair from to l
    pairs zero e from to is is_from is_to = by_its_cores 0 there e first_core second_core from to (same_some there e is) refl refl is_from is_to there_is_a_pair
    pairs (suc zero) e from to is is_from is_to = by_its_cores 1 back e second_core first_core from to (same_some back e is) refl refl is_from is_to and_one_back
    pairs (suc (suc l)) e from to is is_from is_to = cc

    requests : (k : ℕ) (h : Held) (recv : Receiving Payload) (end : Replying) → slice_get both_cores k ≡ Some h
        → slice_get (taker 2 ∷ taker 3 ∷ []) k ≡ Some recv → slice_get (replier 4 ∷ replier 5 ∷ []) k ≡ Some end → HasRequests (2 + k) h recv end
    requests zero h recv end is is_r is_e = subst (λ h. HasRequests 2 h recv end) (same_some first_core h is)
        (subst (λ r. HasRequests 2 first_core r end) (same_some (taker 2) recv is_r) (subst (HasRequests 2 first_core (taker 2)) (same_some (replier 4) end is_e) first_has_requests))
    requests (suc zero) h recv end is is_r is_e = subst (λ h. HasRequests 3 h recv end) (same_some second_core h is)
        (subst (λ r. HasRequests 3 second_core r end) (same_some (taker 3) recv is_r) (subst (HasRequests 3 second_core (taker 3)) (same_some (replier 5) end is_e) second_has_requests))
    requests (suc (suc k)) h recv end is is_r is_e = cc

-- the two cores would send and receive over different rings
abbrev of_another_pair : Held
of_another_pair = record second_core { recvs = recvs 0 (receiver 2 7 0) }

pub not_with_the_end_of_another_pair : AreDealt channels capacities 2 (first_core ∷ of_another_pair ∷ []) (taker 2 ∷ taker 3 ∷ []) (replier 4 ∷ replier 5 ∷ []) → ⊥
not_with_the_end_of_another_pair h =
    let p = h.pairs 0 there first_core of_another_pair refl refl refl in
    let send = same_some _ p.send p.sends in
    let recv = same_some _ p.recv p.recvs in
    let e : ◌≡◌ {A = ℕ} 0 7 = ap (λ (s : SendingAt). ring_number s.end.ring) send ∙ ap ring_number p.ends.1 ∙ sym (ap (λ (r : ReceivingAt). ring_number r.end.ring) recv) in
    absurd (omega arith)

pub not_without_the_last_replies : AreDealt channels capacities 2 both_cores (taker 2 ∷ taker 3 ∷ []) (replier 4 ∷ []) → ⊥
not_without_the_last_replies h = let e : ◌≡◌ {A = ℕ} 1 2 = h.replies_count in absurd (omega arith)

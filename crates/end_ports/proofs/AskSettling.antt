-- What settling makes of the end of a core's requests.
use Rattle.std.proofs.Common.{◌≡◌, ℕ, zero, suc, ◌+◌, ◌<◌, ◌≤◌, List, [], ◌∷◌, ◌++◌, Bool, true, false, refl, sym, ap, ◌∙◌, subst, arith, length, length-append, append-nil, nat_lt, inl, inr}
use Rattle.std.proofs.lemmas.Bool.{cases_lt}
use Rattle.std.proofs.lemmas.Bool.Decides.{nat_tests}
use Rattle.ac_base.specs.declared.entry.Payload.{Payload}
use mathlib.Core.List.{IsPrefix}
use Rattle.ac_links.specs.Views.{Response}
use Rattle.ac_links.specs.Noted.{or_zero}
use Rattle.completion_word.specs.declared.views.Decision.{Decision}
use Rattle.completion_word.specs.Link.{decision_at}
use Rattle.channel_ends.specs.Sending.{OwnerNotes, known_lead}
use Rattle.channel_ends.specs.Receiving.{Receiving}
use Rattle.channel_ends.specs.Settled.{stamp_of, AreSettled}
use Rattle.channel_ends.specs.Pairs.{IsSettledSend}
use Rattle.request_ends.specs.Asking.{Asking, requests_of}
use Rattle.request_ends.specs.Replying.{Replying}
use Rattle.request_ends.specs.Answered.{HasAllReplies}
use Rattle.core_ports.specs.Ends.{greatest}
use Rattle.end_ports.specs.OnLinks.{on_ask}
use Rattle.end_ports.specs.SettledLinks.{IsSettledAsk}
use Rattle.end_ports.specs.inner.AskFields.{IsAskingAt, asking_at_of}
use Rattle.end_ports.specs.declared.ask_at.AskAt.TheInside.{Inside}
use Rattle.end_ports.proofs.Owning.{room_is}
use Rattle.end_ports.proofs.Asking.{made_asked}
use Rattle.end_ports.proofs.Settling.{room_slot, lead_decided, decision_told, heard_most}

-- the stamp of a decision is at most the greatest of all
decided_most : (ds : List Decision) (k : ℕ) → k < length ds → stamp_of (decision_at ds k).outcome ≤ greatest (λ (d : Decision). stamp_of d.outcome) ds
decided_most [] k l = absurd (omega arith)
decided_most (d ∷ ds) zero l = omega arith
decided_most (d ∷ ds) (suc k) l = let up = decided_most ds k (omega arith) in omega arith

greatest_part : (xs ys : List Response) → greatest (λ (r : Response). r.of) ys ≤ greatest (λ (r : Response). r.of) (xs ++ ys)
greatest_part [] ys = omega arith
greatest_part (x ∷ xs) ys = let up = greatest_part xs ys in omega arith

more_than : (m n k : ℕ) → n ≡ m + k → nat_lt 0 k ≡ nat_lt m n
more_than m n k h = elim (cases_lt m n) [
  | inl b ↦ let x : nat_lt m n ≡ true = grind (arith, nat_tests) in let y : nat_lt 0 k ≡ true = grind (arith, nat_tests) in y ∙ sym x
  | inr b ↦ let x : nat_lt m n ≡ false = grind (arith, nat_tests) in
      let y : nat_lt 0 k ≡ false = grind (arith, nat_tests) in y ∙ sym x
]

greatest_front : (xs ys : List Response) → greatest (λ (r : Response). r.of) xs ≤ greatest (λ (r : Response). r.of) (xs ++ ys)
greatest_front [] ys = omega arith
greatest_front (x ∷ xs) ys = let up = greatest_front xs ys in omega arith

-- no less is heard of than before
pub ask_heard : (it : Inside) (new : Asking) (settled : Bool) → IsSettledSend it.end.send new.send → IsPrefix (it.end.gathered ++ it.end.items) (new.gathered ++ new.items)
    → (on_ask (asking_at_of it)).heard ≤ (on_ask (asking_at_of (record { link = it.link; end = new; polls = it.polls; tries = it.tries; settled = settled }))).heard
ask_heard it new settled send came =
    let same : greatest or_zero new.send.notes.heard ≡ greatest or_zero it.end.send.notes.heard = ap (λ (v : OwnerNotes). greatest or_zero v.heard) send.notes in
    let more : greatest (λ (r : Response). r.of) (it.end.gathered ++ it.end.items) ≤ greatest (λ (r : Response). r.of) (new.gathered ++ new.items) =
    subst (λ rs. greatest (λ (r : Response). r.of) (it.end.gathered ++ it.end.items) ≤ greatest (λ (r : Response). r.of) rs) came.1
    (greatest_front (it.end.gathered ++ it.end.items) came.0) in
    omega (arith, same, more)

module _ (it : Inside) (kept : IsAskingAt it) (new : Asking) (recv : Receiving Payload) (end : Replying) (send : IsSettledSend it.end.send new.send)
    (settled : AreSettled new.send recv) (all : HasAllReplies new end) (places : 0 < new.places)
    (few : length new.send.notes.offers ≤ known_lead new.send.notes.offers + 16) where
  abbrev after : Inside
  after = record { link = it.link; end = new; polls = it.polls; tries = it.tries; settled = true }

  hears : length new.send.notes.heard ≡ length new.send.notes.offers
  hears = ap (λ (v : OwnerNotes). length v.heard) send.notes ∙ kept.hears ∙ sym (ap (λ (v : OwnerNotes). length v.offers) send.notes)

  pub ask_kept : IsAskingAt after
  ask_kept = record { carries = settled.one_sent; hears = hears; ready = λ is room. (room_slot new.send recv settled room, places) }

  pub ask_settled : IsSettledAsk (asking_at_of after) recv end
  ask_settled = record {
    decision = decision_told new.send recv settled;
    slot = λ room. sym (room_is (on_ask (asking_at_of after)).terms (requests_of new) new.send.notes
        (made_asked new.send.payloads new.send.notes.offers new.replies settled.one_sent) refl) ∙ room;
    reply = more_than (length new.replies) (length end.replies) (length new.gathered) (sym (ap length all.all) ∙ length-append new.replies new.gathered);
    heard =
        let words = heard_most new.send recv settled (greatest (λ (d : Decision). stamp_of d.outcome) recv.peer.decisions) (decided_most recv.peer.decisions) hears in
        let here : greatest (λ (r : Response). r.of) (new.gathered ++ new.items) ≤ greatest (λ (r : Response). r.of) end.replies =
        subst (λ xs. greatest (λ (r : Response). r.of) xs ≤ greatest (λ (r : Response). r.of) end.replies)
        (sym (ap (λ xs. new.gathered ++ xs) all.items ∙ append-nil new.gathered))
        (subst (λ xs. greatest (λ (r : Response). r.of) new.gathered ≤ greatest (λ (r : Response). r.of) xs) all.all (greatest_part new.replies new.gathered)) in
        omega (arith, words, here);
    few = let lead = lead_decided new.send recv settled in omega (arith, lead, few);
  }

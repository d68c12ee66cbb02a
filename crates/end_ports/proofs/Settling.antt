-- What settling makes of the two ends of a channel.
use Rattle.std.proofs.Common.{◌≡◌, ℕ, ℤ, zero, suc, ◌-◌, ◌<◌, ◌≤◌, List, [], ◌∷◌, Option, Some, None, true, false}
use Rattle.std.proofs.Common.{◌&&◌, cond, refl, sym, ap, ◌∙◌, arith, length, get_or, max, nat_lt, is_some, ⊎_elim, inl, inr}
use Rattle.std.specs.Option.{ForSome}
use Rattle.std.specs.Cmp.Lexicographic.{pointwise_decides}
use Rattle.std.proofs.lemmas.Bool.{cases_lt}
use Rattle.std.proofs.lemmas.Bool.Decides.{nat_tests, Decides-int_eq}
use Rattle.ac_base.specs.declared.entry.Payload.{Payload}
use Rattle.ac_base.specs.declared.entry.Payload.TheVariants.{Int}
use Rattle.ac_links.specs.Payloads.{carries}
use Rattle.ac_links.specs.Payloads.Taking.{Message}
use Rattle.ac_links.specs.Views.{PeerDecision}
use Rattle.ac_links.specs.Noted.{or_zero}
use Rattle.ac_links.specs.Party.LinkEnd.{Owns, Decides}
use Rattle.completion_word.specs.declared.answers.Look.{Look}
use Rattle.completion_word.specs.declared.answers.Look.TheVariants as look
use Rattle.completion_word.specs.declared.views.Decision.{Decision}
use Rattle.completion_word.specs.declared.views.DecisionKind.{DecisionKind}
use Rattle.completion_word.specs.declared.views.DecisionKind.TheVariants as outcome
use Rattle.completion_word.specs.declared.views.Peer.{Peer}
use Rattle.completion_word.specs.Link.{decision_at}
use Rattle.completion_word.specs.Steps.{stamp_seen}
use Rattle.channel_ends.specs.Sending.{MadeOffer, OwnerNotes, Sending, made_at, known_lead, capacity_of}
use Rattle.channel_ends.specs.Sending as notes
use Rattle.channel_ends.specs.Receiving.{Receiving}
use Rattle.channel_ends.specs.Settled.{stamp_of, IsTrueOf, AreOfOneLink, AreSettled, MakeALink, AreTakenAs, IsTakenAs, owner_offers, peer_decisions}
use Rattle.channel_ends.specs.Pairs.{IsSettledSend, IsSettledRecv}
use Rattle.end_ports.specs.Held.{SendingAt, ReceivingAt}
use Rattle.core_ports.specs.Ends.{greatest, last_stamp_of}
use Rattle.end_ports.specs.OnLinks.{is_decided, offers_on, decisions_on, on_send, on_recv}
use Rattle.end_ports.specs.SettledLinks.{IsQuiet, IsSettled}
use Rattle.end_ports.proofs.Owning.{lead_is, count_is, room_is}
use Rattle.end_ports.proofs.Sending.{made_offers}
use Rattle.end_ports.proofs.Receiving.{decisions_count}

-- ---- it is a link

same_message : (x : List ℤ) → carries (Message x) (Int x) ≡ true
same_message x = (pointwise_decides Decides-int_eq x x).1 refl

taken_as : (k : ℕ) (xs : List (List ℤ)) (ds : List Decision) → AreTakenAs Int (λ k x. Message x) k xs ds
taken_as k [] ds = tt
taken_as k (x ∷ xs) [] = tt
taken_as k (x ∷ xs) (d ∷ ds) = (by d.outcome, taken_as (suc k) xs ds)
  where
    by : (how : DecisionKind) → IsTakenAs Int (λ k x. Message x) k x how
    by (outcome.Taken t) = same_message x
    by (outcome.Passed t) = tt

-- ---- stamps that were heard of

most_heard : (heard : List (Option ℕ)) (most : ℕ) → ((k t : ℕ) → k < length heard → get_or heard k None ≡ Some t → t ≤ most) → greatest or_zero heard ≤ most
most_heard [] most h = omega arith
most_heard (q ∷ heard) most h =
    let rest = most_heard heard most (λ k t l e. h (suc k) t (omega arith) e) in
    let first : or_zero q ≤ most = by q (λ t e. h 0 t (omega arith) e) in
    omega arith
  where
    by : (q : Option ℕ) → ((t : ℕ) → q ≡ Some t → t ≤ most) → or_zero q ≤ most
    by None f = omega arith
    by (Some t) f = f t refl

abbrev stamp : PeerDecision → ℕ
stamp d = d.stamp

decided_most : (j : ℕ) (xs : List (List ℤ)) (ds : List Decision) (k : ℕ) → length xs ≡ length ds → k < length ds
    → stamp_of (decision_at ds k).outcome ≤ greatest stamp (peer_decisions (λ k x. Message x) j xs ds)
decided_most j [] [] k h l = absurd (omega arith)
decided_most j [] (d ∷ ds) k h l = absurd (omega arith)
decided_most j (x ∷ xs) [] k h l = absurd (omega arith)
decided_most j (x ∷ xs) (d ∷ ds) zero h l = omega arith
decided_most j (x ∷ xs) (d ∷ ds) (suc k) h l = let up = decided_most (suc j) xs ds k (omega arith) (omega arith) in omega arith

offered_most : {M : Type 0} (payload : M → Payload) (xs : List M) (os : List MadeOffer) (k : ℕ) → length xs ≡ length os → k < length os
    → max (made_at os k).stamp (or_zero (made_at os k).withdrawn) ≤ greatest last_stamp_of (owner_offers payload xs os)
offered_most payload [] [] k h l = absurd (omega arith)
offered_most payload [] (o ∷ os) k h l = absurd (omega arith)
offered_most payload (x ∷ xs) [] k h l = absurd (omega arith)
offered_most payload (x ∷ xs) (o ∷ os) zero h l = omega arith
offered_most payload (x ∷ xs) (o ∷ os) (suc k) h l = let up = offered_most payload xs os k (omega arith) (omega arith) in omega arith

-- ---- the first offers are known, and so decided

abbrev IsKnownAt : List MadeOffer → ℕ → Type 0
IsKnownAt os k = (k < length os) × ((t : ℕ) × ((made_at os k).known ≡ Some t))

first_known : (o : MadeOffer) (os : List MadeOffer) → ((k : ℕ) → k < known_lead os → IsKnownAt os k) → (q : Option ℕ) → o.known ≡ q → (k : ℕ)
    → k < cond (is_some q) (suc (known_lead os)) 0 → IsKnownAt (o ∷ os) k
first_known o os more None e k l = absurd (omega arith)
first_known o os more (Some t) e zero l = (omega arith, (t, e))
first_known o os more (Some t) e (suc k) l = let m = more k (omega arith) in (omega (arith, m.0), m.1)

lead_known : (os : List MadeOffer) (k : ℕ) → k < known_lead os → IsKnownAt os k
lead_known [] k l = absurd (omega arith)
lead_known (o ∷ os) k l = first_known o os (lead_known os) o.known refl k l

below_most : (q : Option ℕ) (a : ℕ) (w most : ℕ) → q ≡ Some w → max a (or_zero q) ≤ most → w ≤ most
below_most q a w most e h = let v : or_zero q ≡ w = ap or_zero e in omega arith

both_below : (m n k : ℕ) → n ≤ k → (nat_lt m n && nat_lt m k) ≡ nat_lt m n
both_below m n k h = elim (cases_lt m n) [
  | inl b ↦ let x : nat_lt m n ≡ true = grind (arith, nat_tests) in
      let y : nat_lt m k ≡ true = grind (arith, nat_tests) in
      ap (λ c. c && nat_lt m k) x ∙ y ∙ sym x
  | inr b ↦ let x : nat_lt m n ≡ false = grind (arith, nat_tests) in ap (λ c. c && nat_lt m k) x ∙ sym x
]

pub is_below : (m n : ℕ) → nat_lt m n ≡ true → m < n
is_below m n h = grind (arith, nat_tests)

pub tests_below : (m n : ℕ) → m < n → nat_lt m n ≡ true
tests_below m n h = grind (arith, nat_tests)

module _ {M : Type 0} (send : Sending M) (recv : Receiving M) (settled : AreSettled send recv) where
  abbrev link : AreOfOneLink send.notes recv.peer.decisions recv.peer.look
  link = settled.one_link

  pub lead_decided : known_lead send.notes.offers ≤ length recv.peer.decisions
  lead_decided = ⊎_elim
      (λ (b : length recv.peer.decisions < known_lead send.notes.offers).
      let n = length recv.peer.decisions in
      let k = lead_known send.notes.offers n b in
      absurd (omega (arith, (link.heard_true n k.0 k.1.0 (link.known_heard n k.0 k.1.0 k.1.1)).0)))
      (λ (b : known_lead send.notes.offers ≤ length recv.peer.decisions). b)
      (cases_lt (length recv.peer.decisions) (known_lead send.notes.offers))

  -- where there is room a slot is free
  pub room_slot : notes.has_room send.notes ≡ true → 0 < send.free
  room_slot here =
      let fewer = is_below (length send.notes.offers - known_lead send.notes.offers) (capacity_of send.notes) here in
      omega (arith, fewer, settled.free_slots, lead_decided)

  -- the first offer that is not known is told to be decided where it is
  pub decision_told : is_decided send.notes ≡ nat_lt (known_lead send.notes.offers) (length recv.peer.decisions)
  decision_told =
      ap (λ n. nat_lt (known_lead send.notes.offers) n && nat_lt (known_lead send.notes.offers) (length send.notes.offers)) settled.decisions_told
      ∙ both_below (known_lead send.notes.offers) (length recv.peer.decisions) (length send.notes.offers) link.decided_offered

  -- no stamp was heard of that is greater than all of the decisions
  pub heard_most : (most : ℕ) → ((k : ℕ) → k < length recv.peer.decisions → stamp_of (decision_at recv.peer.decisions k).outcome ≤ most)
      → length send.notes.heard ≡ length send.notes.offers → greatest or_zero send.notes.heard ≤ most
  heard_most most each hears = most_heard send.notes.heard most
      (λ k t l e. let h = link.heard_true k (omega (arith, hears)) t e in let up = each k h.0 in omega (arith, h.1))

module _ (s : SendingAt) (r : ReceivingAt) (settled : AreSettled s.end r.end) where
  abbrev pair : AreOfOneLink s.end.notes r.end.peer.decisions r.end.peer.look
  pair = settled.one_link

  seen_most : (shown : Look) → IsTrueOf s.end.notes.offers (length r.end.peer.decisions) shown → stamp_seen (Some shown) ≤ greatest last_stamp_of (offers_on s)
  seen_most (look.Offered t) h = let up = offered_most Int s.end.payloads s.end.notes.offers (length r.end.peer.decisions) settled.one_sent h.0 in omega (arith, h.1)
  seen_most (look.Withdrawn w) h =
      below_most (made_at s.end.notes.offers (length r.end.peer.decisions)).withdrawn (made_at s.end.notes.offers (length r.end.peer.decisions)).stamp w
      (greatest last_stamp_of (offers_on s)) h.1 (offered_most Int s.end.payloads s.end.notes.offers (length r.end.peer.decisions) settled.one_sent h.0)
  seen_most look.Nothing h = omega arith

  heard_by_peer : (q : Option Look) → ForSome q (IsTrueOf s.end.notes.offers (length r.end.peer.decisions)) → stamp_seen q ≤ greatest last_stamp_of (offers_on s)
  heard_by_peer None h = omega arith
  heard_by_peer (Some shown) h = seen_most shown (h shown refl)

  pub is_settled : MakeALink s.end r.end → length s.end.notes.heard ≡ length s.end.notes.offers → IsSettled (on_send s) (on_recv r)
  is_settled makes hears =
      let same = made_offers Int s.end.payloads s.end.notes.offers settled.one_sent in
      let decisions = decisions_count 0 r.end.popped r.end.peer.decisions settled.one_popped in
      record {
        offers = offers_on s;
        decisions = decisions_on r;
        owns = refl;
        decides = refl;
        views = makes false Int (λ k x. Message x) (λ i d q. refl) (taken_as 0 r.end.popped r.end.peer.decisions);
        decision = decision_told s.end r.end settled
            ∙ ap (λ n. nat_lt n (length r.end.peer.decisions)) (sym (lead_is (offers_on s) s.end.notes.offers same))
            ∙ ap (nat_lt _) (sym decisions);
        slot = λ room.
            let here : notes.has_room s.end.notes ≡ true = sym (room_is (on_send s).terms (offers_on s) s.end.notes same refl) ∙ room in
            tests_below 0 s.end.free (room_slot s.end r.end settled here);
        front = ap (nat_lt (length r.end.peer.decisions)) settled.offers_told ∙ ap (λ n. nat_lt n (length s.end.notes.offers)) (sym decisions)
            ∙ ap (nat_lt (length (decisions_on r))) (sym (count_is (offers_on s) s.end.notes.offers same));
        heard_by_owner = heard_most s.end r.end settled (greatest stamp (decisions_on r))
            (λ k l. decided_most 0 r.end.popped r.end.peer.decisions k settled.one_popped l) hears;
        heard_by_peer = heard_by_peer r.end.peer.look pair.seen_true;
      }

-- ---- what stays

pub recv_quiet : (r : ReceivingAt) (end : Receiving (List ℤ)) → IsSettledRecv r.end end → IsQuiet (on_recv r) (on_recv (record r { end = end }))
recv_quiet r end h = record {
  terms = ap (λ t. record { capacity = t.words; requests = false }) h.table;
  end = ap Decides (ap (λ xs. peer_decisions (λ k x. Message x) 0 xs end.peer.decisions) h.popped
      ∙ ap (λ (p : Peer). peer_decisions (λ k x. Message x) 0 r.end.popped p.decisions) h.peer);
  heard = ap (λ (p : Peer). stamp_seen p.look) h.peer;
  polls = refl;
  tries = refl;
}

pub send_quiet : (s : SendingAt) (end : Sending (List ℤ)) → IsSettledSend s.end end → IsQuiet (on_send s) (on_send (record s { end = end }))
send_quiet s end h = record {
  terms = ap (λ (v : OwnerNotes). record { capacity = capacity_of v; requests = false }) h.notes;
  end = ap Owns (ap (λ xs. owner_offers Int xs end.notes.offers) h.payloads ∙ ap (λ (v : OwnerNotes). owner_offers Int s.end.payloads v.offers) h.notes);
  heard = ap (λ (v : OwnerNotes). greatest or_zero v.heard) h.notes;
  polls = refl;
  tries = refl;
}

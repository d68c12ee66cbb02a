-- What is counted at the end of a link is what the end that has it counts; an end that does not offer has offered nothing, and one that does not
-- decide has decided nothing.
use Rattle.std.proofs.Common.{◌≡◌, ◌<◌, ℕ, zero, suc, List, [], ◌∷◌, Option, Some, None, false, refl, sym, ap, ◌∙◌, arith, length, position}
use Rattle.std.specs.Prelude.{◌==◌, slice_get}
use Rattle.ac_links.specs.Views.{PeerDecision}
use Rattle.ac_links.specs.Party.{LinkEnd}
use Rattle.ac_links.specs.Party.LinkEnd.{Owns, Decides, Absent}
use Rattle.core_ports.specs.Ends.{is_peer}
use Rattle.end_ports.specs.Held.{Held, SendingAt, ReceivingAt}
use Rattle.end_ports.specs.OnLinks.{received_on, or_received, told_by, offers_on, decisions_on, on_link}
use Rattle.end_ports.specs.PortsTold.{same_recv}
use Rattle.end_ports.proofs.Placing.{not_placed, place_within, received_here}
use Rattle.end_ports.proofs.Dispatch.{sent_is, not_sent}

there : {X : Type 0} (xs : List X) (k : ℕ) → k < length xs → (x : X) × (slice_get xs k ≡ Some x)
there [] k h = absurd (omega arith)
there (x ∷ xs) zero h = (x, refl)
there (x ∷ xs) (suc k) h = there xs k (omega arith)

-- how many are decided at an end
abbrev pub count_decided : LinkEnd → ℕ
count_decided (Owns os) = 0
count_decided (Decides ds) = length ds
count_decided Absent = 0

pub decided_none : (e : LinkEnd) → is_peer e ≡ false → count_decided e ≡ 0
decided_none (Owns os) h = refl
decided_none (Decides ds) h = cc
decided_none Absent h = refl

module _ (h : Held) (l : ℕ) where
  module _ (apart : (h.ask.link == l) ≡ false) where
    pub sent_count : (f : LinkEnd → ℕ) (at n : ℕ) → position (λ s. s.link == l) h.sends ≡ Some at
        → ((s : SendingAt) → slice_get h.sends at ≡ Some s → n ≡ f (Owns (offers_on s))) → n ≡ f (on_link h l).end
    sent_count f at n found tells =
        let s = there h.sends at (place_within (λ s. s.link == l) h.sends at found) in
        tells s.0 s.1 ∙ sym (ap (λ x. f (told_by x).end) (sent_is h l apart at found s.0 s.1))

    pub sent_decides_none : (at : ℕ) → position (λ s. s.link == l) h.sends ≡ Some at → 0 ≡ count_decided (on_link h l).end
    sent_decides_none at found = sent_count count_decided at 0 found (λ s was. refl)

    module _ (none : position (λ s. s.link == l) h.sends ≡ None) where
      pub none_offered : (f : LinkEnd → ℕ) → f Absent ≡ 0 → ((ds : List PeerDecision) → f (Decides ds) ≡ 0) → 0 ≡ f (on_link h l).end
      none_offered f absent decides = by (received_on h.recvs l) ∙ sym (ap (λ x. f (told_by x).end) (not_sent h l apart none))
        where
          by : (q : Option ReceivingAt) → 0 ≡ f (told_by (or_received q)).end
          by None = sym absent
          by (Some r) = sym (decides (decisions_on r))

      pub received_count : (at n : ℕ) → position (λ r. r.link == l) h.recvs ≡ Some at
          → ((r : ReceivingAt) → slice_get h.recvs at ≡ Some r → n ≡ length (decisions_on r)) → n ≡ count_decided (on_link h l).end
      received_count at n found tells =
          let r = there h.recvs at (place_within (λ r. r.link == l) h.recvs at found) in
          let gone = not_placed (λ s. s.link == l) h.sends none in
          tells r.0 r.1 ∙ sym (ap (λ x. count_decided (told_by x).end) (received_here h l at r.0 r.0 found r.1 (same_recv r.0) apart gone))

      pub none_decided : position (λ r. r.link == l) h.recvs ≡ None → 0 ≡ count_decided (on_link h l).end
      none_decided gone = sym (ap (λ x. count_decided (told_by x).end) (not_sent h l apart none ∙ ap or_received (not_placed (λ r. r.link == l) h.recvs gone)))

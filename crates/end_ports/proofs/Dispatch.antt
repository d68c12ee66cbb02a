-- A call of the ports is that of the end which its link has.
use Rattle.std.proofs.Common.{◌≡◌, ℕ, List, Option, Some, None, true, false, sym, ap, ◌∙◌, subst, set, position}
use Rattle.std.specs.Prelude.{slice_get, ◌==◌}
use Rattle.ac_links.specs.Views.{may_withdraw}
use Rattle.core_ports.specs.Ends.{is_owner, is_held, offer_at}
use Rattle.end_ports.specs.Held.{Held, SendingAt, ReceivingAt, HeldEnd, IsSameSendAt, IsSameRecvAt}
use Rattle.end_ports.specs.Held.HeldEnd.{OfSend, OfRecv}
use Rattle.end_ports.specs.OnLinks.{received_on, or_received, or_sent, told_by, end_on, on_link}
use Rattle.end_ports.specs.PortsTold.{same_send}
use Rattle.end_ports.specs.inner.Places.{ChangesAt, OnlyOn}
use Rattle.end_ports.proofs.Placing.{not_placed, not_asked, sent_here, sent_after, send_link, send_only, received_here, received_after, recv_link, recv_only}

module _ (h : Held) (l : ℕ) where
  module _ (apart : (h.ask.link == l) ≡ false) where
    -- an end on which the core sends
    module _ (at : ℕ) (found : position (λ s. s.link == l) h.sends ≡ Some at) where
      pub sent_is : (s : SendingAt) → slice_get h.sends at ≡ Some s → end_on h l ≡ OfSend s
      sent_is s was = sent_here h l at s s found was (same_send s) apart

      pub send_call : (P : HeldEnd → ℕ → HeldEnd → Type 0) (sends : List SendingAt) → ChangesAt (λ s t. P (OfSend s) s.link (OfSend t) × IsSameSendAt s t) h.sends at sends
          → P (end_on h l) l (end_on (record h { sends = sends }) l)
      send_call P sends c =
          subst (λ xs. P (end_on h l) l (end_on (record h { sends = xs }) l)) (sym c.now)
          (subst (λ x. P x l (end_on (record h { sends = set h.sends at c.after }) l)) (sym (sent_here h l at c.before c.after found c.was c.change.1 apart))
          (subst (λ x. P (OfSend c.before) l x) (sym (sent_after h l at c.before c.after found c.was c.change.1 apart))
          (subst (λ m. P (OfSend c.before) m (OfSend c.after)) (send_link h l at c.before c.after found c.was c.change.1) c.change.0)))

      pub sends_only : (P : SendingAt → SendingAt → Type 0) (sends : List SendingAt) → ChangesAt (λ s t. P s t × IsSameSendAt s t) h.sends at sends
          → OnlyOn h l (record h { sends = sends })
      sends_only P sends c = subst (λ xs. OnlyOn h l (record h { sends = xs })) (sym c.now) (send_only h l at c.before c.after found c.was c.change.1)

    -- one on which it receives
    module _ (at : ℕ) (none : position (λ s. s.link == l) h.sends ≡ None) (found : position (λ r. r.link == l) h.recvs ≡ Some at) where
      pub recv_call : (P : HeldEnd → ℕ → HeldEnd → Type 0) (recvs : List ReceivingAt) → ChangesAt (λ r t. P (OfRecv r) r.link (OfRecv t) × IsSameRecvAt r t) h.recvs at recvs
          → P (end_on h l) l (end_on (record h { recvs = recvs }) l)
      recv_call P recvs c =
          let gone = not_placed (λ s. s.link == l) h.sends none in
          subst (λ xs. P (end_on h l) l (end_on (record h { recvs = xs }) l)) (sym c.now)
          (subst (λ x. P x l (end_on (record h { recvs = set h.recvs at c.after }) l)) (sym (received_here h l at c.before c.after found c.was c.change.1 apart gone))
          (subst (λ x. P (OfRecv c.before) l x) (sym (received_after h l at c.before c.after found c.was c.change.1 apart gone))
          (subst (λ m. P (OfRecv c.before) m (OfRecv c.after)) (recv_link h l at c.before c.after found c.was c.change.1) c.change.0)))

      pub recvs_only : (P : ReceivingAt → ReceivingAt → Type 0) (recvs : List ReceivingAt) → ChangesAt (λ r t. P r t × IsSameRecvAt r t) h.recvs at recvs
          → OnlyOn h l (record h { recvs = recvs })
      recvs_only P recvs c = subst (λ xs. OnlyOn h l (record h { recvs = xs })) (sym c.now) (recv_only h l at c.before c.after found c.was c.change.1)

    -- where it sends on none of this number
    module _ (none : position (λ s. s.link == l) h.sends ≡ None) where
      pub not_sent : end_on h l ≡ or_received (received_on h.recvs l)
      not_sent = not_asked h l apart ∙ ap (λ q. or_sent q (received_on h.recvs l)) (not_placed (λ s. s.link == l) h.sends none)

      no_owner : (q : Option ReceivingAt) → is_owner (told_by (or_received q)).end ≡ true → ⊥
      no_owner None e = cc
      no_owner (Some r) e = cc

      none_offered : (q : Option ReceivingAt) (number : ℕ) → may_withdraw (offer_at (told_by (or_received q)).end number) ≡ true → ⊥
      none_offered None number e = cc
      none_offered (Some r) number e = cc

      pub owns_none : is_owner (on_link h l).end ≡ true → ⊥
      owns_none e = no_owner (received_on h.recvs l) (subst (λ x. is_owner (told_by x).end ≡ true) not_sent e)

      pub offers_none : (number : ℕ) → may_withdraw (offer_at (on_link h l).end number) ≡ true → ⊥
      offers_none number e = none_offered (received_on h.recvs l) number (subst (λ x. may_withdraw (offer_at (told_by x).end number) ≡ true) not_sent e)

      pub holds_none : position (λ r. r.link == l) h.recvs ≡ None → is_held (on_link h l).end ≡ true → ⊥
      holds_none gone e =
          let absent : end_on h l ≡ or_received None = not_sent ∙ ap or_received (not_placed (λ r. r.link == l) h.recvs gone) in
          let no : false ≡ true = sym (ap (λ x. is_held (told_by x).end) absent) ∙ e in cc

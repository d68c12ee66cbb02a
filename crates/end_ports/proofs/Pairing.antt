-- Settling of one channel of two cores, and of the requests of one: what the ports tell then.
use Rattle.std.proofs.Common.{◌≡◌, ◌≤◌, inl, inr, arith, ℕ, List, Some, None, true, false, refl, sym, ap, ◌∙◌, subst, position}
use Rattle.std.specs.Prelude.{slice_get, ◌==◌}
use Rattle.ac_links.specs.Party.LinkEnd.{Owns}
use Rattle.channel_ends.specs.Settled.{AreEnds}
use Rattle.request_ends.specs.Asking.{requests_of}
use Rattle.end_ports.specs.Held.{Held, SendingAt, ReceivingAt, AskingAt, IsSameAskAt}
use Rattle.end_ports.specs.Held.HeldEnd.{OfSend, OfRecv}
use Rattle.end_ports.specs.OnLinks.{on_ask, on_send, on_recv, sent_on, received_on, told_by, end_on, on_link}
use Rattle.end_ports.specs.SettledLinks.{IsQuiet, IsSettled, HavePair, Settles, SettlesRequests}
use Rattle.end_ports.specs.inner.Pairs.{SettlesAt}
use Rattle.end_ports.specs.inner.Places.{OnlyOn}
use Rattle.end_ports.proofs.Placing.{not_equal, not_placed, found_at, found_new, asked_here, ask_only, sent_here, sent_after, send_only, received_here, received_after, recv_only}
use Rattle.std.proofs.lemmas.Bool.Decides.{eqb_tells}
use Rattle.end_ports.proofs.Telling.{all_same, settles}

same_some : {X : Type 0} (x y : X) → Some x ≡ Some y → x ≡ y
same_some x y e = cc

module _ (a b : Held) (l : ℕ) (p : HavePair a b l) where
  a_apart : (a.ask.link == l) ≡ false
  a_apart = not_equal a.ask.link l p.from_asks

  b_apart : (b.ask.link == l) ≡ false
  b_apart = not_equal b.ask.link l p.to_asks

  pub has_send : position (λ s. s.link == l) a.sends ≡ None → ⊥
  has_send none = let no : None ≡ Some p.send = sym (not_placed (λ s. s.link == l) a.sends none) ∙ p.sends in cc

  pub has_recv : position (λ r. r.link == l) b.recvs ≡ None → ⊥
  has_recv none = let no : None ≡ Some p.recv = sym (not_placed (λ r. r.link == l) b.recvs none) ∙ p.recvs in cc

  module _ (at to : ℕ) (here : position (λ s. s.link == l) a.sends ≡ Some at) (there : position (λ r. r.link == l) b.recvs ≡ Some to) where
    pub are_ends : (s : SendingAt) (r : ReceivingAt) → slice_get a.sends at ≡ Some s → slice_get b.recvs to ≡ Some r → AreEnds s.end r.end
    are_ends s r was were =
        let e : p.send ≡ s = same_some p.send s (sym p.sends ∙ found_at (λ s. s.link == l) a.sends at s here was) in
        let f : p.recv ≡ r = same_some p.recv r (sym p.recvs ∙ found_at (λ r. r.link == l) b.recvs to r there were) in
        subst (λ s. AreEnds s.end r.end) e (subst (λ r. AreEnds p.send.end r.end) f p.ends)

    module _ (sends : List SendingAt) (recvs : List ReceivingAt) (c : SettlesAt a.sends at b.recvs to sends recvs) where
      abbrev a' : Held
      a' = record a { sends = sends }

      abbrev b' : Held
      b' = record b { recvs = recvs }

      a_now : end_on a' l ≡ OfSend c.send'
      a_now = ap (λ xs. end_on (record a { sends = xs }) l) c.sends_are ∙ sent_after a l at c.send c.send' here c.sent c.settles.same_send a_apart

      b_now : end_on b' l ≡ OfRecv c.recv'
      b_now = ap (λ xs. end_on (record b { recvs = xs }) l) c.recvs_are ∙ received_after b l to c.recv c.recv' there c.received c.settles.same_recv b_apart p.to_sends

      pub mine : Settles a l a'
      mine = settles a l a' (subst (λ xs. OnlyOn a l (record a { sends = xs })) (sym c.sends_are) (send_only a l at c.send c.send' here c.sent c.settles.same_send))
          (subst (λ x. IsQuiet (told_by x) (on_link a' l)) (sym (sent_here a l at c.send c.send' here c.sent c.settles.same_send a_apart))
          (subst (λ x. IsQuiet (on_send c.send) (told_by x)) (sym a_now) c.settles.send))

      pub its : Settles b l b'
      its = settles b l b' (subst (λ xs. OnlyOn b l (record b { recvs = xs })) (sym c.recvs_are) (recv_only b l to c.recv c.recv' there c.received c.settles.same_recv))
          (subst (λ x. IsQuiet (told_by x) (on_link b' l)) (sym (received_here b l to c.recv c.recv' there c.received c.settles.same_recv b_apart p.to_sends))
          (subst (λ x. IsQuiet (on_recv c.recv) (told_by x)) (sym b_now) c.settles.recv))

      pub settled_link : IsSettled (on_link a' l) (on_link b' l)
      settled_link = subst (λ x. IsSettled (told_by x) (on_link b' l)) (sym a_now) (subst (λ x. IsSettled (on_send c.send') (told_by x)) (sym b_now) c.settles.link)

      pub pair_stays : HavePair a' b' l
      pair_stays = record {
        send = c.send';
        recv = c.recv';
        sends = ap (λ xs. sent_on xs l) c.sends_are ∙ found_new (λ (s : SendingAt). s.link) a.sends l at here c.send c.send' c.sent c.settles.same_send.link;
        from_asks = p.from_asks;
        recvs = ap (λ xs. received_on xs l) c.recvs_are ∙ found_new (λ (r : ReceivingAt). r.link) b.recvs l to there c.recv c.recv' c.received c.settles.same_recv.link;
        to_sends = p.to_sends;
        to_asks = p.to_asks;
        ends = c.settles.pair;
      }

-- the requests
pub settles_requests : (h : Held) (a : AskingAt) → IsSameAskAt h.ask a → a.end.send.notes.table ≡ h.ask.end.send.notes.table → requests_of a.end ≡ requests_of h.ask.end → a.polls ≡ h.ask.polls
    → a.tries ≡ h.ask.tries → (on_ask h.ask).heard ≤ (on_ask a).heard → SettlesRequests h (record h { ask = a })
settles_requests h a same table list polls tries more =
    let h' : Held = record h { ask = a } in
    let l = h.ask.link in
    let only = ask_only h l a refl same in
    let was = asked_here h l refl in
    let is = asked_here h' l same.link in
    record {
      terms = all_same h l h' only (λ x. x.terms) (ap (λ x. (told_by x).terms) is ∙ ap (λ t. record { capacity = t.words; requests = true }) table
          ∙ sym (ap (λ x. (told_by x).terms) was));
      ends = all_same h l h' only (λ x. x.end) (ap (λ x. (told_by x).end) is ∙ ap Owns list ∙ sym (ap (λ x. (told_by x).end) was));
      heard = λ k. elim (eqb_tells l k) [
        | inl q ↦ subst (λ k. (on_link h k).heard ≤ (on_link h' k).heard) q.1
            (subst (λ x. (told_by x).heard ≤ (on_link h' l).heard) (sym was) (subst (λ x. (on_ask h.ask).heard ≤ (told_by x).heard) (sym is) more))
        | inr q ↦ let e : (on_link h' k).heard ≡ (on_link h k).heard = ap (λ x. (told_by x).heard) (only.others k q.1) in omega (arith, e)
      ];
      polls = all_same h l h' only (λ x. x.polls) (ap (λ x. (told_by x).polls) is ∙ polls ∙ sym (ap (λ x. (told_by x).polls) was));
      tries = all_same h l h' only (λ x. x.tries) (ap (λ x. (told_by x).tries) is ∙ tries ∙ sym (ap (λ x. (told_by x).tries) was));
      rest = refl;
      others = only.others;
      stays = only.stays;
    }

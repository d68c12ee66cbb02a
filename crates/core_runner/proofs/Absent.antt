-- A core that has no end of a link has none of it after any calls: its ends stand under the numbers of their links as before.
use Rattle.std.proofs.Common.{◌≡◌, ℕ, Option, Some, None, Bool, true, false, cond, refl, sym, ap, ◌∙◌}
use Rattle.std.specs.Prelude.{◌==◌}
use Rattle.ac_links.specs.Party.{LinkEnd}
use Rattle.ac_links.specs.Party.LinkEnd.{Absent}
use Rattle.core_ports.specs.Ends.{is_held}
use Rattle.end_ports.specs.Held.{Held, SendingAt, ReceivingAt, IsSameSendAt, IsSameRecvAt}
use Rattle.end_ports.specs.Held.HeldEnd.{OfAsk}
use Rattle.end_ports.specs.OnLinks.{sent_on, received_on, or_sent, told_by, not_held, on_link}
use Rattle.end_ports.specs.PortsTold.{Stays}
use Rattle.end_ports.proofs.Lasting.{still_none}

is_absent : (x : LinkEnd) → x ≡ Absent → is_held x ≡ false
is_absent x e = ap is_held e

-- it is no end of either kind
none_held : (s : Option SendingAt) (r : Option ReceivingAt) → is_held (told_by (or_sent s r)).end ≡ false → (s ≡ None) × (r ≡ None)
none_held None None h = (refl, refl)
none_held None (Some r) h = absurd cc
none_held (Some s) r h = absurd cc

pub stays_absent : (l : ℕ) (h i : Held) → Stays h i → (on_link h l).end ≡ Absent → on_link i l ≡ not_held
stays_absent l h i stays none = by (h.ask.link == l) refl
  where
    not_sent : (s : Option SendingAt) (r : Option ReceivingAt) → s ≡ None → r ≡ None → told_by (or_sent s r) ≡ not_held
    not_sent s r e f = ap (λ x. told_by (or_sent x r)) e ∙ ap (λ x. told_by (or_sent None x)) f

    by : (b : Bool) → (h.ask.link == l) ≡ b → on_link i l ≡ not_held
    by true e = let no : true ≡ false = sym (ap (λ b. is_held (told_by (cond b (OfAsk h.ask) (or_sent (sent_on h.sends l) (received_on h.recvs l)))).end) e)
        ∙ is_absent (on_link h l).end none in absurd cc
    by false e =
        let gone = none_held (sent_on h.sends l) (received_on h.recvs l)
        (sym (ap (λ b. is_held (told_by (cond b (OfAsk h.ask) (or_sent (sent_on h.sends l) (received_on h.recvs l)))).end) e) ∙ is_absent (on_link h l).end none) in
        ap (λ b. told_by (cond b (OfAsk i.ask) (or_sent (sent_on i.sends l) (received_on i.recvs l)))) (ap (λ n. n == l) stays.ask.link ∙ e)
        ∙ not_sent (sent_on i.sends l) (received_on i.recvs l)
        (still_none (λ x. x.link) IsSameSendAt (λ x y r. r.link) l h.sends i.sends stays.sends gone.0)
        (still_none (λ x. x.link) IsSameRecvAt (λ x y r. r.link) l h.recvs i.recvs stays.recvs gone.1)

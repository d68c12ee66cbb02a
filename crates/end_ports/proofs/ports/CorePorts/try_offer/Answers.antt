use Rattle.std.proofs.Common.{◌≡◌, ℕ, ◌∙◌, true, false, sym, subst}
use Rattle.std.specs.Prelude.{◌==◌}
use Rattle.core_ports.specs.Ends.{is_owner, IsUpTo}
use Rattle.end_ports.specs.Held.{Held, SendingAt, HeldEnd}
use Rattle.end_ports.specs.Held.HeldEnd.{OfSend}
use Rattle.end_ports.specs.OnLinks.{told_by, end_on, on_link}
use Rattle.end_ports.specs.inner.Calls.{OffersOn}
use Rattle.end_ports.specs.inner.Places.{OnlyOn}
use Rattle.end_ports.specs.PortFields.{held_of}
use Rattle.end_ports.proofs.Placing.{not_equal, ask_only}
use Rattle.end_ports.proofs.Dispatch.{sent_is, send_call, sends_only, owns_none}
use Rattle.end_ports.proofs.ports.CorePorts.try_offer.Goals as goal

pub returns-then-link-clause-only : goal.returns-then-link-clause-only
returns-then-link-clause-only c =
    let h = held_of c.self.inside in
    subst (λ (v : Held). OnlyOn v c.args.link (record h { ask = c.offer.new.self })) c.self.view_is
    (ask_only h c.args.link c.offer.new.self (sym c.link.ensures ∙ c.if-link.true) c.offer.ensures.same)

pub offer-requires-in-Some-clause-clock : goal.offer-requires-in-Some-clause-clock
offer-requires-in-Some-clause-clock c =
    let h = held_of c.self.inside in
    let apart : (h.ask.link == c.args.link) ≡ false = not_equal h.ask.link c.args.link (λ e. c.if-link.false (c.link.ensures ∙ e)) in
    λ s was. subst (λ x. IsUpTo c.args.clock.now (told_by x).end) (sent_is h c.args.link apart c.in-Some.at (sym c.place.ensures ∙ c.in-Some.is) s was)
    (subst (λ (v : Held). IsUpTo c.args.clock.now (on_link v c.args.link).end) (sym c.self.view_is) c.requires.clock)

pub unreachable-requires : goal.unreachable-requires
unreachable-requires c =
    let h = held_of c.self.inside in
    let apart : (h.ask.link == c.args.link) ≡ false = not_equal h.ask.link c.args.link (λ e. c.if-link.false (c.link.ensures ∙ e)) in
    owns_none h c.args.link apart (sym c.place.ensures ∙ c.in-None.is)
    (subst (λ (v : Held). is_owner (on_link v c.args.link).end ≡ true) (sym c.self.view_is) c.requires.link)

pub returns-clause-call : goal.returns-clause-call
returns-clause-call c =
    let h = held_of c.self.inside in
    let sends = c.offer-in-Some.new.self in
    let apart : (h.ask.link == c.args.link) ≡ false = not_equal h.ask.link c.args.link (λ e. c.if-link.false (c.link.ensures ∙ e)) in
    let P : HeldEnd → ℕ → HeldEnd → Type 0 = λ x l y. OffersOn x l c.args.clock.now c.args.payload c.offer-in-Some.result y c.offer-in-Some.new.clock in
    subst (λ (v : Held). P (end_on v c.args.link) c.args.link (end_on (record h { sends = sends }) c.args.link)) c.self.view_is
    (send_call h c.args.link apart c.in-Some.at (sym c.place.ensures ∙ c.in-Some.is) P sends c.offer-in-Some.ensures)

pub returns-clause-only : goal.returns-clause-only
returns-clause-only c =
    let h = held_of c.self.inside in
    let sends = c.offer-in-Some.new.self in
    let apart : (h.ask.link == c.args.link) ≡ false = not_equal h.ask.link c.args.link (λ e. c.if-link.false (c.link.ensures ∙ e)) in
    let P : SendingAt → SendingAt → Type 0 = λ s t. OffersOn (OfSend s) s.link c.args.clock.now c.args.payload c.offer-in-Some.result (OfSend t) c.offer-in-Some.new.clock in
    subst (λ (v : Held). OnlyOn v c.args.link (record h { sends = sends })) c.self.view_is
    (sends_only h c.args.link apart c.in-Some.at (sym c.place.ensures ∙ c.in-Some.is) P sends c.offer-in-Some.ensures)

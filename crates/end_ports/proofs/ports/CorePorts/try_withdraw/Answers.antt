use Rattle.std.proofs.Common.{◌≡◌, ℕ, ◌∙◌, true, false, sym, subst}
use Rattle.std.specs.Prelude.{◌==◌}
use Rattle.ac_links.specs.Views.{may_withdraw}
use Rattle.core_ports.specs.Ends.{offer_at, IsUpTo}
use Rattle.end_ports.specs.Held.{Held, SendingAt, HeldEnd}
use Rattle.end_ports.specs.Held.HeldEnd.{OfSend}
use Rattle.end_ports.specs.OnLinks.{told_by, end_on, on_link}
use Rattle.end_ports.specs.inner.Calls.{WithdrawsOn}
use Rattle.end_ports.specs.inner.Places.{OnlyOn}
use Rattle.end_ports.specs.PortFields.{held_of}
use Rattle.end_ports.proofs.Placing.{not_equal, ask_only}
use Rattle.end_ports.proofs.Dispatch.{sent_is, send_call, sends_only, offers_none}
use Rattle.end_ports.proofs.ports.CorePorts.try_withdraw.Goals as goal

pub returns-then-link-clause-only : goal.returns-then-link-clause-only
returns-then-link-clause-only c =
    let h = held_of c.self.inside in
    subst (λ (v : Held). OnlyOn v c.args.link (record h { ask = c.withdraw.new.self })) c.self.view_is
    (ask_only h c.args.link c.withdraw.new.self (sym c.link.ensures ∙ c.if-link.true) c.withdraw.ensures.same)

pub withdraw-requires-in-Some-clause-clock : goal.withdraw-requires-in-Some-clause-clock
withdraw-requires-in-Some-clause-clock c =
    let h = held_of c.self.inside in
    let apart : (h.ask.link == c.args.link) ≡ false = not_equal h.ask.link c.args.link (λ e. c.if-link.false (c.link.ensures ∙ e)) in
    λ s was. subst (λ x. IsUpTo c.args.clock.now (told_by x).end) (sent_is h c.args.link apart c.in-Some.at (sym c.place.ensures ∙ c.in-Some.is) s was)
    (subst (λ (v : Held). IsUpTo c.args.clock.now (on_link v c.args.link).end) (sym c.self.view_is) c.requires.clock)

pub withdraw-requires-in-Some-clause-open : goal.withdraw-requires-in-Some-clause-open
withdraw-requires-in-Some-clause-open c =
    let h = held_of c.self.inside in
    let apart : (h.ask.link == c.args.link) ≡ false = not_equal h.ask.link c.args.link (λ e. c.if-link.false (c.link.ensures ∙ e)) in
    λ s was. subst (λ x. may_withdraw (offer_at (told_by x).end c.args.number) ≡ true) (sent_is h c.args.link apart c.in-Some.at (sym c.place.ensures ∙ c.in-Some.is) s was)
    (subst (λ (v : Held). may_withdraw (offer_at (on_link v c.args.link).end c.args.number) ≡ true) (sym c.self.view_is) c.requires.open)

pub unreachable-requires : goal.unreachable-requires
unreachable-requires c =
    let h = held_of c.self.inside in
    let apart : (h.ask.link == c.args.link) ≡ false = not_equal h.ask.link c.args.link (λ e. c.if-link.false (c.link.ensures ∙ e)) in
    offers_none h c.args.link apart (sym c.place.ensures ∙ c.in-None.is) c.args.number
    (subst (λ (v : Held). may_withdraw (offer_at (on_link v c.args.link).end c.args.number) ≡ true) (sym c.self.view_is) c.requires.open)

pub returns-clause-call : goal.returns-clause-call
returns-clause-call c =
    let h = held_of c.self.inside in
    let sends = c.withdraw-in-Some.new.self in
    let apart : (h.ask.link == c.args.link) ≡ false = not_equal h.ask.link c.args.link (λ e. c.if-link.false (c.link.ensures ∙ e)) in
    let P : HeldEnd → ℕ → HeldEnd → Type 0 = λ x l y. WithdrawsOn x l c.args.clock.now c.args.number c.withdraw-in-Some.result y c.withdraw-in-Some.new.clock in
    subst (λ (v : Held). P (end_on v c.args.link) c.args.link (end_on (record h { sends = sends }) c.args.link)) c.self.view_is
    (send_call h c.args.link apart c.in-Some.at (sym c.place.ensures ∙ c.in-Some.is) P sends c.withdraw-in-Some.ensures)

pub returns-clause-only : goal.returns-clause-only
returns-clause-only c =
    let h = held_of c.self.inside in
    let sends = c.withdraw-in-Some.new.self in
    let apart : (h.ask.link == c.args.link) ≡ false = not_equal h.ask.link c.args.link (λ e. c.if-link.false (c.link.ensures ∙ e)) in
    let P : SendingAt → SendingAt → Type 0 = λ s t. WithdrawsOn (OfSend s) s.link c.args.clock.now c.args.number c.withdraw-in-Some.result (OfSend t) c.withdraw-in-Some.new.clock in
    subst (λ (v : Held). OnlyOn v c.args.link (record h { sends = sends })) c.self.view_is
    (sends_only h c.args.link apart c.in-Some.at (sym c.place.ensures ∙ c.in-Some.is) P sends c.withdraw-in-Some.ensures)

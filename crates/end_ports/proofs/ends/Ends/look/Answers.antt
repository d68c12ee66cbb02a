use Rattle.std.proofs.Common.{◌≡◌, ℕ, ◌∙◌, false, sym}
use Rattle.std.specs.Prelude.{◌==◌}
use Rattle.end_ports.specs.Held.{Held, SendingAt, ReceivingAt, HeldEnd}
use Rattle.end_ports.specs.Held.HeldEnd.{OfSend, OfRecv}
use Rattle.end_ports.specs.inner.Arrivals.{arrival_of}
use Rattle.end_ports.specs.declared.brought.Brought.{Brought}
use Rattle.end_ports.specs.inner.Calls.{PollsOn}
use Rattle.end_ports.specs.inner.Places.{held_by}
use Rattle.end_ports.proofs.Placing.{not_equal, ask_only}
use Rattle.end_ports.proofs.Dispatch.{send_call, sends_only, recv_call, recvs_only, holds_none}
use Rattle.end_ports.proofs.ends.Ends.look.Goals as goal

pub returns-then-link-clause-only : goal.returns-then-link-clause-only
returns-then-link-clause-only c = λ full.
    ask_only (held_by c.args.self.now full) c.args.link c.poll.new.self (sym c.link.ensures ∙ c.if-link.true) c.poll.ensures.same

pub returns-in-Some-clause-call : goal.returns-in-Some-clause-call
returns-in-Some-clause-call c =
    let h : Held = held_by c.args.self.now false in
    let apart : (h.ask.link == c.args.link) ≡ false = not_equal h.ask.link c.args.link (λ e. c.if-link.false (c.link.ensures ∙ e)) in
    let P : HeldEnd → ℕ → HeldEnd → Type 0 = λ x l y. (left : Brought) → PollsOn x l c.args.clock.now c.args.wants (arrival_of c.poll-in-Some.result left) y c.poll-in-Some.new.clock in
    send_call h c.args.link apart c.in-Some.at (sym c.place.ensures ∙ c.in-Some.is) P c.poll-in-Some.new.self c.poll-in-Some.ensures c.args.self.now.brought

pub returns-in-Some-clause-only : goal.returns-in-Some-clause-only
returns-in-Some-clause-only c = λ full.
    let h : Held = held_by c.args.self.now full in
    let apart : (h.ask.link == c.args.link) ≡ false = not_equal h.ask.link c.args.link (λ e. c.if-link.false (c.link.ensures ∙ e)) in
    let P : SendingAt → SendingAt → Type 0 = λ s t. (left : Brought) → PollsOn (OfSend s) s.link c.args.clock.now c.args.wants (arrival_of c.poll-in-Some.result left)
    (OfSend t) c.poll-in-Some.new.clock in
    sends_only h c.args.link apart c.in-Some.at (sym c.place.ensures ∙ c.in-Some.is) P c.poll-in-Some.new.self c.poll-in-Some.ensures

pub unreachable-requires : goal.unreachable-requires
unreachable-requires c =
    let h : Held = held_by c.args.self.now false in
    let apart : (h.ask.link == c.args.link) ≡ false = not_equal h.ask.link c.args.link (λ e. c.if-link.false (c.link.ensures ∙ e)) in
    holds_none h c.args.link apart (sym c.place.ensures ∙ c.in_default.is) (sym c.place-2.ensures ∙ c.in-None.is) c.requires

pub returns-clause-call : goal.returns-clause-call
returns-clause-call c =
    let h : Held = held_by c.args.self.now false in
    let apart : (h.ask.link == c.args.link) ≡ false = not_equal h.ask.link c.args.link (λ e. c.if-link.false (c.link.ensures ∙ e)) in
    let P : HeldEnd → ℕ → HeldEnd → Type 0 = λ x l y. PollsOn x l c.args.clock.now c.args.wants
    (arrival_of c.poll-in-Some-place.result c.poll-in-Some-place.new.into) y c.poll-in-Some-place.new.clock in
    recv_call h c.args.link apart c.in-Some-place.at (sym c.place.ensures ∙ c.in_default.is) (sym c.place-2.ensures ∙ c.in-Some-place.is) P
    c.poll-in-Some-place.new.self c.poll-in-Some-place.ensures

pub returns-clause-only : goal.returns-clause-only
returns-clause-only c = λ full.
    let h : Held = held_by c.args.self.now full in
    let apart : (h.ask.link == c.args.link) ≡ false = not_equal h.ask.link c.args.link (λ e. c.if-link.false (c.link.ensures ∙ e)) in
    let P : ReceivingAt → ReceivingAt → Type 0 = λ r t. PollsOn (OfRecv r) r.link c.args.clock.now c.args.wants (arrival_of c.poll-in-Some-place.result c.poll-in-Some-place.new.into)
    (OfRecv t) c.poll-in-Some-place.new.clock in
    recvs_only h c.args.link apart c.in-Some-place.at (sym c.place.ensures ∙ c.in_default.is) (sym c.place-2.ensures ∙ c.in-Some-place.is) P
    c.poll-in-Some-place.new.self c.poll-in-Some-place.ensures

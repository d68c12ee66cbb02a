use Rattle.std.proofs.Common.{true, sym, subst}
use Rattle.end_ports.specs.inner.Arrivals.{arrival_of}
use Rattle.end_ports.specs.Held.{ReceivingAt}
use Rattle.end_ports.specs.Held.HeldEnd.{OfRecv}
use Rattle.end_ports.specs.inner.Calls.{PollsOn}
use Rattle.end_ports.specs.RecvFields.{receiving_at_of}
use Rattle.end_ports.proofs.Receiving.{recv_polls, keeps_items}
use Rattle.end_ports.proofs.recv_at.RecvAt.poll.Goals as goal

pub invariant_of-self-2 : goal.invariant_of-self-2
invariant_of-self-2 c =
    let kept = keeps_items c.self.inside.end c.take.new.self c.args.clock.now c.take.result c.take.ensures.answer (c.self.invariant.one_each, c.self.invariant.known) in
    record { one_each = kept.0; known = kept.1 }

pub returns-clause-call : goal.returns-clause-call
returns-clause-call c =
    let r = receiving_at_of c.self.inside in
    let last = c.args.clock.now in
    let polls = c.counted-self-inside.result in
    let after : ReceivingAt = record { link = r.link; end = c.take.new.self; polls = polls } in
    let now = c.take.new.clock in
    subst (λ (v : ReceivingAt). PollsOn (OfRecv v) v.link last c.args.wants (arrival_of c.received.result c.received.new.into) (OfRecv after) now) c.self.view_is
    (subst (λ b. PollsOn (OfRecv r) r.link last b (arrival_of c.received.result c.received.new.into) (OfRecv after) now) (sym c.if-not-wants.false)
    (subst (λ x. PollsOn (OfRecv r) r.link last true x (OfRecv after) now) (sym c.received.ensures.answer)
    (recv_polls r c.self.invariant.one_each c.self.invariant.known last c.take.new.self polls c.counted-self-inside.ensures
    c.take.result now c.take.ensures.answer c.take.ensures.clock)))

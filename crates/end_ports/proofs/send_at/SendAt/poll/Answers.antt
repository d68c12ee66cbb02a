use Rattle.std.proofs.Common.{ℤ, List, ◌∙◌, sym, ap, subst, length}
use Rattle.channel_ends.specs.Sending.{Sending}
use Rattle.end_ports.specs.inner.Arrivals.{arrival_of}
use Rattle.end_ports.specs.Held.{SendingAt}
use Rattle.end_ports.specs.Held.HeldEnd.{OfSend}
use Rattle.end_ports.specs.inner.Calls.{PollsOn}
use Rattle.end_ports.specs.Answers.{learned_as}
use Rattle.end_ports.specs.SendFields.{sending_at_of}
use Rattle.end_ports.proofs.Answering.{as_long_learned}
use Rattle.end_ports.proofs.Sending.{send_polls}
use Rattle.end_ports.proofs.send_at.SendAt.poll.Goals as goal

pub invariant_of-self : goal.invariant_of-self
invariant_of-self c =
    let long = as_long_learned c.self.inside.end.notes c.args.clock.now c.learn.result c.learn.new.self.notes c.learn.ensures.answer in
    record {
      carries = ap (λ (v : Sending (List ℤ)). length v.payloads) c.learn.ensures.end ∙ c.self.invariant.carries ∙ sym long.offers;
      hears = long.heard ∙ c.self.invariant.hears ∙ sym long.offers;
    }

pub returns-clause-call : goal.returns-clause-call
returns-clause-call c = λ left.
    let s = sending_at_of c.self.inside in
    let last = c.args.clock.now in
    let wants = c.args.wants in
    let polls = c.counted-self-inside.result in
    let after : Sending (List ℤ) → SendingAt = λ e. record { link = s.link; end = e; polls = polls; tries = s.tries } in
    let now = c.learn.new.clock in
    subst (λ (v : SendingAt). PollsOn (OfSend v) v.link last wants (arrival_of c.learned.result left) (OfSend (after c.learn.new.self)) now) c.self.view_is
    (subst (λ r. PollsOn (OfSend s) s.link last wants r (OfSend (after c.learn.new.self)) now) (sym (c.learned.ensures left))
    (subst (λ (e : Sending (List ℤ)). PollsOn (OfSend s) s.link last wants (learned_as c.learn.result) (OfSend (after e)) now) (sym c.learn.ensures.end)
    (send_polls s c.self.invariant.carries c.self.invariant.hears last c.learn.new.self.notes c.learn.result wants now polls
    c.learn.ensures.answer c.learn.ensures.clock c.counted-self-inside.ensures)))

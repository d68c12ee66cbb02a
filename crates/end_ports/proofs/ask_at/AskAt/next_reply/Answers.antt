use Rattle.std.proofs.Common.{◌≡◌, ◌∙◌, ◌&&◌, not, true, false, sym, ap, subst}
use Rattle.end_ports.specs.inner.Arrivals.{arrival_of}
use Rattle.end_ports.specs.Held.{AskingAt}
use Rattle.end_ports.specs.OnLinks.{on_ask}
use Rattle.end_ports.specs.inner.AskFields.{asking_at_of}
use Rattle.end_ports.specs.inner.Calls.{LooksOn}
use Rattle.end_ports.proofs.Asking.{ask_replies}
use Rattle.end_ports.proofs.ask_at.AskAt.next_reply.Goals as goal

pub returns-clause-call : goal.returns-clause-call
returns-clause-call c =
    let a = asking_at_of c.self.inside in
    let last = c.args.clock.now in
    let settled = c.stays_settled-self-inside.result in
    let after : AskingAt = record { link = a.link; end = c.reply-answer.new.self; polls = a.polls; tries = a.tries; settled = settled } in
    let now = c.reply-answer.new.clock in
    let undecided : (on_ask a).hand.decision ≡ false = subst (λ (v : AskingAt). (on_ask v).hand.decision ≡ false) (sym c.self.view_is) c.requires in
    subst (λ (v : AskingAt). LooksOn v last c.args.wants (arrival_of c.replied.result c.replied.new.into) after now) c.self.view_is
    (subst (λ b. LooksOn a last b (arrival_of c.replied.result c.replied.new.into) after now) (sym c.if-not-wants.false)
    (subst (λ r. LooksOn a last true r after now) (sym c.replied.ensures.answer)
    (ask_replies a c.self.invariant.carries c.self.invariant.hears last c.reply-answer.new.self settled undecided c.reply-answer.result now
    (sym c.awaits.ensures ∙ c.if-not-awaits.false) c.reply-answer.ensures.answer c.reply-answer.ensures.clock
    (c.stays_settled-self-inside.ensures ∙ ap (λ b. a.settled && not b) c.enters_reply.ensures))))

use Rattle.std.proofs.Common.{◌≡◌, ◌∙◌, true, ◌&&◌, not, sym, ap, subst}
use Rattle.end_ports.specs.inner.Arrivals.{arrival_of}
use Rattle.end_ports.specs.Answers.{is_quiet}
use Rattle.end_ports.specs.Held.{AskingAt}
use Rattle.end_ports.specs.Held.HeldEnd.{OfAsk}
use Rattle.end_ports.specs.inner.AskFields.{asking_at_of}
use Rattle.end_ports.specs.inner.Calls.{LooksOn, PollsOn}
use Rattle.end_ports.specs.inner.Entered.{enters_learning}
use Rattle.end_ports.proofs.Answering.{as_long_learned}
use Rattle.end_ports.proofs.Asking.{ask_learns, ask_goes_on, quiet_clock}
use Rattle.end_ports.proofs.Ready.{keeps_asking, learns_quietly}
use Rattle.end_ports.proofs.ask_at.AskAt.poll.Goals as goal

pub invariant_of-self-2 : goal.invariant_of-self-2
invariant_of-self-2 c =
    let it = c.self.inside in
    let last = c.args.clock.now in
    let r = c.learn-answer.result in
    let new = c.learn-answer.new.self in
    let h = c.learn-answer.ensures.answer in
    keeps_asking it c.self.invariant new c.learn-answer.ensures.end c.learn-answer.ensures.places c.stays_settled-self-inside.result (enters_learning r)
    (c.stays_settled-self-inside.ensures ∙ ap (λ b. it.settled && not b) c.enters_learning.ensures)
    (learns_quietly it.end.send.notes last r new.send.notes h) c.counted-self-inside.result (as_long_learned it.end.send.notes last r new.send.notes h)

pub returns-clause-call : goal.returns-clause-call
returns-clause-call c =
    let a = asking_at_of c.self.inside in
    let last = c.args.clock.now in
    let polls = c.counted-self-inside.result in
    let settled = c.stays_settled-self-inside.result in
    let after : AskingAt = record { link = a.link; end = c.learn-answer.new.self; polls = polls; tries = a.tries; settled = settled } in
    let now = c.learn-answer.new.clock in
    subst (λ (v : AskingAt). PollsOn (OfAsk v) v.link last c.args.wants (arrival_of c.learned.result c.args.into.now) (OfAsk after) now) c.self.view_is
    (subst (λ r. PollsOn (OfAsk a) a.link last c.args.wants r (OfAsk after) now) (sym (c.learned.ensures c.args.into.now))
    (ask_learns a c.self.invariant.carries c.self.invariant.hears last c.learn-answer.new.self c.learn-answer.ensures.end c.learn-answer.result c.args.wants now polls settled
    (sym c.is_quiet.ensures ∙ c.if-is_quiet.false) c.learn-answer.ensures.answer c.learn-answer.ensures.list c.learn-answer.ensures.clock c.counted-self-inside.ensures
    (c.stays_settled-self-inside.ensures ∙ ap (λ b. a.settled && not b) c.enters_learning.ensures)))

pub returns-then-is_quiet-clause-call : goal.returns-then-is_quiet-clause-call
returns-then-is_quiet-clause-call c =
    let a = asking_at_of c.self.inside in
    let last = c.args.clock.now in
    let r = c.learn-answer.result in
    let new = c.learn-answer.new.self in
    let polls = c.counted-self-inside.result in
    let then : AskingAt = record { link = a.link; end = new; polls = polls; tries = a.tries; settled = a.settled } in
    let came = arrival_of c.next_reply.result c.next_reply.new.into in
    let now = c.next_reply.new.clock in
    let quiet : is_quiet r ≡ true = sym c.is_quiet.ensures ∙ c.if-is_quiet.true in
    subst (λ (v : AskingAt). PollsOn (OfAsk v) v.link last c.args.wants came (OfAsk c.next_reply.new.self) now) c.self.view_is
    (ask_goes_on a c.self.invariant.carries c.self.invariant.hears last new c.learn-answer.ensures.end r quiet c.learn-answer.ensures.answer c.learn-answer.ensures.list
    polls c.args.wants came c.next_reply.new.self now c.counted-self-inside.ensures
    (subst (λ n. LooksOn then n c.args.wants came c.next_reply.new.self now) (c.learn-answer.ensures.clock ∙ quiet_clock last r quiet) c.next_reply.ensures.call))

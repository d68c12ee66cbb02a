use Rattle.std.proofs.Common.{◌∙◌, ◌&&◌, not, sym, ap, subst}
use Rattle.core_ports.specs.Ends.{IsUpTo}
use Rattle.request_ends.specs.Asking.{requests_of}
use Rattle.end_ports.specs.Held.{AskingAt}
use Rattle.end_ports.specs.Held.HeldEnd.{OfAsk}
use Rattle.end_ports.specs.OnLinks.{on_ask}
use Rattle.end_ports.specs.inner.AskFields.{asking_at_of}
use Rattle.end_ports.specs.inner.Calls.{OffersOn}
use Rattle.end_ports.proofs.Owning.{within}
use Rattle.end_ports.proofs.Asking.{same, ask_offers}
use Rattle.end_ports.proofs.ask_at.AskAt.offer.Goals as goal

pub offer-answer-requires-clause-within : goal.offer-answer-requires-clause-within
offer-answer-requires-clause-within c =
    let a = asking_at_of c.self.inside in
    within c.args.clock.now (requests_of a.end) a.end.send.notes.offers (same a c.self.invariant.carries c.self.invariant.hears)
    (subst (λ (v : AskingAt). IsUpTo c.args.clock.now (on_ask v).end) (sym c.self.view_is) c.requires.clock)

pub returns-clause-call : goal.returns-clause-call
returns-clause-call c =
    let a = asking_at_of c.self.inside in
    let last = c.args.clock.now in
    let tries = c.counted-self-inside.result in
    let settled = c.stays_settled-self-inside.result in
    let after : AskingAt = record { link = a.link; end = c.offer-answer.new.self; polls = a.polls; tries = tries; settled = settled } in
    let now = c.offer-answer.new.clock in
    subst (λ (v : AskingAt). OffersOn (OfAsk v) v.link last c.args.payload c.offer-answer.result (OfAsk after) now) c.self.view_is
    (ask_offers a c.self.invariant.carries c.self.invariant.hears c.self.invariant.ready last c.args.payload c.offer-answer.result c.offer-answer.new.self now tries settled
    c.offer-answer.ensures.answer c.requires.payload c.offer-answer.ensures.clock c.counted-self-inside.ensures
    (c.stays_settled-self-inside.ensures ∙ ap (λ b. a.settled && not b) c.enters_offering.ensures))

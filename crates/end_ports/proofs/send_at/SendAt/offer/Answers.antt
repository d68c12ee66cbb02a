use Rattle.std.proofs.Common.{sym, subst}
use Rattle.ac_base.specs.declared.entry.Payload.TheVariants.{Int}
use Rattle.channel_ends.specs.Offers.{Offers}
use Rattle.core_ports.specs.Ends.{IsUpTo}
use Rattle.end_ports.specs.Held.{SendingAt}
use Rattle.end_ports.specs.Held.HeldEnd.{OfSend}
use Rattle.end_ports.specs.OnLinks.{offers_on, on_send}
use Rattle.end_ports.specs.inner.Calls.{OffersOn}
use Rattle.end_ports.specs.SendFields.{sending_at_of}
use Rattle.end_ports.proofs.Owning.{within}
use Rattle.end_ports.proofs.Sending.{same, send_offers}
use Rattle.end_ports.proofs.send_at.SendAt.offer.Goals as goal

pub offer-requires-clause-within : goal.offer-requires-clause-within
offer-requires-clause-within c =
    let s = sending_at_of c.self.inside in
    within c.args.clock.now (offers_on s) s.end.notes.offers (same s c.self.invariant.carries c.self.invariant.hears)
    (subst (λ (v : SendingAt). IsUpTo c.args.clock.now (on_send v).end) (sym c.self.view_is) c.requires.clock)

pub returns-clause-call : goal.returns-clause-call
returns-clause-call c =
    let s = sending_at_of c.self.inside in
    let last = c.args.clock.now in
    let value = c.in-Int.value in
    let tries = c.counted-self-inside.result in
    let after : SendingAt = record { link = s.link; end = c.offer.new.self; polls = s.polls; tries = tries } in
    let now = c.offer.new.clock in
    let answer : Offers s.end value last c.offer.result c.offer.new.self = c.offer.ensures.answer in
    subst (λ (v : SendingAt). OffersOn (OfSend v) v.link last c.args.payload c.as_payload.result (OfSend after) now) c.self.view_is
    (subst (λ p. OffersOn (OfSend s) s.link last p c.as_payload.result (OfSend after) now) (sym c.in-Int.is)
    (subst (λ r. OffersOn (OfSend s) s.link last (Int value) r (OfSend after) now) (sym c.as_payload.ensures)
    (send_offers s c.self.invariant.carries c.self.invariant.hears last value c.offer.result c.offer.new.self now tries
    answer c.offer.ensures.clock c.counted-self-inside.ensures)))

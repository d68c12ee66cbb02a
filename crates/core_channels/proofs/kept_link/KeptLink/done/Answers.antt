use Rattle.std.proofs.Common.{◌≡◌, ◌∙◌, ◌<◌, ◌^◌, [], ◌∷◌, ◌++◌, sym, ap, subst, true}
use Rattle.ac_base.specs.Stamps.{next_stamp}
use Rattle.ac_links.specs.Payloads.{answer_fits}
use Rattle.ac_links.specs.Noted.{offer_stamp}
use Rattle.core_channels.specs.LinkViews.{AreViews}
use Rattle.core_channels.specs.Takes.{with_decision}
use Rattle.core_channels.specs.Requests.{next_offer, did_decision}
use Rattle.core_channels.proofs.Fronts.{it_may_be_done, next_within, same_next}
use Rattle.core_channels.proofs.Keeping.{views_did}
use Rattle.core_channels.proofs.Stamping.{next_is_later}
use Rattle.core_channels.proofs.kept_link.KeptLink.done.Goals as goal

pub next-requires : goal.next-requires
next-requires c = let d = it_may_be_done c.args.self.now c.args.clock.now c.args.answer c.requires in next_within c.args.self.now d.waits.own d.waits.there

pub stamp_of-stamp-requires : goal.stamp_of-stamp-requires
stamp_of-stamp-requires c =
    let d = it_may_be_done c.args.self.now c.args.clock.now c.args.answer c.requires in
    let same = same_next c.args.self.now d.waits.own c.next.result.now d.waits.there c.next.ensures.there in
    subst (λ x. next_stamp c.args.clock.now x < 2 ^ 60) (ap (λ o. o.stamp) same ∙ sym c.stamp-offered.ensures) d.waits.stamp

pub decide-requires-clause-place : goal.decide-requires-clause-place
decide-requires-clause-place c = let d = it_may_be_done c.args.self.now c.args.clock.now c.args.answer c.requires in next_within c.args.self.now d.waits.own d.waits.there

pub decide-requires-clause-fits : goal.decide-requires-clause-fits
decide-requires-clause-fits c =
    let d = it_may_be_done c.args.self.now c.args.clock.now c.args.answer c.requires in
    let same = same_next c.args.self.now d.waits.own c.next.result.now d.waits.there c.next.ensures.there in
    let offered = c.stamp-offered.ensures ∙ sym (ap (λ o. o.stamp) same) in
    let later = next_is_later c.args.clock.now c.stamp-offered.result c.stamp_of-stamp.result c.stamp_of-stamp.ensures in
    subst (λ x. AreViews c.args.self.now.terms.requests c.args.self.now.offers (c.args.self.now.decisions ++ x ∷ []))
    (sym (c.did.ensures ∙ ap (λ s. did_decision c.args.answer c.stamp_of-stamp.result s) offered))
    (views_did c.args.self.now.terms.requests c.args.self.now.offers c.args.self.now.decisions d.waits.own c.args.answer c.stamp_of-stamp.result d.waits.there d.waits.open'
    (subst (λ p. answer_fits c.args.answer p ≡ true) (sym d.waits.payload_is) d.fits) (subst (λ s. s < c.stamp_of-stamp.result) offered later) c.next.ensures.link)

pub returns-clause-stamp : goal.returns-clause-stamp
returns-clause-stamp c = c.stamp_of-stamp.ensures ∙ ap (next_stamp c.args.clock.now) (c.stamp-offered.ensures ∙ sym (ap offer_stamp c.next.ensures.there))

pub returns-clause-views : goal.returns-clause-views
returns-clause-views c =
    let offered = c.stamp-offered.ensures ∙ sym (ap offer_stamp c.next.ensures.there) in
    let stamp = c.stamp_of-stamp.ensures ∙ ap (next_stamp c.args.clock.now) offered in
    c.decide.ensures.views
    ∙ ap (λ x. with_decision c.args.self.now x) (c.did.ensures ∙ ap (λ s. did_decision c.args.answer s c.stamp-offered.result) stamp
    ∙ ap (λ s. did_decision c.args.answer (next_stamp c.args.clock.now (offer_stamp (next_offer c.args.self.now))) s) offered)

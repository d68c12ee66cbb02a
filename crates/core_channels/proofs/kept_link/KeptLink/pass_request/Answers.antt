use Rattle.std.proofs.Common.{◌∙◌, ◌<◌, ◌^◌, [], ◌∷◌, ◌++◌, sym, ap, subst}
use Rattle.ac_base.specs.Stamps.{next_stamp}
use Rattle.ac_links.specs.Noted.{withdrawal_stamp, or_zero}
use Rattle.core_channels.specs.LinkViews.{AreViews}
use Rattle.core_channels.specs.Takes.{passed_decision, with_decision}
use Rattle.core_channels.specs.Requests.{next_offer}
use Rattle.core_channels.proofs.Fronts.{it_may_be_passed, next_within, same_next}
use Rattle.core_channels.proofs.Keeping.{views_pass}
use Rattle.core_channels.proofs.Stamping.{next_is_later}
use Rattle.core_channels.proofs.kept_link.KeptLink.pass_request.Goals as goal

pub next-requires : goal.next-requires
next-requires c = let d = it_may_be_passed c.args.self.now c.args.clock.now c.requires in next_within c.args.self.now d.1.own d.1.there

pub stamp_of-stamp-requires : goal.stamp_of-stamp-requires
stamp_of-stamp-requires c =
    let d = it_may_be_passed c.args.self.now c.args.clock.now c.requires in
    let same = same_next c.args.self.now d.1.own c.next.result.now d.1.there c.next.ensures.there in
    subst (λ x. next_stamp c.args.clock.now x < 2 ^ 60) (sym (c.withdrawal-since.ensures ∙ ap (λ o. or_zero o.withdrawn) (sym same) ∙ ap or_zero d.1.at)) d.1.stamp

pub decide-requires-clause-place : goal.decide-requires-clause-place
decide-requires-clause-place c = let d = it_may_be_passed c.args.self.now c.args.clock.now c.requires in next_within c.args.self.now d.1.own d.1.there

pub decide-requires-clause-fits : goal.decide-requires-clause-fits
decide-requires-clause-fits c =
    let d = it_may_be_passed c.args.self.now c.args.clock.now c.requires in
    let same = same_next c.args.self.now d.1.own c.next.result.now d.1.there c.next.ensures.there in
    let since = c.withdrawal-since.ensures ∙ ap (λ o. or_zero o.withdrawn) (sym same) ∙ ap or_zero d.1.at in
    let later = next_is_later c.args.clock.now c.withdrawal-since.result c.stamp_of-stamp.result c.stamp_of-stamp.ensures in
    subst (λ x. AreViews c.args.self.now.terms.requests c.args.self.now.offers (c.args.self.now.decisions ++ x ∷ []))
    (sym (c.passed.ensures ∙ ap (λ s. passed_decision c.stamp_of-stamp.result s) since))
    (views_pass c.args.self.now.terms.requests c.args.self.now.offers c.args.self.now.decisions d.1.own c.stamp_of-stamp.result d.1.by' d.1.there d.1.at
    (subst (λ s. s < c.stamp_of-stamp.result) since later) c.next.ensures.link)

pub returns-clause-stamp : goal.returns-clause-stamp
returns-clause-stamp c = c.stamp_of-stamp.ensures ∙ ap (next_stamp c.args.clock.now) (c.withdrawal-since.ensures ∙ sym (ap withdrawal_stamp c.next.ensures.there))

pub returns-clause-views : goal.returns-clause-views
returns-clause-views c =
    let since = c.withdrawal-since.ensures ∙ sym (ap withdrawal_stamp c.next.ensures.there) in
    let stamp = c.stamp_of-stamp.ensures ∙ ap (next_stamp c.args.clock.now) since in
    c.decide.ensures.views
    ∙ ap (λ x. with_decision c.args.self.now x) (c.passed.ensures ∙ ap (λ s. passed_decision s c.withdrawal-since.result) stamp
    ∙ ap (λ s. passed_decision (next_stamp c.args.clock.now (withdrawal_stamp (next_offer c.args.self.now))) s) since)

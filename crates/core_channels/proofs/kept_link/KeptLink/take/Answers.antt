use Rattle.std.proofs.Common.{◌≡◌, ◌∙◌, [], ◌∷◌, ◌++◌, Some, sym, ap, subst, length, slice_get}
use Rattle.ac_base.specs.Stamps.{stamp_after}
use Rattle.ac_links.specs.Noted.{offer_stamp, withdrawal_stamp, or_zero}
use Rattle.core_channels.specs.declared.answers.Receiving.TheVariants.{Took}
use Rattle.core_channels.specs.LinkViews.{IsLink, AreViews}
use Rattle.core_channels.specs.Takes.{message_of, passed_at, took_at, receiving_one, taken_decision, passed_decision, with_decision}
use Rattle.core_channels.proofs.Answering.{read_at, first_is_received}
use Rattle.core_channels.proofs.Keeping.{views_take, views_pass}
use Rattle.core_channels.proofs.Stamping.{stamp_is_later}
use Rattle.core_channels.proofs.kept_link.KeptLink.take.Goals as goal

pub decide-requires-clause-fits : goal.decide-requires-clause-fits
decide-requires-clause-fits c =
    let there = subst (λ v. slice_get v.offers c.len-number.result ≡ Some c.in-Some.offer.now) c.self.view_is
    (read_at c.deref.result.now c.self.inside.offers.items c.len-number.result c.in-Some.offer.now c.deref.ensures.value c.in-Some.ensures.lookup.3.0 c.in-Some.ensures.lookup.1) in
    let count = c.len-number.ensures ∙ c.self.inside.decisions.ok.0 ∙ ap (λ v. length v.decisions) c.self.view_is in
    let withdrawn = sym c.withdrawn.ensures ∙ c.in-Some-withdrawn.is in
    let stamp = sym c.after.ensures ∙ c.in-Some-after.is in
    rw c.passed.ensures
    (views_pass c.args.self.now.terms.requests c.args.self.now.offers c.args.self.now.decisions c.in-Some.offer.now c.in-Some-after.stamp c.in-Some-withdrawn.withdrawn
    (subst (λ k. slice_get c.args.self.now.offers k ≡ Some c.in-Some.offer.now) count there) withdrawn
    (stamp_is_later c.args.clock.now c.in-Some-withdrawn.withdrawn c.in-Some-after.stamp stamp) (subst IsLink c.self.view_is c.self.invariant.views))

pub returns-in-Some-withdrawn-clause-answer : goal.returns-in-Some-withdrawn-clause-answer
returns-in-Some-withdrawn-clause-answer c =
    let there = subst (λ v. slice_get v.offers c.len-number.result ≡ Some c.in-Some.offer.now) c.self.view_is
    (read_at c.deref.result.now c.self.inside.offers.items c.len-number.result c.in-Some.offer.now c.deref.ensures.value c.in-Some.ensures.lookup.3.0 c.in-Some.ensures.lookup.1) in
    let count = c.len-number.ensures ∙ c.self.inside.decisions.ok.0 ∙ ap (λ v. length v.decisions) c.self.view_is in
    let withdrawn = sym c.withdrawn.ensures ∙ c.in-Some-withdrawn.is in
    let stamp = sym c.after.ensures ∙ c.in-Some-after.is in
    sym (first_is_received c.args.self.now c.args.clock.now c.len-number.result c.in-Some.offer.now count there
    ∙ ap (λ q. receiving_one c.args.clock.now c.len-number.result c.in-Some.offer.now q) withdrawn
    ∙ ap (λ q. passed_at c.len-number.result q) stamp)

pub returns-in-Some-withdrawn-clause-views : goal.returns-in-Some-withdrawn-clause-views
returns-in-Some-withdrawn-clause-views c =
    let there = subst (λ v. slice_get v.offers c.len-number.result ≡ Some c.in-Some.offer.now) c.self.view_is
    (read_at c.deref.result.now c.self.inside.offers.items c.len-number.result c.in-Some.offer.now c.deref.ensures.value c.in-Some.ensures.lookup.3.0 c.in-Some.ensures.lookup.1) in
    let withdrawn = sym c.withdrawn.ensures ∙ c.in-Some-withdrawn.is in
    c.decide.ensures.views
    ∙ ap (λ d. with_decision c.args.self.now d) (c.passed.ensures ∙ ap (λ w. passed_decision c.in-Some-after.stamp w) (sym (ap withdrawal_stamp there ∙ ap or_zero withdrawn)))

pub returns-in_default-after-2-clause-answer : goal.returns-in_default-after-2-clause-answer
returns-in_default-after-2-clause-answer c =
    let there = subst (λ v. slice_get v.offers c.len-number.result ≡ Some c.in-Some.offer.now) c.self.view_is
    (read_at c.deref.result.now c.self.inside.offers.items c.len-number.result c.in-Some.offer.now c.deref.ensures.value c.in-Some.ensures.lookup.3.0 c.in-Some.ensures.lookup.1) in
    let count = c.len-number.ensures ∙ c.self.inside.decisions.ok.0 ∙ ap (λ v. length v.decisions) c.self.view_is in
    let stands = sym c.withdrawn.ensures ∙ c.in_default-withdrawn.is in
    let stamp = ap (λ d. stamp_after c.args.clock.now d) (sym c.stamp-offered.ensures) ∙ sym c.after-2.ensures ∙ c.in_default-after-2.is in
    sym (first_is_received c.args.self.now c.args.clock.now c.len-number.result c.in-Some.offer.now count there
    ∙ ap (λ q. receiving_one c.args.clock.now c.len-number.result c.in-Some.offer.now q) stands
    ∙ ap (λ q. took_at c.len-number.result c.in-Some.offer.now.payload q) stamp)

pub decide-requires-2-clause-fits : goal.decide-requires-2-clause-fits
decide-requires-2-clause-fits c =
    let there = subst (λ v. slice_get v.offers c.len-number.result ≡ Some c.in-Some.offer.now) c.self.view_is
    (read_at c.deref.result.now c.self.inside.offers.items c.len-number.result c.in-Some.offer.now c.deref.ensures.value c.in-Some.ensures.lookup.3.0 c.in-Some.ensures.lookup.1) in
    let count = c.len-number.ensures ∙ c.self.inside.decisions.ok.0 ∙ ap (λ v. length v.decisions) c.self.view_is in
    let stands = sym c.withdrawn.ensures ∙ c.in_default-withdrawn.is in
    let stamp = ap (λ d. stamp_after c.args.clock.now d) (sym c.stamp-offered.ensures) ∙ sym c.after-2.ensures ∙ c.in-Some-after-2.is in
    let value = c.message_of-value.ensures ∙ ap message_of c.payload.ensures in
    let made = c.took.ensures ∙ ap (λ x. taken_decision x c.in-Some-after-2.stamp c.stamp-offered.result) value
    ∙ ap (λ x. taken_decision (message_of c.in-Some.offer.now.payload) c.in-Some-after-2.stamp x) c.stamp-offered.ensures in
    let link = subst IsLink c.self.view_is c.self.invariant.views in
    subst (λ d. AreViews c.args.self.now.terms.requests c.args.self.now.offers (c.args.self.now.decisions ++ d ∷ [])) (sym made)
    (subst (λ r. AreViews r c.args.self.now.offers (c.args.self.now.decisions ++ taken_decision (message_of c.in-Some.offer.now.payload) c.in-Some-after-2.stamp c.in-Some.offer.now.stamp ∷ []))
    (sym c.requires)
    (views_take c.args.self.now.offers c.args.self.now.decisions c.in-Some.offer.now c.in-Some-after-2.stamp
    (subst (λ k. slice_get c.args.self.now.offers k ≡ Some c.in-Some.offer.now) count there) stands
    (stamp_is_later c.args.clock.now c.in-Some.offer.now.stamp c.in-Some-after-2.stamp stamp)
    (subst (λ r. AreViews r c.args.self.now.offers c.args.self.now.decisions) c.requires link)))

pub returns-clause-answer : goal.returns-clause-answer
returns-clause-answer c =
    let there = subst (λ v. slice_get v.offers c.len-number.result ≡ Some c.in-Some.offer.now) c.self.view_is
    (read_at c.deref.result.now c.self.inside.offers.items c.len-number.result c.in-Some.offer.now c.deref.ensures.value c.in-Some.ensures.lookup.3.0 c.in-Some.ensures.lookup.1) in
    let count = c.len-number.ensures ∙ c.self.inside.decisions.ok.0 ∙ ap (λ v. length v.decisions) c.self.view_is in
    let stands = sym c.withdrawn.ensures ∙ c.in_default-withdrawn.is in
    let stamp = ap (λ d. stamp_after c.args.clock.now d) (sym c.stamp-offered.ensures) ∙ sym c.after-2.ensures ∙ c.in-Some-after-2.is in
    let value = c.message_of-value.ensures ∙ ap message_of c.payload.ensures in
    sym (first_is_received c.args.self.now c.args.clock.now c.len-number.result c.in-Some.offer.now count there
    ∙ ap (λ q. receiving_one c.args.clock.now c.len-number.result c.in-Some.offer.now q) stands
    ∙ ap (λ q. took_at c.len-number.result c.in-Some.offer.now.payload q) stamp
    ∙ ap (λ x. Took c.len-number.result x c.in-Some-after-2.stamp) (sym value))

pub returns-clause-views : goal.returns-clause-views
returns-clause-views c =
    let there = subst (λ v. slice_get v.offers c.len-number.result ≡ Some c.in-Some.offer.now) c.self.view_is
    (read_at c.deref.result.now c.self.inside.offers.items c.len-number.result c.in-Some.offer.now c.deref.ensures.value c.in-Some.ensures.lookup.3.0 c.in-Some.ensures.lookup.1) in
    c.decide-2.ensures.views
    ∙ ap (λ d. with_decision c.args.self.now d) (c.took.ensures
    ∙ ap (λ x. taken_decision c.message_of-value.result c.in-Some-after-2.stamp x) (c.stamp-offered.ensures ∙ sym (ap offer_stamp there)))

use Rattle.std.proofs.Common.{◌≡◌, ◌∙◌, ◌≤◌, ◌<◌, Some, None, sym, ap, subst, arith, length, slice_get}
use Rattle.std.proofs.lemmas.Option.{slice_get_past}
use Rattle.ac_base.specs.Stamps.{stamp_after}
use Rattle.ac_links.specs.Noted.{offer_stamp, decision_stamp}
use Rattle.core_channels.specs.Withdraws.{own_withdrawal, late_withdrawal, withdrawing_of}
use Rattle.core_channels.proofs.Answering.{read_at}
use Rattle.core_channels.proofs.Keeping.{views_withdraw}
use Rattle.core_channels.proofs.Leads.{lead_withdrawn}
use Rattle.core_channels.proofs.Opens.{open_withdrawn}
use Rattle.core_channels.proofs.Stamping.{stamp_rises}
use Rattle.core_channels.proofs.kept_link.KeptLink.withdraw.Goals as goal

pub returns-in_default-clause-link : goal.returns-in_default-clause-link
returns-in_default-clause-link c =
    let made = subst (λ v. offer_stamp (slice_get v.offers c.args.number) ≤ c.args.clock.now) (sym c.self.view_is) c.requires.later in
    let rises = stamp_rises c.args.clock.now 0 c.in-Some-after.stamp (sym c.after.ensures ∙ c.in-Some-after.is) in
    let later : offer_stamp (slice_get c.self.inside.offers.items c.args.number) < c.in-Some-after.stamp = omega arith in
    rw c.note_withdrawn.ensures.offers
    (views_withdraw c.self.inside.terms.requests c.self.inside.offers.items c.self.inside.decisions.items c.args.number c.in-Some-after.stamp
    (subst (λ l. length l ≤ c.args.number) c.deref.ensures.value c.in_default.ensures.lookup.3) later c.self.invariant.views)

pub invariant_of-self : goal.invariant_of-self
invariant_of-self c =
    record {
      views = returns-in_default-clause-link c;
      lead = rw c.note_withdrawn.ensures.offers (c.self.invariant.lead ∙ sym (lead_withdrawn c.self.inside.offers.items c.args.number c.in-Some-after.stamp));
      open' = rw c.note_withdrawn.ensures.offers
          (let o = c.self.invariant.open' in let m = open_withdrawn c.self.inside.offers.items c.args.number c.in-Some-after.stamp in omega arith);
      places = rw c.note_withdrawn.ensures.len c.self.invariant.places;
    }

pub returns-in_default-clause-answer : goal.returns-in_default-clause-answer
returns-in_default-clause-answer c =
    let past = subst (λ l. length l ≤ c.args.number) c.deref.ensures.value c.in_default.ensures.lookup.3 in
    let undecided = subst (λ v. slice_get v.decisions c.args.number ≡ None) c.self.view_is (slice_get_past c.self.inside.decisions.items c.args.number past) in
    sym (ap (λ q. withdrawing_of c.args.clock.now q) undecided ∙ ap own_withdrawal (sym c.after.ensures ∙ c.in-Some-after.is))

pub know-requires-clause-stamp : goal.know-requires-clause-stamp
know-requires-clause-stamp c =
    let there = subst (λ v. slice_get v.decisions c.args.number ≡ Some c.in-Some.decision.now) c.self.view_is
    (read_at c.deref.result.now c.self.inside.decisions.items c.args.number c.in-Some.decision.now c.deref.ensures.value c.in-Some.ensures.lookup.3.0 c.in-Some.ensures.lookup.1) in
    ap decision_stamp there ∙ sym c.stamp-decided.ensures

pub returns-in_default-after-2-clause-answer : goal.returns-in_default-after-2-clause-answer
returns-in_default-after-2-clause-answer c =
    let there = subst (λ v. slice_get v.decisions c.args.number ≡ Some c.in-Some.decision.now) c.self.view_is
    (read_at c.deref.result.now c.self.inside.decisions.items c.args.number c.in-Some.decision.now c.deref.ensures.value c.in-Some.ensures.lookup.3.0 c.in-Some.ensures.lookup.1) in
    let stamp = ap (λ d. stamp_after c.args.clock.now d) (sym c.stamp-decided.ensures) ∙ sym c.after-2.ensures ∙ c.in_default-after-2.is in
    sym (ap (λ q. withdrawing_of c.args.clock.now q) there ∙ ap late_withdrawal stamp)

pub returns-clause-answer : goal.returns-clause-answer
returns-clause-answer c =
    let there = subst (λ v. slice_get v.decisions c.args.number ≡ Some c.in-Some.decision.now) c.self.view_is
    (read_at c.deref.result.now c.self.inside.decisions.items c.args.number c.in-Some.decision.now c.deref.ensures.value c.in-Some.ensures.lookup.3.0 c.in-Some.ensures.lookup.1) in
    let stamp = ap (λ d. stamp_after c.args.clock.now d) (sym c.stamp-decided.ensures) ∙ sym c.after-2.ensures ∙ c.in-Some-after-2.is in
    sym (ap (λ q. withdrawing_of c.args.clock.now q) there ∙ ap late_withdrawal stamp)

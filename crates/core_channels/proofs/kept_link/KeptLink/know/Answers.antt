use Rattle.std.proofs.Common.{◌∙◌, sym, ap, subst, ◌<◌, ◌≤◌, ◌≡◌, length, slice_get}
use Rattle.ac_links.specs.Views.{owner_lead}
use Rattle.ac_links.specs.Noted.{decision_stamp}
use Rattle.core_channels.proofs.Keeping.{views_known}
use Rattle.core_channels.proofs.Opens.{open_known}
use Rattle.core_channels.proofs.kept_link.KeptLink.know.Goals as goal

pub returns-clause-link : goal.returns-clause-link
returns-clause-link c = rw c.note_known.ensures.offers
    (views_known c.self.inside.terms.requests c.self.inside.offers.items c.self.inside.decisions.items c.args.number c.args.stamp
    (subst (λ v. c.args.number < length v.decisions) (sym c.self.view_is) c.requires.decided)
    (subst (λ v. decision_stamp (slice_get v.decisions c.args.number) ≡ c.args.stamp) (sym c.self.view_is) c.requires.stamp)
    c.self.invariant.views)

pub invariant_of-self : goal.invariant_of-self
invariant_of-self c = record {
  views = returns-clause-link c;
  lead = c.lead_from-self-inside.ensures ∙ ap owner_lead c.as_slice.ensures.value;
  open' = rw c.note_known.ensures.offers (subst (λ k. c.self.inside.open ≤ k) (sym (open_known c.self.inside.offers.items c.args.number c.args.stamp)) c.self.invariant.open');
  places = rw c.note_known.ensures.len c.self.invariant.places;
}

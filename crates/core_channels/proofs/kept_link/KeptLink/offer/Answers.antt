use Rattle.std.proofs.Common.{◌≡◌, ◌∙◌, refl, sym, subst, true, arith}
use Rattle.std.proofs.lemmas.Bool.Decides.{nat_tests}
use Rattle.ac_links.specs.Payloads.{is_payload}
use Rattle.ac_links.specs.Views.{owner_offer}
use Rattle.core_channels.proofs.Keeping.{views_offer}
use Rattle.core_channels.proofs.Leads.{lead_push}
use Rattle.core_channels.proofs.Opens.{open_push}
use Rattle.core_channels.proofs.kept_link.KeptLink.offer.Goals as goal

pub returns-clause-link : goal.returns-clause-link
returns-clause-link c = rw (c.push_reserved.ensures.items, c.new.ensures)
    (views_offer c.self.inside.terms.requests c.self.inside.offers.items c.self.inside.decisions.items c.args.payload c.in-Some.stamp
    (subst (λ v. is_payload v.terms.requests c.args.payload ≡ true) (sym c.self.view_is) c.requires) c.self.invariant.views)

pub invariant_of-self : goal.invariant_of-self
invariant_of-self c = record {
  views = returns-clause-link c;
  lead = rw (c.push_reserved.ensures.items, c.new.ensures)
      (c.self.invariant.lead ∙ sym (lead_push c.self.inside.offers.items (owner_offer c.args.payload c.in-Some.stamp) refl));
  open' = rw (c.push_reserved.ensures.items, c.new.ensures)
      (let o = c.self.invariant.open' in let m = open_push c.self.inside.offers.items (owner_offer c.args.payload c.in-Some.stamp) in omega arith);
  places = let e = c.push_reserved.ensures.len in let s = c.has_spare.ensures in let f = c.if-not-has_spare.false in grind (arith, nat_tests);
}

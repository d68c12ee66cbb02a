-- What always holds of the fields of a link.
use Rattle.std.specs.Prelude.{◌≡◌, ◌≤◌, vec_len, vec_capacity}
use Rattle.ac_links.specs.Views.{owner_lead}
use Rattle.ac_links.specs.Replies.{least_open}
use Rattle.core_channels.specs.declared.kept_link.KeptLink.TheInside.{Inside}
use Rattle.core_channels.specs.LinkViews.{AreViews}

-- its views are those of a link, the count of leading known offers is kept, no reply can come to the offers before `open`, and each offer
-- has a place for its decision
pub record IsKept (it : Inside) : Type 0 where
  pub views : AreViews it.terms.requests it.offers.items it.decisions.items
  pub lead : it.lead ≡ owner_lead it.offers.items
  pub open' : it.open ≤ least_open it.offers.items
  pub places : vec_len it.offers ≤ vec_capacity it.decisions

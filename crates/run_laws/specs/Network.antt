-- The links of a run as its cores share them, and what a core has of each.
use Rattle.std.specs.Prelude.{◌≡◌, ℕ, ◌<◌, List, length, Option, slice_get}
use Rattle.std.specs.List.{All}
use Rattle.stack_code.specs.declared.parts.ChannelEnds.{ChannelEnds}
use Rattle.stack_code.specs.Parts.{Parts}
use Rattle.ac_links.specs.declared.payloads.Terms.{Terms}
use Rattle.ac_base.specs.declared.entry.Payload.{Payload}
use Rattle.ac_base.specs.declared.entry.Event.{Event}
use Rattle.ac_links.specs.Link.{link_of}
use Rattle.ac_links.specs.Views.{OwnerOffer, PeerDecision}
use Rattle.ac_links.specs.Noted.{request_of}
use Rattle.ac_links.specs.Party.{LinkEnd}
use Rattle.core_channels.specs.LinkViews.{LinkViews, IsLink, link_at, terms_at}
use Rattle.run_laws.specs.Hands.{heard_at}
use Rattle.core_ports.specs.Sides.{side_of}
use Rattle.run_laws.specs.Ends.{end_of}

-- ---- what is seen of the links

abbrev pub terms_in : List LinkViews → ℕ → Terms
terms_in links l = (link_at links l).terms

abbrev pub offers_in : List LinkViews → ℕ → List OwnerOffer
offers_in links l = (link_at links l).offers

abbrev pub decisions_in : List LinkViews → ℕ → List PeerDecision
decisions_in links l = (link_at links l).decisions

-- the request that an event of the worker answers, as the owner of its link has offered it
abbrev pub request_in : List LinkViews → Event → Option Payload
request_in links e = request_of (offers_in links (link_of e)) e

-- the ends of a core
abbrev pub ends_in : List ChannelEnds → ℕ → List LinkViews → ℕ → LinkEnd
ends_in channels core links l = end_of (side_of channels core l) (slice_get links l)

-- the greatest stamp of the other side that a core sees on link l
abbrev pub heard_in : List ChannelEnds → ℕ → List LinkViews → ℕ → ℕ
heard_in channels core links l = heard_at (link_at links l) (side_of channels core l)

-- one link for each capacity of the code, with its terms, of which the two views agree
pub record AreLinksOf (code : Parts) (links : List LinkViews) : Type 0 where
  pub count : length links ≡ length code.capacities
  pub terms : (l : ℕ) → l < length code.capacities → terms_in links l ≡ terms_at (length code.ends) code.capacities l
  pub agree : All IsLink links

-- When the ends that the parties of a run hold are settled: the two ends of each link are one link.
use Rattle.std.specs.Prelude.{◌≡◌, ℕ, ◌<◌, List, length, false}
use Rattle.stack_code.specs.Parts.{Parts}
use Rattle.ac_links.specs.declared.payloads.Terms.{Terms}
use Rattle.ac_links.specs.Views.{OwnerOffer, PeerDecision}
use Rattle.ac_links.specs.Party.{LinkEnd}
use Rattle.ac_links.specs.Party.LinkEnd.{Owns, Decides, Absent}
use Rattle.core_channels.specs.LinkViews.{AreViews, terms_at}
use Rattle.core_ports.specs.PortsTold.{PortsTold}
use Rattle.core_ports.specs.declared.side.Side.TheVariants.{Neither}
use Rattle.core_ports.specs.Sides.{side_of}
use Rattle.file_ops.specs.Agreement.{is_own}
use Rattle.settled_run.specs.Ends.{owner_end, peer_end}

-- one end has offers, the other decisions, and the two are the views of one link with these terms
pub record IsSettledLink (terms : Terms) (owner peer : LinkEnd) : Type 0 where
  pub offers : List OwnerOffer
  pub decisions : List PeerDecision
  pub owns : owner ≡ Owns offers
  pub decides : peer ≡ Decides decisions
  pub views : AreViews terms.requests offers decisions

-- each link of the code is settled, and nobody has an end of a link that is not its own
pub record AreSettledEnds (code : Parts) (ports : ℕ → PortsTold) (worker : ℕ → LinkEnd) : Type 0 where
  pub links : (l : ℕ) → l < length code.capacities
      → IsSettledLink (terms_at (length code.ends) code.capacities l) (owner_end code ports l) (peer_end code ports worker l)
  pub cores : (k l : ℕ) → k < length code.entries → side_of code.ends k l ≡ Neither → (ports k).ends l ≡ Absent
  pub others : (l : ℕ) → is_own (length code.ends) (length code.entries) l ≡ false → worker l ≡ Absent

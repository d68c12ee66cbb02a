-- What the ports of a core have to be: it has its side of each link.
use Rattle.std.specs.Prelude.{◌≡◌, ℕ, ◌+◌, length, true}
use Rattle.ac_links.specs.declared.payloads.Terms.{Terms}
use Rattle.ac_links.specs.Party.{LinkEnd}
use Rattle.core_channels.specs.LinkViews.{terms_at}
use Rattle.core_ports.specs.Ends.{is_owner, is_peer}
use Rattle.core_ports.specs.declared.side.Side.TheVariants.{Owner, Peer, Neither}
use Rattle.core_ports.specs.Sides.{side_of}
use Rattle.stack_code.specs.Parts.{Parts}

-- the channels, and one link for the requests of each core
abbrev pub links_of : Parts → ℕ
links_of code = length code.ends + length code.entries

-- the core has its ends of the code's links, and of each of these links it knows the terms that the code gives it
pub record ArePortsOf (code : Parts) (core : ℕ) (terms : ℕ → Terms) (ends : ℕ → LinkEnd) : Type 0 where
  pub coded : (l : ℕ) → (side_of code.ends core l ≡ Neither → ⊥) → terms l ≡ terms_at (length code.ends) code.capacities l
  pub owner : (l : ℕ) → side_of code.ends core l ≡ Owner → is_owner (ends l) ≡ true
  pub peer : (l : ℕ) → side_of code.ends core l ≡ Peer → is_peer (ends l) ≡ true

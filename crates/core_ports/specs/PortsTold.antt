-- What clauses see of the ports of a core.
use Rattle.std.specs.Prelude.{ℕ, Bool}
use Rattle.ac_links.specs.declared.payloads.Terms.{Terms}
use Rattle.ac_links.specs.Party.{LinkEnd}
use Rattle.core_ports.specs.AtHand.{AtHand}

pub record PortsTold : Type 0 where
  -- of each link its terms, the core's end, and what is told to be at hand
  pub terms : ℕ → Terms
  pub ends : ℕ → LinkEnd
  pub at_hand : ℕ → AtHand
  -- the greatest stamp of the other side that was seen on it
  pub heard : ℕ → ℕ
  -- how often it was polled, and how often an offer on it was tried
  pub polls : ℕ → ℕ
  pub tries : ℕ → ℕ
  -- a call has answered that all stamps are used
  pub full : Bool

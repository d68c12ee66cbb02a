-- Cores and a worker, each with its own ends: when they agree with their journals, and when they are done.
use Rattle.std.specs.Prelude.{◌≡◌, ◌⊎◌, ◌<◌, ◌≤◌, ℕ, List, length, None, Some, true, slice_get}
use Rattle.std.specs.List.{AllByRecursion}
use Rattle.ac_base.specs.declared.entry.Entry.{Entry}
use Rattle.ac_base.specs.Stamps.{stamp_after}
use Rattle.stack_code.specs.Parts.{Parts}
use Rattle.ac_links.specs.declared.payloads.Terms.{Terms}
use Rattle.ac_links.specs.Journals.{last_of}
use Rattle.ac_links.specs.Views.{OwnerOffer, PeerDecision}
use Rattle.ac_links.specs.Party.{LinkEnd, PartyAgrees}
use Rattle.ac_links.specs.Party.LinkEnd.{Owns, Decides}
use Rattle.core_driver.specs.Sides.{ArePortsOf}
use Rattle.core_ports.specs.PortsTold.{PortsTold}
use Rattle.run_laws.specs.Cores.{CoreView, HasNoStamp, IsCoreOf}
use Rattle.run_laws.specs.GoingOn.{HasStopped}
use Rattle.settled_run.specs.Ends.{greatest_at, owner_end}

-- ---- cores

-- it is the core of this number, it has its ends of the code's links, and its journal has what was done there
pub record HasPorts (code : Parts) (bound number : ℕ) (c : CoreView) (told : PortsTold) : Type 0 where
  pub core : IsCoreOf code bound number c
  pub ports : ArePortsOf code number told.terms told.ends
  pub agrees : PartyAgrees told.terms number told.ends c.journal

-- the cores of the code in order, with their ports
pub record AreCoresWith (code : Parts) (bound : ℕ) (cores : List CoreView) (ports : ℕ → PortsTold) : Type 0 where
  pub count : length cores ≡ length code.entries
  pub each : (k : ℕ) (c : CoreView) → slice_get cores k ≡ Some c → HasPorts code bound k c (ports k)

-- it has come to its end or is idle, and nothing is at hand for it; or no stamp is left to it
abbrev pub CanGoNoFurther : CoreView → PortsTold → Type 0
CanGoNoFurther c told = HasStopped c told.terms told.ends told.at_hand ⊎ HasNoStamp c told.heard

-- ---- the worker

-- it is the party after the cores, its links carry requests, and its journal has what was done at its ends, in turn 0
pub record WorkerHolds (code : Parts) (terms : ℕ → Terms) (worker : ℕ → LinkEnd) (entries : List Entry) : Type 0 where
  pub requests : (l : ℕ) → length code.ends ≤ l → l < length code.capacities → (terms l).requests ≡ true
  pub agrees : PartyAgrees terms (length code.entries) worker entries
  pub turns : AllByRecursion (λ e. e.turn ≡ 0) entries

-- each request is decided
abbrev pub AllAreDecided : Parts → (ℕ → PortsTold) → (ℕ → LinkEnd) → Type 0
AllAreDecided code ports worker = (l : ℕ) (offers : List OwnerOffer) (decisions : List PeerDecision) → length code.ends ≤ l
    → l < length code.capacities → owner_end code ports l ≡ Owns offers → worker l ≡ Decides decisions
    → length offers ≤ length decisions

-- no stamp is left for an entry that answers some stamp, which is at most the greatest at the other end of one of its links
pub record NoStampIsLeft (code : Parts) (ports : ℕ → PortsTold) (entries : List Entry) : Type 0 where
  pub link : ℕ
  pub after : length code.ends ≤ link
  pub within : link < length code.capacities
  pub heard : ℕ
  pub most : heard ≤ greatest_at (owner_end code ports link)
  pub full : stamp_after (last_of 0 entries) heard ≡ None

abbrev pub WorkerCanGoNoFurther : Parts → (ℕ → PortsTold) → (ℕ → LinkEnd) → List Entry → Type 0
WorkerCanGoNoFurther code ports worker entries = AllAreDecided code ports worker ⊎ NoStampIsLeft code ports entries

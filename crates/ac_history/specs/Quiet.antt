-- When a run is quiet: each core has stopped, and nothing on any link waits for one that is idle, or for the worker.
use Rattle.std.specs.Prelude.{◌≡◌, ℕ, ◌-◌, ◌<◌, ◌≤◌, List, [], ◌∷◌, length, Bool}
use Rattle.std.specs.Prelude.{true, false, not, ◌&&◌, ◌||◌, nat_eq, slice_get, Option, Some, None}
use Rattle.std.specs.List.{list_any}
use Rattle.ac_base.specs.declared.ends.Phase.{Phase}
use Rattle.ac_base.specs.declared.ends.Phase.TheVariants.{Waiting, Offered, Started}
use Rattle.ac_base.specs.declared.ends.CoreEnd.{CoreEnd}
use Rattle.ac_base.specs.Report.{is_stalled}
use Rattle.ac_base.specs.declared.entry.Stamped.{Stamped}
use Rattle.ac_links.specs.Views.{OwnerOffer, PeerDecision}
use Rattle.ac_links.specs.AtRest.{has_front, OwnerHasNothing, PeerHasNothing, OwnerRests, PeerRests}
use Rattle.ac_history.specs.History.{Past, link_at, terms_of, after}
use Rattle.ac_history.specs.declared.quiet.LinkParties.{LinkParties}

-- ---- a core that has stopped

-- it has ended, or it is idle
abbrev pub has_stopped : CoreEnd → Bool
has_stopped c = not (is_stalled c.word) || c.idle

abbrev pub is_waiting : Phase → Bool
is_waiting Waiting = true
is_waiting Offered = false
is_waiting Started = false

-- an operation of it on link l waits: to be offered, or for an offer to take
abbrev pub waits_on : ℕ → CoreEnd → Bool
waits_on l c = list_any (λ w. nat_eq w.link l && is_waiting w.phase) c.waiting

-- ---- by the links, where `owner` and `peer` tell the two parties of each

-- the links and the stamps after all of these entries
abbrev pub after_all_of : Past → List Stamped → Past
after_all_of past [] = past
after_all_of past (e ∷ es) = after_all_of (after past e) es

-- core k has stopped; if it is idle, nothing has become of its offers that it has not had, it waits to offer only where there is no room,
-- and for an offer only where there is none
pub record CoreIsQuiet (owner peer : ℕ → ℕ) (past : Past) (k : ℕ) (c : CoreEnd) : Type 0 where
  pub stopped : has_stopped c ≡ true
  pub owns : c.idle ≡ true → (l : ℕ) → l < length past.links → owner l ≡ k
      → OwnerHasNothing (terms_of past.capacities past.channels l) (waits_on l c) (link_at past l)
  pub decides : c.idle ≡ true → (l : ℕ) → l < length past.links → peer l ≡ k → PeerHasNothing (waits_on l c) (link_at past l)

-- each core is quiet, and no request is left undone
pub record IsQuiet (owner peer : ℕ → ℕ) (past : Past) (cores : List CoreEnd) : Type 0 where
  pub core : (k : ℕ) (c : CoreEnd) → slice_get cores k ≡ Some c → CoreIsQuiet owner peer past k c
  pub worker : (l : ℕ) → l < length past.links → past.channels ≤ l → has_front (link_at past l) ≡ false

-- ---- the two parties of each link, as a list has them

abbrev pub owner_at : Option LinkParties → ℕ
owner_at None = 0
owner_at (Some p) = p.owner

-- the party that makes the offers of link l
abbrev pub owner_in : List LinkParties → ℕ → ℕ
owner_in parties l = owner_at (slice_get parties l)

abbrev pub peer_at : Option LinkParties → ℕ
peer_at None = 0
peer_at (Some p) = p.peer

-- the party that takes the offers of link l
abbrev pub peer_in : List LinkParties → ℕ → ℕ
peer_in parties l = peer_at (slice_get parties l)

-- ---- by the views of the two sides of each link

-- core k has stopped, and if it is idle, it rests at each of its ends
pub record CoreRests (capacities : List ℕ) (cores : ℕ) (owner peer : ℕ → ℕ) (offers : ℕ → List OwnerOffer)
    (decisions : ℕ → List PeerDecision) (k : ℕ) (c : CoreEnd) : Type 0 where
  pub stopped : has_stopped c ≡ true
  pub owns : c.idle ≡ true → (l : ℕ) → l < length capacities → owner l ≡ k
      → OwnerRests (terms_of capacities (length capacities - cores) l) (waits_on l c) (offers l) (decisions l)
  pub decides : c.idle ≡ true → (l : ℕ) → l < length capacities → peer l ≡ k → PeerRests (waits_on l c) (offers l) (decisions l)

-- each core rests, and so does the worker, which always waits for requests
pub record PartiesRest (capacities : List ℕ) (cores : ℕ) (owner peer : ℕ → ℕ) (offers : ℕ → List OwnerOffer)
    (decisions : ℕ → List PeerDecision) (stops : List CoreEnd) : Type 0 where
  pub core : (k : ℕ) (c : CoreEnd) → slice_get stops k ≡ Some c → CoreRests capacities cores owner peer offers decisions k c
  pub worker : (l : ℕ) → l < length capacities → peer l ≡ cores → PeerRests true (offers l) (decisions l)

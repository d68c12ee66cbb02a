-- All parties, each with its ends and its journal, on links whose two ends agree.
use Rattle.std.specs.Prelude.{◌≡◌, ℕ, suc, ◌-◌, ◌<◌, List, [], length, slice_index_or, nat_le, ◌≢◌, ◌≤◌}
use Rattle.std.specs.List.{AllByRecursion}
use Rattle.ac_base.specs.declared.entry.Entry.{Entry}
use Rattle.ac_links.specs.Views.{OwnerOffer, PeerDecision, ViewsAgree}
use Rattle.ac_links.specs.Party.{LinkEnd, PartyAgrees}
use Rattle.ac_links.specs.Party.LinkEnd.{Owns, Decides, Absent}
use Rattle.ac_history.specs.History.{terms_of}
use Rattle.ac_history.specs.Network.{Pair, IsPeer, worker_entries}

-- the parties, each with its journal, and the links, each with its two ends
pub record PartiesAgree (capacities : List ℕ) (cores : ℕ) (owner peer : ℕ → ℕ) (ends : ℕ → ℕ → LinkEnd)
    (offers : ℕ → List OwnerOffer) (decisions : ℕ → List PeerDecision) (js : List (List Entry)) : Type 0 where
  pub parties : length js ≡ suc cores
  pub party : (p : ℕ) → PartyAgrees (terms_of capacities (length capacities - cores)) p (ends p) (slice_index_or js p [])
  pub owns : (l : ℕ) → l < length capacities → ends (owner l) l ≡ Owns (offers l)
  pub decides : (l : ℕ) → l < length capacities → ends (peer l) l ≡ Decides (decisions l)
  pub absent : (l p : ℕ) → l < length capacities → p ≢ owner l → p ≢ peer l → ends p l ≡ Absent
  pub beyond : (l p : ℕ) → length capacities ≤ l → ends p l ≡ Absent
  pub apart : (l : ℕ) → l < length capacities → owner l ≢ peer l
  pub core : (l : ℕ) → l < length capacities → owner l < cores
  pub kind : (l : ℕ) → l < length capacities → IsPeer cores (nat_le (length capacities - cores) l) (peer l)
  pub both : (l : ℕ) → l < length capacities → ViewsAgree (offers l) (decisions l)
  pub turns : AllByRecursion (λ e. e.entry.turn ≡ 0) (worker_entries cores js)

-- the two ends of link l
abbrev pub pair_of : List ℕ → ℕ → (ℕ → ℕ) → (ℕ → ℕ) → (ℕ → List OwnerOffer) → (ℕ → List PeerDecision) → ℕ → Pair
pair_of capacities cores owner peer offers decisions l = record {
  terms = terms_of capacities (length capacities - cores) l;
  owner = owner l;
  peer = peer l;
  offers = offers l;
  decisions = decisions l;
}

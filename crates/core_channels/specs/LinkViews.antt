-- The links of a run, each as its two sides know it.
use Rattle.std.specs.Prelude.{◌≡◌, ℕ, ◌<◌, List, [], length, Bool, true, false, IfSome, nat_le, slice_index, slice_index_or, slice_set}
use Rattle.std.specs.List.{All}
use Rattle.ac_links.specs.declared.payloads.Terms.{Terms}
use Rattle.ac_links.specs.Payloads.{is_payload}
use Rattle.ac_links.specs.Views.{OwnerOffer, PeerDecision, ViewsAgree}
use Rattle.core_channels.specs.declared.counts.Call.{Call}
use Rattle.core_channels.specs.declared.counts.Counts.{Counts}
use Rattle.core_channels.specs.Counts.{no_calls, counts_after}

-- one link: its terms, what its owner has offered and knows, what its peer has decided, for how many more offers it has a place,
-- and how often its sides have called
pub record LinkViews : Type 0 where
  pub terms : Terms
  pub offers : List OwnerOffer
  pub decisions : List PeerDecision
  pub spare : ℕ
  pub counts : Counts

-- an offer is of a payload that its link carries, and was withdrawn after it was made
pub record IsOffer (requests : Bool) (o : OwnerOffer) : Type 0 where
  pub carried : is_payload requests o.payload ≡ true
  pub later : IfSome o.withdrawn (λ w. o.stamp < w)

-- the two views agree, and each offer is one of the link
pub record AreViews (requests : Bool) (offers : List OwnerOffer) (decisions : List PeerDecision) : Type 0 where
  pub agree : ViewsAgree offers decisions
  pub each : All (IsOffer requests) offers

-- what always holds of a link
abbrev pub IsLink : LinkViews → Type 0
IsLink v = AreViews v.terms.requests v.offers v.decisions

abbrev pub no_link : LinkViews
no_link = record { terms = record { capacity = 0; requests = false }; offers = []; decisions = []; spare = 0; counts = no_calls }

abbrev pub link_at : List LinkViews → ℕ → LinkViews
link_at links l = slice_index_or links l no_link

abbrev pub with_link : List LinkViews → ℕ → LinkViews → List LinkViews
with_link links l v = slice_set links l v

-- the link once one more call is counted
abbrev pub with_call : LinkViews → Call → LinkViews
with_call v call = record v { counts = counts_after v.counts call }

-- ---- what a call leaves as it was

-- all of a link but its spare
abbrev pub without_spare : LinkViews → LinkViews
without_spare v = record v { spare = 0 }

pub record SameButSpares (old new : List LinkViews) : Type 0 where
  pub count : length new ≡ length old
  pub each : (l : ℕ) → without_spare (link_at new l) ≡ without_spare (link_at old l)

pub record SameTerms (old new : List LinkViews) : Type 0 where
  pub count : length new ≡ length old
  pub each : (l : ℕ) → (link_at new l).terms ≡ (link_at old l).terms

-- ---- new links

-- a link on which nothing was offered
abbrev pub new_link : Terms → LinkViews
new_link terms = record { terms = terms; offers = []; decisions = []; spare = 0; counts = no_calls }

-- the terms of link l: those below `channels` carry messages, and the others requests
abbrev pub terms_at : ℕ → List ℕ → ℕ → Terms
terms_at channels capacities l = record { capacity = slice_index capacities l; requests = nat_le channels l }

-- a link for each of the capacities, with its terms, and nothing was offered on any
pub record AreNew (channels : ℕ) (capacities : List ℕ) (links : List LinkViews) : Type 0 where
  pub count : length links ≡ length capacities
  pub each : (l : ℕ) → l < length capacities → without_spare (link_at links l) ≡ new_link (terms_at channels capacities l)

-- The two ends of each link, and the journals that agree with them.
use Rattle.std.specs.Prelude.{◌≡◌, ℕ, suc, ◌-◌, ◌<◌, List, [], ◌∷◌, length, Option, Bool, true, false, slice_index_or, ◌≢◌}
use Rattle.std.specs.List.{filter, AllByRecursion}
use Rattle.ac_base.specs.declared.entry.Payload.{Payload}
use Rattle.ac_base.specs.declared.entry.Event.{Event}
use Rattle.ac_base.specs.declared.entry.Entry.{Entry}
use Rattle.ac_base.specs.declared.entry.Stamped.{Stamped}
use Rattle.ac_links.specs.declared.payloads.Terms.{Terms}
use Rattle.ac_links.specs.Link.{link_of}
use Rattle.ac_links.specs.Order.{of_party, is_of_link}
use Rattle.ac_links.specs.Journals.{HasStamps}
use Rattle.ac_links.specs.Views.{OwnerOffer, PeerDecision, answers_none, OwnerRuns, PeerRuns, ViewsAgree}
use Rattle.ac_links.specs.Noted.{seen_of, request_of}
use Rattle.ac_history.specs.Merged.{all_from}
use Rattle.ac_history.specs.History.{terms_of}
use Rattle.ac_history.specs.Files.{contents, IsServed, deeds_by}
use Rattle.ac_history.specs.Agreement.{InRange}

-- a link: its terms, the parties of its two ends, and what each end knows
pub record Pair : Type 0 where
  pub terms : Terms
  pub owner : ℕ
  pub peer : ℕ
  pub offers : List OwnerOffer
  pub decisions : List PeerDecision

-- the entries of link l in the journal of party p
abbrev pub entries_at : ℕ → List (List Entry) → ℕ → List Stamped
entries_at l js p = filter (is_of_link l) (of_party p (slice_index_or js p []))

-- the peer of a link of requests is the worker, and that of a channel a core
abbrev pub IsPeer : ℕ → Bool → ℕ → Type 0
IsPeer cores true p = p ≡ cores
IsPeer cores false p = p < cores

-- one pair agrees with the journals, and its two ends with each other
pub record PairAgrees (cores : ℕ) (mine : ℕ → Event → ℕ) (js : List (List Entry)) (l : ℕ) (pair : Pair) : Type 0 where
  pub apart : pair.owner ≢ pair.peer
  pub core : pair.owner < cores
  pub party : IsPeer cores pair.terms.requests pair.peer
  pub owner : OwnerRuns pair.terms (mine pair.owner) [] (entries_at l js pair.owner) pair.offers
  pub peer : PeerRuns pair.terms (mine pair.peer) [] (entries_at l js pair.peer) pair.decisions
  pub both : ViewsAgree pair.offers pair.decisions
  pub others : (p : ℕ) → p ≢ pair.owner → p ≢ pair.peer → entries_at l js p ≡ []

-- the stamp of the entry that an event answers, as the ends of its link tell it
abbrev pub seen_by : (ℕ → Pair) → Event → ℕ
seen_by pairs e = seen_of (pairs (link_of e)).offers (pairs (link_of e)).decisions e

-- the request that an event answers, as the owner of its link tells it
abbrev pub request_by : (ℕ → Pair) → Event → Option Payload
request_by pairs e = request_of (pairs (link_of e)).offers e

-- the entries of the worker, whose number is that of the cores
abbrev pub worker_entries : ℕ → List (List Entry) → List Stamped
worker_entries cores js = of_party cores (slice_index_or js cores [])

-- each journal has its stamps, by the stamps that its own party noted of what its entries answer
abbrev pub AllNoted : (ℕ → Event → ℕ) → ℕ → List (List Entry) → Type 0
AllNoted mine p [] = Unit {0}
AllNoted mine p (j ∷ js) = HasStamps (mine p) 0 j × AllNoted mine (suc p) js

-- all pairs, the worker's turns, and the stamps of all journals
pub record NetworkAgrees (capacities : List ℕ) (cores : ℕ) (mine : ℕ → Event → ℕ) (pairs : ℕ → Pair) (js : List (List Entry))
    : Type 0 where
  pub parties : length js ≡ suc cores
  pub terms : (l : ℕ) → l < length capacities → (pairs l).terms ≡ terms_of capacities (length capacities - cores) l
  pub pair : (l : ℕ) → l < length capacities → PairAgrees cores mine js l (pairs l)
  pub turns : AllByRecursion (λ e. e.entry.turn ≡ 0) (worker_entries cores js)
  pub stamps : AllNoted mine 0 js
  pub first : (p : ℕ) (e : Event) → answers_none e ≡ true → mine p e ≡ 0
  pub range : InRange (length capacities) (all_from 0 js)

-- the worker's disk, which held `files` at first and holds `left`: what the worker got is what the owners offered, and each read gave what
-- stood there
pub record DiskAgrees (cores : ℕ) (pairs : ℕ → Pair) (js : List (List Entry)) (got : Event → Option Payload) (files left : List (List ℕ))
    : Type 0 where
  pub noted : AllByRecursion (λ e. got e.entry.event ≡ request_by pairs e.entry.event) (worker_entries cores js)
  pub served : IsServed files (deeds_by got (worker_entries cores js))
  pub contents : left ≡ contents files (deeds_by got (worker_entries cores js))

-- What holds of all histories: from the ends of links and single journals to the merged history, and what a legal one shows.
use Rattle.std.specs.Prelude.{◌≡◌, ℕ, suc, ◌-◌, ◌≤◌, List, [], length, Option}
use Rattle.std.specs.List.{AllByRecursion}
use Rattle.ac_base.specs.declared.entry.Payload.{Payload}
use Rattle.ac_base.specs.declared.entry.Answer.{Answer}
use Rattle.ac_base.specs.declared.entry.Event.{Event}
use Rattle.ac_base.specs.declared.entry.Entry.{Entry}
use Rattle.ac_base.specs.declared.entry.Stamped.{Stamped}
use Rattle.ac_base.specs.declared.ends.CoreEnd.{CoreEnd}
use Rattle.ac_links.specs.declared.payloads.Terms.{Terms}
use Rattle.ac_links.specs.Journals.{LinkAgrees}
use Rattle.ac_links.specs.Views.{Response, OwnerOffer, PeerDecision}
use Rattle.ac_links.specs.Party.{LinkEnd, party_noted}
use Rattle.ac_history.specs.Merged.{all_from, merged}
use Rattle.ac_history.specs.History.{IsLegal, terms_of, start}
use Rattle.ac_history.specs.Files.{padded, IsServed, contents, deeds, deeds_by}
use Rattle.ac_history.specs.Served.{HistoryState, begun, IsHistory, after_all}
use Rattle.ac_history.specs.Agreement.{AllStamps, AllMade, AllOfTheirWidth, InRange, link_part}
use Rattle.ac_history.specs.Network.{Pair, NetworkAgrees, DiskAgrees, request_by, worker_entries}
use Rattle.ac_history.specs.Parties.{PartiesAgree, pair_of}
use Rattle.ac_history.specs.Quiet.{after_all_of, IsQuiet, PartiesRest}
use Rattle.ac_history.specs.Working.{WorkerLink, WorkerDisk, WorkerAnswers, WorkerGoesOn}

-- ---- the merged history is legal

-- where the entries of each link are right by themselves, and so are the stamps and the makers of each journal
abbrev pub MergedIsLegal : Type 0
MergedIsLegal = (seen : Event → ℕ) (asks : Event → Option Payload) (capacities widths : List ℕ) (cores : ℕ) (js : List (List Entry))
    → length js ≡ suc cores → AllStamps seen js
    → ((l : ℕ) → LinkAgrees seen asks (terms_of capacities (length capacities - cores) l) [] (link_part l js))
    → AllMade (length capacities - cores) cores (all_from 0 js) → InRange (length capacities) (all_from 0 js)
    → AllOfTheirWidth widths (all_from 0 js)
    → IsLegal (start capacities widths cores) (merged js)

-- where the two ends of each link agree, and each journal has its stamps by what its own party noted
abbrev pub NetworkIsLegal : Type 0
NetworkIsLegal = (capacities widths : List ℕ) (cores : ℕ) (mine : ℕ → Event → ℕ) (pairs : ℕ → Pair) (js : List (List Entry))
    → NetworkAgrees capacities cores mine pairs js → AllOfTheirWidth widths (all_from 0 js)
    → IsLegal (start capacities widths cores) (merged js)

-- parties that agree with their journals, on links whose ends agree with each other, are such a network
abbrev pub PartiesAreANetwork : Type 0
PartiesAreANetwork = (capacities : List ℕ) (cores : ℕ) (owner peer : ℕ → ℕ) (ends : ℕ → ℕ → LinkEnd)
    (offers : ℕ → List OwnerOffer) (decisions : ℕ → List PeerDecision) (js : List (List Entry))
    → PartiesAgree capacities cores owner peer ends offers decisions js
    → NetworkAgrees capacities cores (λ p. party_noted (ends p)) (pair_of capacities cores owner peer offers decisions) js

-- ---- what a legal history shows

-- no stamp is above the number of entries
abbrev pub StampsAreFew : Type 0
StampsAreFew = (capacities widths : List ℕ) (cores : ℕ) (es : List Stamped) → IsLegal (start capacities widths cores) es
    → AllByRecursion (λ e. e.entry.stamp ≤ length es) es

-- ---- the end of a run

-- where each party rests by what is known of its links, the run is quiet
abbrev pub PartiesAtRestAreQuiet : Type 0
PartiesAtRestAreQuiet = (capacities widths : List ℕ) (cores : ℕ) (owner peer : ℕ → ℕ) (ends : ℕ → ℕ → LinkEnd)
    (offers : ℕ → List OwnerOffer) (decisions : ℕ → List PeerDecision) (js : List (List Entry)) (stops : List CoreEnd)
    → PartiesAgree capacities cores owner peer ends offers decisions js → PartiesRest capacities cores owner peer offers decisions stops
    → IsQuiet owner peer (after_all_of (start capacities widths cores) (merged js)) stops

-- ---- the files

-- what was done in the merged history is what the worker's journal says, in its order, of the requests that the owners offered
abbrev pub DeedsAreTheWorkers : Type 0
DeedsAreTheWorkers = (capacities widths : List ℕ) (cores : ℕ) (mine : ℕ → Event → ℕ) (pairs : ℕ → Pair) (js : List (List Entry))
    → NetworkAgrees capacities cores mine pairs js
    → deeds (start capacities widths cores) (merged js) ≡ deeds_by (request_by pairs) (worker_entries cores js)

-- where a disk served the worker's journal, it served the merged history, and it holds that history's contents
abbrev pub NetworkIsServed : Type 0
NetworkIsServed = (capacities widths : List ℕ) (cores : ℕ) (mine : ℕ → Event → ℕ) (pairs : ℕ → Pair) (js : List (List Entry))
    (got : Event → Option Payload) (files left : List (List ℕ))
    → NetworkAgrees capacities cores mine pairs js → DiskAgrees cores pairs js got files left
    → IsServed files (deeds (start capacities widths cores) (merged js))
    × (left ≡ contents files (deeds (start capacities widths cores) (merged js)))

-- the same, entry by entry from these files on
abbrev pub NetworkIsAHistory : Type 0
NetworkIsAHistory = (capacities widths : List ℕ) (cores : ℕ) (mine : ℕ → Event → ℕ) (pairs : ℕ → Pair) (js : List (List Entry))
    (got : Event → Option Payload) (files left : List (List ℕ))
    → NetworkAgrees capacities cores mine pairs js → AllOfTheirWidth widths (all_from 0 js)
    → DiskAgrees cores pairs js got (padded files) left
    → IsHistory (begun capacities widths cores files) (merged js)
    × ((after_all (begun capacities widths cores files) (merged js)).files ≡ left)

-- ---- entry by entry, and by the whole

abbrev pub HistoryIsLegalAndServed : Type 0
HistoryIsLegalAndServed = (h : HistoryState) (es : List Stamped) → IsHistory h es → IsLegal h.past es × IsServed h.files (deeds h.past es)

abbrev pub LegalAndServedIsAHistory : Type 0
LegalAndServedIsAHistory = (h : HistoryState) (es : List Stamped) → IsLegal h.past es → IsServed h.files (deeds h.past es) → IsHistory h es

abbrev pub FilesAreTheContents : Type 0
FilesAreTheContents = (h : HistoryState) (es : List Stamped) → (after_all h es).files ≡ contents h.files (deeds h.past es)

-- ---- the worker

-- the worker does the next request of a link, and its journal, its ends, the rings of the replies and the disk go on agreeing
abbrev pub TheWorkerGoesOn : Type 0
TheWorkerGoesOn = (terms : ℕ → Terms) (p : ℕ) (ends : ℕ → LinkEnd) (j : List Entry) (k : ℕ) (os : List OwnerOffer)
    (ds : List PeerDecision) (ring : List Response) (got : Event → Option Payload) (first files : List (List ℕ))
    → WorkerLink terms ends k os ds ring → WorkerDisk terms p ends j got first files
    → (o : OwnerOffer) (answer : Answer) → WorkerAnswers k os ds o answer got files
    → WorkerGoesOn terms p ends j k os ds ring got first files o answer

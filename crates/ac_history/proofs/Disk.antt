-- The deeds of the worker, and the disk: what serves the worker's journal serves the merged history. For `network_is_served`.
-- The two have the same deeds, since what a request asked is told by its link (Runtime). Deeds and contents of lists put together, by induction.
use Rattle.std.proofs.Common.{◌≡◌, ℕ, List, [], ◌∷◌, ◌++◌, Option, refl, sym, ap, ◌∙◌, subst, append_assoc}
use Rattle.std.specs.List.{AllByRecursion}
use Rattle.std.proofs.lemmas.List.{append-nil}
use Rattle.ac_base.specs.declared.entry.Payload.{Payload}
use Rattle.ac_base.specs.declared.entry.Event.{Event}
use Rattle.ac_base.specs.declared.entry.Entry.{Entry}
use Rattle.ac_base.specs.declared.entry.Stamped.{Stamped}
use Rattle.ac_history.specs.Merged.{merged}
use Rattle.ac_history.specs.Files.{Deed, files_done, contents, IsServed, deed_of, deeds, deeds_by}
use Rattle.ac_history.specs.History.{start}
use Rattle.ac_history.specs.Network.{Pair, NetworkAgrees, DiskAgrees, request_by, worker_entries}
use Rattle.ac_history.proofs.Runtime.{deeds_network}

pub deeds_push : (asks : Event → Option Payload) (es : List Stamped) (e : Stamped) → deeds_by asks (es ++ e ∷ []) ≡ deeds_by asks es ++ deed_of (asks e.entry.event) e.entry.event
deeds_push asks [] e = append-nil (deed_of (asks e.entry.event) e.entry.event)
deeds_push asks (x ∷ es) e = ap (λ r. deed_of (asks x.entry.event) x.entry.event ++ r) (deeds_push asks es e)
    ∙ sym (append_assoc (deed_of (asks x.entry.event) x.entry.event) (deeds_by asks es) (deed_of (asks e.entry.event) e.entry.event))

pub contents_append : (files : List (List ℕ)) (ds es : List Deed) → contents files (ds ++ es) ≡ contents (contents files ds) es
contents_append files [] es = refl
contents_append files (d ∷ ds) es = contents_append (files_done files d.payload d.answer) ds es

pub served_append : (files : List (List ℕ)) (ds es : List Deed) → IsServed files ds → IsServed (contents files ds) es → IsServed files (ds ++ es)
served_append files [] es h k = k
served_append files (d ∷ ds) es h k = (h.0, served_append (files_done files d.payload d.answer) ds es h.1 k)

deeds_same : (f g : Event → Option Payload) (es : List Stamped) → AllByRecursion (λ e. f e.entry.event ≡ g e.entry.event) es → deeds_by f es ≡ deeds_by g es
deeds_same f g [] a = refl
deeds_same f g (e ∷ es) a = ap (λ q. deed_of q e.entry.event ++ deeds_by f es) a.0 ∙ ap (λ r. deed_of (g e.entry.event) e.entry.event ++ r) (deeds_same f g es a.1)

pub network_served : (capacities widths : List ℕ) (cores : ℕ) (mine : ℕ → Event → ℕ) (pairs : ℕ → Pair) (js : List (List Entry)) (got : Event → Option Payload) (files left : List (List ℕ))
    → NetworkAgrees capacities cores mine pairs js → DiskAgrees cores pairs js got files left
    → IsServed files (deeds (start capacities widths cores) (merged js)) × (left ≡ contents files (deeds (start capacities widths cores) (merged js)))
network_served capacities widths cores mine pairs js got files left net disk =
    let same : deeds_by got (worker_entries cores js) ≡ deeds (start capacities widths cores) (merged js) = deeds_same got (request_by pairs) (worker_entries cores js) disk.noted
    ∙ sym (deeds_network capacities widths cores mine pairs js net) in
    subst (λ ds. IsServed files ds × (left ≡ contents files ds)) same (disk.served, disk.contents)

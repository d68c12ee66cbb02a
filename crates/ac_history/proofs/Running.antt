-- A history that goes entry by entry is one that is legal and served, and the other way round; its files are what the deeds leave.
-- By induction on the entries; a deed served after others is served by what they left. For `histories_are_legal_and_served` and `network_is_a_history`.
use Rattle.std.proofs.Common.{◌≡◌, ℕ, List, [], ◌∷◌, ◌++◌, Option, Bool, true, ◌&&◌, refl, sym, ◌∙◌}
use Rattle.ac_base.specs.declared.entry.Entry.{Entry}
use Rattle.ac_base.specs.declared.entry.Payload.{Payload}
use Rattle.ac_base.specs.declared.entry.Event.{Event}
use Rattle.ac_base.specs.declared.entry.Stamped.{Stamped}
use Rattle.ac_history.specs.Merged.{all_from, merged}
use Rattle.ac_history.specs.History.{fits, after, IsLegal}
use Rattle.ac_history.specs.Files.{Deed, files_done, padded, serves, contents, IsServed, deeds_at, deeds}
use Rattle.ac_history.specs.Served.{HistoryState, begun, serves_all, state_after, IsHistory, after_all}
use Rattle.ac_history.specs.Agreement.{AllOfTheirWidth}
use Rattle.ac_history.specs.Network.{Pair, NetworkAgrees, DiskAgrees}
use Rattle.ac_links.proofs.Growth.{both_true}
use Rattle.ac_history.proofs.Runtime.{legal_network}
use Rattle.ac_history.proofs.Disk.{contents_append, served_append, network_served}

and_true : (a b : Bool) → a ≡ true → b ≡ true → a && b ≡ true
and_true a b p q = rw (p, q)

served_of : (files : List (List ℕ)) (ds : List Deed) → serves_all files ds ≡ true → IsServed files ds
served_of files [] h = tt
served_of files (d ∷ ds) h = let p = both_true (serves files d.payload d.answer) (serves_all (files_done files d.payload d.answer) ds) h in (
  p.0,
  served_of (files_done files d.payload d.answer) ds p.1,
)

of_served : (files : List (List ℕ)) (ds : List Deed) → IsServed files ds → serves_all files ds ≡ true
of_served files [] h = refl
of_served files (d ∷ ds) h = and_true _ _ h.0 (of_served (files_done files d.payload d.answer) ds h.1)

served_cut : (files : List (List ℕ)) (ds es : List Deed) → IsServed files (ds ++ es) → IsServed files ds × IsServed (contents files ds) es
served_cut files [] es h = (tt, h)
served_cut files (d ∷ ds) es h = let p = served_cut (files_done files d.payload d.answer) ds es h.1 in ((h.0, p.0), p.1)

pub run_is : (l : HistoryState) (es : List Stamped) → IsHistory l es → IsLegal l.past es × IsServed l.files (deeds l.past es)
run_is l [] h = (tt, tt)
run_is l (e ∷ es) h =
    let p = both_true (fits l.past e) (serves_all l.files (deeds_at l.past e)) h.0 in
    let ih = run_is (state_after l e) es h.1 in
    ((p.0, ih.0), served_append l.files (deeds_at l.past e) (deeds (after l.past e) es) (served_of l.files (deeds_at l.past e) p.1) ih.1)

pub is_run : (l : HistoryState) (es : List Stamped) → IsLegal l.past es → IsServed l.files (deeds l.past es) → IsHistory l es
is_run l [] h s = tt
is_run l (e ∷ es) h s =
    let p = served_cut l.files (deeds_at l.past e) (deeds (after l.past e) es) s in
    (and_true _ _ h.0 (of_served l.files (deeds_at l.past e) p.0), is_run (state_after l e) es h.1 p.1)

pub run_files : (l : HistoryState) (es : List Stamped) → (after_all l es).files ≡ contents l.files (deeds l.past es)
run_files l [] = refl
run_files l (e ∷ es) = run_files (state_after l e) es ∙ sym (contents_append l.files (deeds_at l.past e) (deeds (after l.past e) es))

pub network_run : (capacities widths : List ℕ) (cores : ℕ) (mine : ℕ → Event → ℕ) (pairs : ℕ → Pair) (js : List (List Entry)) (got : Event → Option Payload) (files left : List (List ℕ))
    → NetworkAgrees capacities cores mine pairs js → AllOfTheirWidth widths (all_from 0 js) → DiskAgrees cores pairs js got (padded files) left
    → IsHistory (begun capacities widths cores files) (merged js) × ((after_all (begun capacities widths cores files) (merged js)).files ≡ left)
network_run capacities widths cores mine pairs js got files left net wide disk =
    let l : HistoryState = begun capacities widths cores files in
    let s = network_served capacities widths cores mine pairs js got (padded files) left net disk in
    (is_run l (merged js) (legal_network capacities widths cores mine pairs js net wide) s.0, run_files l (merged js) ∙ sym s.1)

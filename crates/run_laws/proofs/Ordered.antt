-- The journals of cores and of a worker that agree with their links stand in the order of their stamps.
use Rattle.std.proofs.Common.{◌≡◌, ℕ, suc, ◌≤◌, List, [], ◌∷◌, Some, refl, sym, subst, arith, map}
use Rattle.std.specs.Prelude.{slice_get}
use Rattle.std.specs.List.{AllByRecursion}
use Rattle.std.proofs.lemmas.Bool.Decides.{nat_tests}
use Rattle.ac_base.specs.Log.{Log}
use Rattle.ac_base.specs.Stamps.{next_stamp}
use Rattle.ac_base.specs.declared.entry.Entry.{Entry}
use Rattle.ac_base.specs.declared.entry.Event.{Event}
use Rattle.ac_links.specs.Journals.{HasStamps}
use Rattle.ac_links.specs.Order.{AllFrom, Rises}
use Rattle.ac_history.specs.Merged.{entries_of}
use Rattle.stack_code.specs.Parts.{Parts}
use Rattle.core_channels.specs.LinkViews.{LinkViews}
use Rattle.run_laws.specs.Cores.{CoreView, AreCoresOf, journals_of}
use Rattle.run_laws.specs.Workers.{WorkerAgreesWith}
use Rattle.program_run.specs.Run.{AreInOrder}

abbrev its_stamp : Entry → ℕ
its_stamp e = e.stamp

above : (last seen stamp : ℕ) → stamp ≡ next_stamp last seen → last ≤ stamp
above last seen stamp h = grind (arith, nat_tests)

from_last : (seen : Event → ℕ) (n last : ℕ) → n ≤ last → (j : List Entry) → HasStamps seen last j → AllFrom its_stamp n j
from_last seen n last le [] h = tt
from_last seen n last le (e ∷ es) h = let up = above last (seen e.event) e.stamp h.0 in (omega arith, from_last seen n e.stamp (omega arith) es h.1)

journal_rises : (seen : Event → ℕ) (last : ℕ) (j : List Entry) → HasStamps seen last j → Rises its_stamp j
journal_rises seen last [] h = tt
journal_rises seen last (e ∷ es) h = (from_last seen e.stamp e.stamp (omega arith) es h.1, journal_rises seen e.stamp es h.1)

logs_in_order : (js : List Log) → AllByRecursion (Rises its_stamp) (map entries_of js) → AreInOrder js
logs_in_order [] a = tt
logs_in_order (j ∷ js) a = (a.0, logs_in_order js a.1)

all_rise : (entries : List Entry) → Rises its_stamp entries → (cores : List CoreView) → ((k : ℕ) (c : CoreView) → slice_get cores k ≡ Some c → Rises its_stamp c.journal)
    → AllByRecursion (Rises its_stamp) (journals_of cores entries)
all_rise entries r [] each = (r, tt)
all_rise entries r (c ∷ cores) each = (each 0 c refl, all_rise entries r cores (λ k x is. each (suc k) x is))

module _ (code : Parts) (bound : ℕ) (cores : List CoreView) (entries : List Entry) (links : List LinkViews) (all : AreCoresOf code bound cores links)
    (work : WorkerAgreesWith code entries links) (logs : List Log) (same : map entries_of logs ≡ journals_of cores entries) where
  pub in_order : AreInOrder logs
  in_order = logs_in_order logs (subst (AllByRecursion (Rises its_stamp)) (sym same)
      (all_rise entries (journal_rises _ 0 entries work.party.stamps) cores (λ k c is. journal_rises _ 0 c.journal (all.agree k c is).party.stamps)))

-- In a run of a program only files are read and written that its code names. The journal of each core has only offers that the code names, the
-- worker makes none, and so merged they are a history with such offers alone.
use Rattle.std.proofs.Common.{◌≡◌, ℕ, suc, ◌+◌, ◌<◌, ◌≤◌, List, [], ◌∷◌, length, map, true, arith}
use Rattle.std.specs.List.{AllByRecursion}
use Rattle.ac_base.specs.Log.{Log}
use Rattle.ac_base.specs.declared.ends.MachineEnd.{MachineEnd}
use Rattle.ac_base.specs.declared.entry.Entry.{Entry}
use Rattle.ac_base.specs.declared.entry.Stamped.{Stamped}
use Rattle.ac_commands.specs.declared.program.Resolved.{Resolved}
use Rattle.ac_translation.specs.Translation.{code_of}
use Rattle.ac_links.specs.Order.{of_party, stamp_of}
use Rattle.ac_history.specs.Merged.{all_from, entries_of}
use Rattle.ac_history.proofs.Parts.{each_append, each_in_order}
use Rattle.program_run.specs.Naming.{NamesFilesBelow, RunsNameFiles}
use Rattle.program_run.specs.Run.{AreCoreRuns}
use Rattle.program_run.proofs.NamedDeeds.{deeds_are_named}
use Rattle.program_run.proofs.Naming.{offers_below, runs_name}

module _ (program : Resolved) (bound n : ℕ) (names : NamesFilesBelow (code_of program) n) (cores : ℕ) where
  abbrev Below : Stamped → Type 0
  Below e = e.party < cores → offers_below n e.entry.event ≡ true

  of_core : (k : ℕ) (es : List Entry) → AllByRecursion (λ e. offers_below n e.event ≡ true) es → AllByRecursion Below (of_party k es)
  of_core k [] h = tt
  of_core k (e ∷ es) h = ((λ within. h.0), of_core k es h.1)

  -- the worker is no core
  of_other : (k : ℕ) (es : List Entry) → cores ≤ k → AllByRecursion Below (of_party k es)
  of_other k [] le = tt
  of_other k (e ∷ es) le = ((λ within. absurd (omega arith)), of_other k es le)

  beyond : (k : ℕ) (js : List (List Entry)) → cores ≤ k → AllByRecursion Below (all_from k js)
  beyond k [] le = tt
  beyond k (j ∷ js) le = each_append Below (of_party k j) (all_from (suc k) js) (of_other k j le) (beyond (suc k) js (omega arith))

  all_below : (k : ℕ) (journals : List Log) (ends : List MachineEnd) → k + length ends ≡ cores → AreCoreRuns program bound k journals ends
      → AllByRecursion Below (all_from k (map entries_of journals))
  all_below k journals [] many runs = beyond k (map entries_of journals) (omega arith)
  all_below k [] (end ∷ ends) many runs = absurd runs
  all_below k (j ∷ js) (end ∷ ends) many runs = each_append Below (of_party k j.entries) (all_from (suc k) (map entries_of js))
      (of_core k j.entries (runs_name (code_of program) n k bound end.instructions j.entries end.core names runs.0.code)) (all_below (suc k) js ends (omega arith) runs.1)

pub runs_name_files : RunsNameFiles
runs_name_files program bound files ended n run names = deeds_are_named n (length program.cores) (code_of program).capacities (code_of program).widths _ run.legal
    (each_in_order stamp_of (Below program bound n names (length program.cores)) (all_from 0 (map entries_of ended.journals))
    (all_below program bound n names (length program.cores) 0 ended.journals ended.cores (let e = run.every_core in omega arith) run.cores))

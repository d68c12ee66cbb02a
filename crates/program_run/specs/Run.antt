-- The run of a program, which stands here without its names.
use Rattle.std.specs.Prelude.{◌≡◌, ℕ, suc, List, [], ◌∷◌, length, map, Some}
use Rattle.std.specs.List.{AllByRecursion}
use Rattle.ac_base.specs.Log.{Log}
use Rattle.ac_base.specs.declared.entry.Entry.{Entry}
use Rattle.ac_base.specs.declared.entry.Stamped.{Stamped}
use Rattle.ac_base.specs.declared.ends.MachineEnd.{MachineEnd}
use Rattle.ac_commands.specs.declared.program.Resolved.{Resolved}
use Rattle.ac_semantics.specs.Replay.{Replays}
use Rattle.code_meaning.specs.Machine.{Runs}
use Rattle.ac_translation.specs.Translation.{code_of}
use Rattle.ac_links.specs.Order.{Rises}
use Rattle.ac_history.specs.Merged.{merged, entries_of}
use Rattle.ac_history.specs.History.{Past, start, IsLegal}
use Rattle.ac_history.specs.Quiet.{after_all_of, IsQuiet}
use Rattle.program_run.specs.declared.ended.Ended.{Ended}
use Rattle.program_run.specs.Parties.{owner_of, peer_of}

-- what the source and the code of the program say of a core under its journal: just this end
pub record IsCoreRun (program : Resolved) (core bound : ℕ) (journal : Log) (end : MachineEnd) : Type 0 where
  pub code : Runs (code_of program) core bound journal.entries (record { core = Some end.core; count = end.instructions })
  pub source : Replays program core bound journal.entries (Some end.core)

-- each core, from this one on, has come to its end under its journal; the last journal is that of the worker
abbrev pub AreCoreRuns : Resolved → ℕ → ℕ → List Log → List MachineEnd → Type 0
AreCoreRuns program bound core journals [] = length journals ≡ 1
AreCoreRuns program bound core [] (end ∷ ends) = ⊥
AreCoreRuns program bound core (journal ∷ journals) (end ∷ ends) =
    IsCoreRun program core bound journal end × AreCoreRuns program bound (suc core) journals ends

-- each journal stands in the order of its stamps
abbrev pub AreInOrder : List Log → Type 0
AreInOrder journals = AllByRecursion (λ (journal : Log). Rises (λ (e : Entry). e.stamp) journal.entries) journals

-- the history of a run: the journals, merged by the stamps of their entries (Lamport 1978)
abbrev pub history_of : List Log → List Stamped
history_of journals = merged (map entries_of journals)

-- the links and the cores of the program, before any entry
abbrev pub nothing_yet : Resolved → Past
nothing_yet program = start (code_of program).capacities (code_of program).widths (length program.cores)

-- after this history each core has ended or is idle, and nothing on its links is for it
abbrev pub EndsQuiet : Resolved → List Stamped → List MachineEnd → Type 0
EndsQuiet program history ends = IsQuiet (owner_of (code_of program).ends) (peer_of (code_of program).ends (length program.cores))
    (after_all_of (nothing_yet program) history) (map (λ end. end.core) ends)

-- The journals of the run, merged by their stamps, are one run of the program with this bound on steps and these starting files.
pub record IsRunOf (program : Resolved) (bound : ℕ) (start : List (List ℕ)) (ended : Ended) : Type 0 where
  pub steps : ended.steps ≡ bound
  pub files : ended.start ≡ start
  pub every_core : length ended.cores ≡ length program.cores
  pub cores : AreCoreRuns program bound 0 ended.journals ended.cores
  pub in_order : AreInOrder ended.journals
  pub legal : IsLegal (nothing_yet program) (history_of ended.journals)
  pub quiet : EndsQuiet program (history_of ended.journals) ended.cores

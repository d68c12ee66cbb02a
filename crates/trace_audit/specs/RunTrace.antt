-- When a trace is a run of a program, which stands here without its names: each entry may come after those before it, and the run ends as
-- the trace says, quiet.
use Rattle.std.specs.Prelude.{◌≡◌, ℕ, suc, ◌<◌, ◌≤◌, List, [], ◌∷◌, ◌++◌, length, All, true, nat_eq, Some, if◌then◌else◌}
use Rattle.ac_base.specs.declared.entry.Entry.{Entry}
use Rattle.ac_base.specs.declared.entry.Stamped.{Stamped}
use Rattle.ac_base.specs.declared.ends.CoreEnd.{CoreEnd}
use Rattle.ac_commands.specs.declared.program.Resolved.{Resolved}
use Rattle.ac_semantics.specs.Replay.{Replays}
use Rattle.ac_translation.specs.Translation.{code_of}
use Rattle.ac_history.specs.Served.{HistoryState, begun, can_follow, after_all}
use Rattle.ac_history.specs.Quiet.{IsQuiet}
use Rattle.program_run.specs.Parties.{owner_of, peer_of}
use Rattle.trace_text.specs.declared.trace.Trace.{Trace}
use Rattle.trace_text.specs.declared.trace.TraceEnd.{TraceEnd}

-- ---- entries

-- the journal of a party: its entries among these, in their order
abbrev pub journal_of : ℕ → List Stamped → List Entry
journal_of party [] = []
journal_of party (s ∷ ss) = if nat_eq s.party party then s.entry ∷ journal_of party ss else journal_of party ss

-- the core comes to an end that is seen under this journal: each entry of it has come in
pub record HasReplay (program : Resolved) (core bound : ℕ) (journal : List Entry) : Type 0 where
  pub end : CoreEnd
  pub replays : Replays program core bound journal (Some end)

-- the links, the stamps and the files before any entry
abbrev pub nothing_yet : Resolved → Trace → HistoryState
nothing_yet program t = begun (code_of program).capacities (code_of program).widths (length program.cores) t.start

-- The entry may come after these: the links, the stamps and the files take it, and where its party is a core, the journal of the core
-- through it has a replay. The party that is no core is the worker.
pub record Fits (program : Resolved) (t : Trace) (before : List Stamped) (s : Stamped) : Type 0 where
  pub follows : can_follow (after_all (nothing_yet program t) before) s ≡ true
  pub replay : s.party < length program.cores → HasReplay program s.party t.steps (journal_of s.party (before ++ s ∷ []))

-- each entry may come after those before it
abbrev pub AllFit : Resolved → Trace → List Stamped → List Stamped → Type 0
AllFit program t before [] = Unit {0}
AllFit program t before (s ∷ ss) = Fits program t before s × AllFit program t (before ++ s ∷ []) ss

-- ---- ends

-- the core has this end under its journal, and the trace tells its word, its steps and its output
pub record EndsAsTold (program : Resolved) (t : Trace) (core : ℕ) (told : TraceEnd) (end : CoreEnd) : Type 0 where
  pub replays : Replays program core t.steps (journal_of core t.entries) (Some end)
  pub word : told.word ≡ end.word
  pub steps : told.steps ≡ end.steps
  pub output : told.output ≡ end.output

-- the cores from this one on
abbrev pub AllEndAsTold : Resolved → Trace → ℕ → List TraceEnd → List CoreEnd → Type 0
AllEndAsTold program t core [] [] = Unit {0}
AllEndAsTold program t core [] (end ∷ ends) = ⊥
AllEndAsTold program t core (told ∷ others) [] = ⊥
AllEndAsTold program t core (told ∷ others) (end ∷ ends) =
    EndsAsTold program t core told end × AllEndAsTold program t (suc core) others ends

-- the greatest length of a file at the start
abbrev pub file_limit : ℕ
file_limit = 1048576

-- the files and the cores are those of the program, each core has ended as the trace says, and nothing is left for one that is idle
pub record EndsWell (program : Resolved) (t : Trace) : Type 0 where
  pub files : length t.start ≡ length program.files
  pub short : All (λ bytes. length bytes ≤ file_limit) t.start
  pub every_core : length t.ends ≡ length program.cores
  pub ends : List CoreEnd
  pub told : AllEndAsTold program t 0 t.ends ends
  pub quiet : IsQuiet (owner_of (code_of program).ends) (peer_of (code_of program).ends (length program.cores))
      (after_all (nothing_yet program t) t.entries).past ends

-- ---- the relation

pub record IsRunTrace (program : Resolved) (t : Trace) : Type 0 where
  pub entries : AllFit program t [] t.entries
  pub end : EndsWell program t

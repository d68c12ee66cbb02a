-- The runs of a program are just what its traces tell.
use Rattle.std.specs.Prelude.{◌≡◌, ℕ, ◌≤◌, List, length, map, All}
use Rattle.ac_base.specs.declared.ends.MachineEnd.{MachineEnd}
use Rattle.ac_commands.specs.declared.program.Resolved.{Resolved}
use Rattle.ac_translation.specs.Translation.{code_of}
use Rattle.ac_translation.specs.Same.{IsSame}
use Rattle.stack_code.specs.Kept.{IsRanked}
use Rattle.stack_code.specs.Valid.{IsValid}
use Rattle.ac_history.specs.Files.{padded, IsServed}
use Rattle.program_run.specs.declared.ended.Ended.{Ended}
use Rattle.program_run.specs.Run.{IsRunOf, history_of}
use Rattle.program_run.specs.DiskLeft.{deeds_of}
use Rattle.trace_text.specs.declared.trace.Trace.{Trace}
use Rattle.trace_text.specs.declared.trace.TraceEnd.{TraceEnd}
use Rattle.trace_audit.specs.RunTrace.{file_limit, IsRunTrace}

-- what a trace tells of how a core has ended
abbrev pub told_of : MachineEnd → TraceEnd
told_of end = record { word = end.core.word; steps = end.core.steps; output = end.core.output }

-- the trace of a run: its journals merged by the stamps of their entries
abbrev pub trace_of : Ended → Trace
trace_of ended = record { steps = ended.steps; start = ended.start; entries = history_of ended.journals; ends = map told_of ended.cores }

-- the program's code is valid, with ranks that fall along ways without a `Step`, and has the same runs
pub record IsSound (program : Resolved) : Type 0 where
  pub valid : IsValid (code_of program)
  pub ranks : List ℕ
  pub ranked : IsRanked (code_of program) ranks
  pub same : IsSame (code_of program) program

-- the trace of each run whose reads a disk has served is a run
abbrev pub RunsAreTraced : Type 0
RunsAreTraced = (program : Resolved) (bound : ℕ) (start : List (List ℕ)) (ended : Ended)
    → IsSound program → IsRunOf program bound start ended
    → IsServed (padded start) (deeds_of program ended.journals) → length start ≡ length program.files
    → All (λ bytes. length bytes ≤ file_limit) start → IsRunTrace program (trace_of ended)

-- a run, and its trace
pub record IsTraced (program : Resolved) (t : Trace) : Type 0 where
  pub ended : Ended
  pub run : IsRunOf program t.steps t.start ended
  pub trace : trace_of ended ≡ t
  pub served : IsServed (padded t.start) (deeds_of program ended.journals)

-- and each trace that is a run is that of one
abbrev pub TracesAreRuns : Type 0
TracesAreRuns = (program : Resolved) (t : Trace) → IsSound program → IsRunTrace program t → IsTraced program t

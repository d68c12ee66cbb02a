-- What a trace that is a run is run to again: the ends of its cores in the compiled code, the report of them, and the files.
use Rattle.std.specs.Prelude.{◌≡◌, ℕ, List, ◌++◌, length, map, slice_get, sum_by, Some}
use Rattle.ac_base.specs.Report.{report_of, status_of}
use Rattle.ac_base.specs.declared.ends.MachineEnd.{MachineEnd}
use Rattle.ac_commands.specs.declared.program.Resolved.{Resolved}
use Rattle.ac_history.specs.Files.{Deed, contents, deeds, padded}
use Rattle.ac_names.specs.Numbered.{file_paths}
use Rattle.ac_outside.specs.Disks.{Held}
use Rattle.ac_resolve.specs.Resolution.{resolved}
use Rattle.ac_translation.specs.Translation.{code_of}
use Rattle.ac_tree.specs.declared.item.Program.{Program}
use Rattle.code_meaning.specs.Machine.{Runs}
use Rattle.file_ops.specs.Asked.{texts}
use Rattle.program_reading.specs.Source.{names_of}
use Rattle.program_run.specs.Run.{nothing_yet}
use Rattle.starting_files.specs.Starting.{calls_of, more_calls}
use Rattle.trace_audit.specs.RunTrace.{journal_of}
use Rattle.trace_text.specs.declared.trace.Trace.{Trace}
use Rattle.trace_writes.specs.declared.write.FileWrite.{FileWrite}
use Rattle.trace_writes.specs.Writes.{writes_of}

-- ---- cores

-- each core of the program's code comes to its end, in as many instructions, under its journal in the trace
pub record AreReplayed (program : Resolved) (t : Trace) (ends : List MachineEnd) : Type 0 where
  pub every_core : length ends ≡ length program.cores
  pub each : (core : ℕ) (end : MachineEnd) → slice_get ends core ≡ Some end →
      Runs (code_of program) core t.steps (journal_of core t.entries) (record { core = Some end.core; count = end.instructions })

-- the report of these ends, and the status of ended cores
pub record IsReplayedReport (program : Program) (t : Trace) (status : ℕ) (text : List ℕ) : Type 0 where
  pub ends : List MachineEnd
  pub are_replayed : AreReplayed (resolved program) t ends
  pub status_is : status ≡ status_of ends
  pub text_is : text ≡ report_of (names_of program) ends

-- ---- files

-- the requests that are done in the history of the trace, and the writes among them
abbrev pub deeds_in : Resolved → Trace → List Deed
deeds_in program t = deeds (nothing_yet program) t.entries

abbrev pub writes_in : Resolved → Trace → List FileWrite
writes_in program t = writes_of (deeds_in program t)

-- The files of the program are bound and hold what the history has made of those at the start of the trace, under every other path stands
-- what stood there, and the disk was called for the binds, the starting reads, and once for each write.
pub record HoldsContents (program : Program) (t : Trace) (held left : Held) : Type 0 where
  pub files : padded (texts left) ≡ contents (padded t.start) (deeds_in (resolved program) t)
  pub paths : map (λ f. f.name) left.files ≡ map (λ f. f.name) held.files ++ file_paths program.items
  pub others : left.found ≡ held.found
  pub calls : left.calls ≡ more_calls (more_calls held.calls (sum_by (calls_of held) (file_paths program.items)))
      (length (writes_in (resolved program) t))

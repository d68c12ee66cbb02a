-- What a call comes to, by the first refusal in the order of work. `before` and `after` are what the library tells before and after, and
-- `disk` and `later` what the disk does.
use Rattle.std.specs.Prelude.{◌≡◌, ◌≢◌, ℕ, ◌<◌, List, [], length, take}
use Rattle.ac_history.specs.Files.{file_of}
use Rattle.ac_names.specs.Numbered.{file_paths}
use Rattle.ac_outside.specs.Disks.{DiskTold}
use Rattle.ac_outside.specs.Told.{LibraryTold}
use Rattle.ac_resolve.specs.Resolution.{resolved}
use Rattle.ac_tree.specs.declared.item.Program.{Program}
use Rattle.program_reading.specs.TwoFiles.{AreBoth, RefusesBoth, halt_line, halt_status}
use Rattle.program_reading.specs.Lines.{disk_line, limit_file_line, no_at_line, no_at_end_line}
use Rattle.program_reading.specs.declared.halt.Halt.{Halt}
use Rattle.program_run.specs.Naming.{AreNamed}
use Rattle.starting_files.specs.declared.fault.StartFault.TheVariants as f
use Rattle.starting_files.specs.Starting.{AreStarted, AreStopped}
use Rattle.trace_audit.specs.Judged.{IsFirstMisfit}
use Rattle.trace_audit.specs.RunTrace.{AllFit, EndsWell, IsRunTrace}
use Rattle.trace_text.specs.declared.trace.Trace.{Trace}
use Rattle.trace_writes.specs.Doing.{DidAll, DidSome}
use Rattle.ac_replay.specs.Lines.{usage_line, differs_line}
use Rattle.ac_replay.specs.Replaying.{IsReplayedReport, deeds_in, writes_in}
use Rattle.ac_replay.specs.Words.{IsCall, IsNoCall}

-- ---- the files of the disk

-- the file of that number is the first that holds other bytes than the trace tells
pub record IsFirstOther (start told : List (List ℕ)) (file : ℕ) : Type 0 where
  pub within : file < length start
  pub before : take file start ≡ take file told
  pub other : file_of start file ≢ file_of told file

-- Of a trace that is a run of the program: its files are bound and read, and the first that fails, is too long, or differs stops the work
-- there; else the writes of the trace, which are of these files, are done, up to the first that fails; and if none does, the report is
-- written.
pub data IsDueOfFiles (program : Program) (trace : Trace) (disk later : DiskTold) (status : ℕ) (text : List ℕ) : Type 0 where
  disk_fault : status ≡ 9 → text ≡ disk_line → AreStopped (file_paths program.items) f.Failed disk later →
      IsDueOfFiles program trace disk later status text
  long_file : (file : ℕ) → status ≡ 10 → text ≡ limit_file_line file → AreStopped (file_paths program.items) (f.TooLong file) disk later →
      IsDueOfFiles program trace disk later status text
  differs : (start : List (List ℕ)) (file : ℕ) → status ≡ 19 → text ≡ differs_line file →
      AreStarted (file_paths program.items) start disk later → IsFirstOther start trace.start file →
      IsDueOfFiles program trace disk later status text
  torn : (between : DiskTold) → status ≡ 9 → text ≡ disk_line → AreStarted (file_paths program.items) trace.start disk between →
      DidSome (writes_in (resolved program) trace) between later → IsDueOfFiles program trace disk later status text
  repeated : (between : DiskTold) → AreStarted (file_paths program.items) trace.start disk between →
      AreNamed (length (file_paths program.items)) (deeds_in (resolved program) trace) →
      DidAll (writes_in (resolved program) trace) between later → IsReplayedReport program trace status text →
      IsDueOfFiles program trace disk later status text

-- ---- the trace

-- Of a program and a trace of which the texts are right: an entry may not come after those before it, or the end is not that of the run;
-- then the disk is left alone; or the trace is a run.
pub data IsDueOfRun (program : Program) (trace : Trace) (disk later : DiskTold) (status : ℕ) (text : List ℕ) : Type 0 where
  misfit : (entry : ℕ) → status ≡ 13 → text ≡ no_at_line entry → IsFirstMisfit (resolved program) trace entry → later ≡ disk →
      IsDueOfRun program trace disk later status text
  other_end : status ≡ 13 → text ≡ no_at_end_line → AllFit (resolved program) trace [] trace.entries →
      (EndsWell (resolved program) trace → ⊥) → later ≡ disk → IsDueOfRun program trace disk later status text
  run : IsRunTrace (resolved program) trace → IsDueOfFiles program trace disk later status text →
      IsDueOfRun program trace disk later status text

-- ---- the words

-- of two files: what refuses them, and the disk is left alone; or of the program and the trace
pub data IsDueOfCall (file trace : List ℕ) (before after : LibraryTold) (disk later : DiskTold)
    (status : ℕ) (text : List ℕ) : Type 0 where
  refused : (halt : Halt) → status ≡ halt_status halt → text ≡ halt_line halt → RefusesBoth file trace before after halt → later ≡ disk →
      IsDueOfCall file trace before after disk later status text
  both : (program : Program) (told : Trace) → AreBoth file trace before after program told →
      IsDueOfRun program told disk later status text → IsDueOfCall file trace before after disk later status text

-- for any words: where they are no call, the usage line, and the library and the disk are left alone
pub data IsDue (words : List (List ℕ)) (before after : LibraryTold) (disk later : DiskTold) (status : ℕ) (text : List ℕ) : Type 0 where
  usage : status ≡ 1 → text ≡ usage_line → IsNoCall words → after ≡ before → later ≡ disk →
      IsDue words before after disk later status text
  call : (file trace : List ℕ) → IsCall words file trace → IsDueOfCall file trace before after disk later status text →
      IsDue words before after disk later status text

-- What is made of a source.
use Rattle.std.specs.Prelude.{◌≡◌, ℕ, ◌<◌, ◌≤◌, List, length, None, Some, IfSome}
use Rattle.std.specs.declared.option.Option.{Option}
use Rattle.ac_base.specs.Report.{report_of, status_of}
use Rattle.ac_tree.specs.declared.item.Program.{Program}
use Rattle.ac_names.specs.Numbered.{file_paths}
use Rattle.ac_resolve.specs.Resolution.{resolved}
use Rattle.ac_translation.specs.Translation.{code_of}
use Rattle.code_listing.specs.Listing.{listing}
use Rattle.ac_outside.specs.Disks.{DiskTold, BindsNone}
use Rattle.starting_files.specs.declared.fault.StartFault.TheVariants as f
use Rattle.starting_files.specs.Starting.{AreStarted, AreStopped}
use Rattle.ac_words.specs.declared.task.Task.{Task}
use Rattle.ac_words.specs.declared.task.Task.TheVariants as t
use Rattle.ac_words.specs.declared.task.Telling.{Telling}
use Rattle.ac_words.specs.declared.task.Telling.TheVariants as w
use Rattle.trace_text.specs.Text.{trace_text}
use Rattle.trace_text.specs.Spelling.{IsTheTrace}
use Rattle.trace_text.specs.Outcomes.{trace_limit}
use Rattle.trace_audit.specs.Laws.{trace_of}
use Rattle.trace_audit.specs.RunTrace.{IsRunTrace}
use Rattle.ac_program.specs.declared.execute.Done.{Done}
use Rattle.program_run.specs.declared.ended.Ended.{Ended}
use Rattle.program_reading.specs.declared.refusal.Refusal.{Refusal}
use Rattle.program_reading.specs.Source.{IsReady, Refuses, names_of, needed}
use Rattle.program_run.specs.Run.{IsRunOf}
use Rattle.program_run.specs.DiskLeft.{deeds_of, LeavesDisk}
use Rattle.program_run.specs.Naming.{AreNamed}
use Rattle.ac_program.specs.Summary.{summary_of}
use Rattle.program_reading.specs.Lines.{disk_line, limit_file_line, limit_trace_line, refusal_line, refusal_status}
use Rattle.ac_program.specs.Lines.{accepted_line}

-- ---- files: `disk` and `later` are what the disk tells before and after

-- What want of memory leaves of the files of these paths: nothing was done with them, or some were bound; or all were bound and read, and
-- then, by `between`, a run has begun, of which it is said only that no other file was to be bound.
pub data AreLeft (paths : List (List ℕ)) (disk later : DiskTold) : Type 0 where
  untouched : later ≡ disk → AreLeft paths disk later
  stopped : AreStopped paths f.NoMemory disk later → AreLeft paths disk later
  begun : (start : List (List ℕ)) (between : DiskTold) → AreStarted paths start disk between → BindsNone between later →
      AreLeft paths disk later

-- ---- what is told of a run

-- By its trace: the text that spells it and no other trace, with the status of its cores, or the line of a text that would be too long.
pub data TellsTrace (ended : Ended) (status : ℕ) (text : List ℕ) : Type 0 where
  whole : status ≡ status_of ended.cores → IsTheTrace text (trace_of ended) → length text ≤ trace_limit → TellsTrace ended status text
  long_trace : status ≡ 10 → text ≡ limit_trace_line → trace_limit < length (trace_text (trace_of ended)) → TellsTrace ended status text

-- The status and the text that tell of a run of the program.
abbrev pub Tells : Telling → Program → Ended → ℕ → List ℕ → Type 0
Tells w.Report program ended status text = (status ≡ status_of ended.cores) × (text ≡ report_of (names_of program) ended.cores)
Tells w.Trace program ended status text = TellsTrace ended status text
Tells (w.Summary turns) program ended status text =
    (status ≡ status_of ended.cores) × (text ≡ summary_of turns (status_of ended.cores) ended.cores)

-- ---- what is made

-- Of a run: a run of the program with this bound on steps and the files that were read, and what tells of that very run. `between` is what
-- the disk tells after the files were read; the run has left of it what its history says, in which each request that was done is of a file
-- of the program. Where the disk tells its files, the trace of the run is a run of the program.
pub record IsReported (program : Program) (bound : ℕ) (telling : Telling) (disk later : DiskTold) (done : Done) : Type 0 where
  pub start : List (List ℕ)
  pub between : DiskTold
  pub files : AreStarted (file_paths program.items) start disk between
  pub ended : Ended
  pub kept : done.run ≡ Some ended
  pub is_run : IsRunOf (resolved program) bound start ended
  pub left : LeavesDisk (resolved program) start ended.journals between later
  pub named : AreNamed (length (file_paths program.items)) (deeds_of (resolved program) ended.journals)
  pub tells : Tells telling program ended done.status.number done.text
  pub is_traced : IfSome disk.held (λ held. IsRunTrace (resolved program) (trace_of ended))

-- of what is not run: this text, with status 0, and the disk is left alone
pub record IsTold (text : List ℕ) (disk later : DiskTold) (done : Done) : Type 0 where
  pub no_run : done.run ≡ None
  pub text_is : done.text ≡ text
  pub status : done.status.number ≡ 0
  pub alone : later ≡ disk

-- what a task makes of a program that nothing refuses: what tells of its run, a line that it is accepted, or the listing of its code
abbrev pub Makes : Task → Program → DiskTold → DiskTold → Done → Type 0
Makes (t.Run steps telling) program disk later done = IsReported program steps telling disk later done
Makes t.Check program disk later done = IsTold accepted_line disk later done
Makes t.Code program disk later done = IsTold (listing (code_of (resolved program))) disk later done

-- the status, the text and the run that a task calls for on a program that nothing refuses: of a file that stops it, or of what is made
pub data IsDueOfProgram (task : Task) (program : Program) (disk later : DiskTold) (status : ℕ) (text : List ℕ) (run : Option Ended) :
    Type 0 where
  disk_fault : status ≡ 9 → text ≡ disk_line → run ≡ None → AreStopped (needed task program) f.Failed disk later →
      IsDueOfProgram task program disk later status text run
  long_file : (file : ℕ) → status ≡ 10 → text ≡ limit_file_line file → run ≡ None →
      AreStopped (needed task program) (f.TooLong file) disk later → IsDueOfProgram task program disk later status text run
  made : (done : Done) → status ≡ done.status.number → text ≡ done.text → run ≡ done.run →
      Makes task program disk later done → IsDueOfProgram task program disk later status text run

-- and on a source: of what refuses it, and the disk is left alone, or of its program
pub data IsDueOf (source : List ℕ) (task : Task) (disk later : DiskTold) (status : ℕ) (text : List ℕ) (run : Option Ended) : Type 0 where
  refused : (refusal : Refusal) → status ≡ refusal_status refusal → text ≡ refusal_line refusal → run ≡ None →
      Refuses source task refusal → later ≡ disk → IsDueOf source task disk later status text run
  ready : (program : Program) → IsReady source task program → IsDueOfProgram task program disk later status text run →
      IsDueOf source task disk later status text run

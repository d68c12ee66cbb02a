-- What a call of the program promises. `before` and `after` are what the library tells before and after the call, `disk` and `later` what
-- the disk does, and `sink` and `written` what the sink does.
use Rattle.std.specs.Prelude.{◌≡◌, ◌≢◌, ℕ, ◌≤◌, ◌⊎◌, List, [], length, map, IfSome, Some}
use Rattle.std.specs.declared.option.Option.{Option}
use Rattle.ac_names.specs.Numbered.{file_paths}
use Rattle.ac_outside.specs.Causes.{Rose}
use Rattle.ac_outside.specs.Disks.{DiskTold, Held}
use Rattle.ac_outside.specs.Told.{LibraryTold, SinkTold, GrewBy}
use Rattle.ac_resolve.specs.Resolution.{resolved}
use Rattle.ac_tree.specs.declared.item.Program.{Program}
use Rattle.ac_words.specs.declared.task.Task.TheVariants as t
use Rattle.program_reading.specs.Files.{AreRead}
use Rattle.program_reading.specs.TwoFiles.{IsTraceFor}
use Rattle.program_reading.specs.Reading.{Gave, IsShort}
use Rattle.program_reading.specs.Source.{IsReady}
use Rattle.starting_files.specs.declared.fault.StartFault.TheVariants as f
use Rattle.starting_files.specs.Starting.{AreStarted, AreStopped, bytes_at}
use Rattle.trace_audit.specs.RunTrace.{IsRunTrace}
use Rattle.trace_text.specs.declared.trace.Trace.{Trace}
use Rattle.trace_text.specs.Outcomes.{trace_limit}
use Rattle.trace_text.specs.Spelling.{IsTheTrace}
use Rattle.ac_replay.specs.Replaying.{IsReplayedReport, HoldsContents}
use Rattle.ac_replay.specs.Words.{IsCall, IsNoCall}

-- ---- want of memory

-- The files of these paths hold what they held: nothing was done with them, or some were bound and read, or all were; none was written.
pub data AreUnwritten (paths : List (List ℕ)) (disk later : DiskTold) : Type 0 where
  untouched : later ≡ disk → AreUnwritten paths disk later
  stopped : AreStopped paths f.NoMemory disk later → AreUnwritten paths disk later
  long_file : (file : ℕ) → AreStopped paths (f.TooLong file) disk later → AreUnwritten paths disk later
  started : (start : List (List ℕ)) → AreStarted paths start disk later → AreUnwritten paths disk later

-- the disk is as it was, or so are the files of the program of a text that the library may have given
pub data IsLeft (told : Option (List ℕ)) (disk later : DiskTold) : Type 0 where
  alone : later ≡ disk → IsLeft told disk later
  of_program : (text : List ℕ) (program : Program) → Gave told text → IsReady text t.Check program →
      AreUnwritten (file_paths program.items) disk later → IsLeft told disk later

-- the words are a call, just its files were opened, none of the disk was written, and nothing else
pub record GaveUp (words : List (List ℕ)) (before after : LibraryTold) (disk later : DiskTold) (sink written : SinkTold) : Type 0 where
  pub file : List ℕ
  pub trace : List ℕ
  pub is_call : IsCall words file trace
  pub are_read : AreRead file trace before after
  pub left : IsLeft (before.text_at file) disk later
  pub nothing : GrewBy sink.held written.held []

-- ---- what each status means

-- 1 where the words are no call, unless the sink failed, and for no other words
pub record TellsUsage (words : List (List ℕ)) (status : ℕ) : Type 0 where
  pub told : status ≡ 1 → IsNoCall words
  pub only : IsNoCall words → (status ≡ 1) ⊎ (status ≡ 8)

-- 9 where a call of the disk failed, unless one of the sink did too, and at no other time
pub record TellsDisk (disk later : DiskTold) (status : ℕ) : Type 0 where
  pub told : status ≡ 9 → Rose disk.faults later.faults
  pub only : status ≢ 9 → status ≢ 8 → later.faults ≡ disk.faults

-- ---- a run again

-- the status of a report
abbrev pub IsOfCores : ℕ → Type 0
IsOfCores status = (status ≡ 0) ⊎ (status ≡ 4) ⊎ (status ≡ 5) ⊎ (status ≡ 6)

-- The library tells a program, a check of which nothing refuses, and the text of a trace that is a run of it, and the disk tells its files,
-- of which those of the program are as they were when the run began.
pub record IsToRunAgain (file trace : List ℕ) (before : LibraryTold) (disk : DiskTold) : Type 0 where
  pub source : List ℕ
  pub traced : List ℕ
  pub program : Program
  pub told : Trace
  pub held : Held
  pub has_source : before.text_at file ≡ Some source
  pub short_source : IsShort source
  pub is_ready : IsReady source t.Check program
  pub has_trace : before.text_at trace ≡ Some traced
  pub short_trace : length traced ≤ trace_limit
  pub is_trace : IsTraceFor program traced told
  pub is_run : IsRunTrace (resolved program) told
  pub holds : disk.held ≡ Some held
  pub start : told.start ≡ map (bytes_at held) (file_paths program.items)

-- The trace of the one file is a run of the program of the other, from the files of the program as the disk held them; the report of its
-- cores' ends in the code was written, with their status; and the disk holds what its history has made of the files.
pub record IsRunAgain (file trace : List ℕ) (before : LibraryTold) (disk later : DiskTold) (status : ℕ) (sink written : SinkTold)
    : Type 0 where
  pub source : List ℕ
  pub traced : List ℕ
  pub program : Program
  pub told : Trace
  pub gave : Gave (before.text_at file) source
  pub gave_trace : Gave (before.text_at trace) traced
  pub is_ready : IsReady source t.Check program
  pub spelled : IsTheTrace traced told
  pub is_run : IsRunTrace (resolved program) told
  pub start : IfSome disk.held (λ held. told.start ≡ map (bytes_at held) (file_paths program.items))
  pub text : List ℕ
  pub report : IsReplayedReport program told status text
  pub taken : GrewBy sink.held written.held text
  pub contents : IfSome disk.held (λ held. (left : Held) × (later.held ≡ Some left) × HoldsContents program told held left)

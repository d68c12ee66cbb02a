-- What doing a trace again on a disk comes to is what is due of its files: by cases on why it was not all done.
use Rattle.std.proofs.Common.{◌≡◌, ℕ, List, Result, Ok, Err, ◌∙◌, subst, length}
use Rattle.std.specs.Prelude.{IfOk, OnErr}
use Rattle.ac_names.specs.Numbered.{file_paths}
use Rattle.ac_outside.specs.Disks.{DiskTold}
use Rattle.ac_resolve.specs.Resolution.{resolved}
use Rattle.ac_tree.specs.declared.item.Program.{Program}
use Rattle.program_reading.specs.Lines.{disk_line}
use Rattle.program_run.specs.Naming.{AreNamed}
use Rattle.starting_files.specs.declared.fault.StartFault.TheVariants as f
use Rattle.trace_text.specs.declared.trace.Trace.{Trace}
use Rattle.trace_writes.specs.declared.write.FileWrite.{FileWrite}
use Rattle.trace_audit.specs.RunTrace.{IsRunTrace}
use Rattle.ac_replay.specs.Due.{IsDueOfFiles, IsDueOfRun}
use Rattle.ac_replay.specs.Due.IsDueOfFiles.{disk_fault, long_file, differs, torn, repeated}
use Rattle.ac_replay.specs.Due.IsDueOfRun.{run}
use Rattle.ac_replay.specs.Headline.{AreUnwritten, stopped, started, untouched}
use Rattle.ac_replay.specs.Headline.AreUnwritten.{long_file as left_long}
use Rattle.ac_replay.specs.Replaying.{IsReplayedReport, deeds_in, writes_in}
use Rattle.ac_replay.specs.declared.doing.Halt.{Halt}
use Rattle.ac_replay.specs.declared.doing.Halt.TheVariants.{Stopped, Differs, Torn}
use Rattle.ac_replay.specs.declared.lines.Said.{Said}
use Rattle.ac_replay.specs.inner.Doing.{IsDoneAgain, IsSaidOf, TakesMemory, TellsHalt}

module _ (program : Program) (t : Trace) (disk later : DiskTold) (paths told : List (List ℕ)) (ws : List FileWrite) (same_paths : paths ≡ file_paths program.items) (same_told : told ≡ t.start)
    (same_ws : ws ≡ writes_in (resolved program) t) where
  abbrev Done : Result (Unit {0}) Halt → Type 0
  Done r = IsDoneAgain (file_paths program.items) t.start (writes_in (resolved program) t) disk later r

  moved : (r : Result (Unit {0}) Halt) → IsDoneAgain paths told ws disk later r → Done r
  moved r d =
      subst (λ vs. IsDoneAgain (file_paths program.items) t.start vs disk later r) same_ws
      (subst (λ files. IsDoneAgain (file_paths program.items) files ws disk later r) same_told (subst (λ ps. IsDoneAgain ps told ws disk later r) same_paths d))

  abbrev ok : Result (Unit {0}) Halt
  ok = Ok tt

  abbrev halted : Halt → Result (Unit {0}) Halt
  halted halt = Err halt

  pub due_repeated : (status : ℕ) (text : List ℕ) → IsDoneAgain paths told ws disk later ok → AreNamed (length (file_paths program.items)) (deeds_in (resolved program) t)
      → IsReplayedReport program t status text → IsDueOfFiles program t disk later status text
  due_repeated status text d named report = let m = moved ok d in repeated m.0 m.1 named m.2 report

  due_halt : (halt : Halt) (fault : List ℕ) (status : ℕ) (text : List ℕ) → fault ≡ disk_line → IsDoneAgain paths told ws disk later (halted halt) → IsSaidOf halt fault status text
      → IsDueOfFiles program t disk later status text
  due_halt Torn fault status text line d said = let m = moved (halted Torn) d in torn m.0 said.0 (said.1 ∙ line) m.1 m.2
  due_halt (Differs file) fault status text line d said = let m = moved (halted (Differs file)) d in differs m.0 file said.0 said.1 m.1 m.2
  due_halt (Stopped f.Failed) fault status text line d said = disk_fault said.0 (said.1 ∙ line) (moved (halted (Stopped f.Failed)) d)
  due_halt (Stopped f.NoMemory) fault status text line d said = absurd said
  due_halt (Stopped (f.TooLong file)) fault status text line d said = long_file file said.0 said.1 (moved (halted (Stopped (f.TooLong file))) d)

  left_halt : (halt : Halt) → IsDoneAgain paths told ws disk later (halted halt) → TakesMemory halt → AreUnwritten (file_paths program.items) disk later
  left_halt Torn d takes = absurd takes
  left_halt (Differs file) d takes = let m = moved (halted (Differs file)) d in started m.0 m.1
  left_halt (Stopped f.Failed) d takes = absurd takes
  left_halt (Stopped f.NoMemory) d takes = stopped (moved (halted (Stopped f.NoMemory)) d)
  left_halt (Stopped (f.TooLong file)) d takes = left_long file (moved (halted (Stopped (f.TooLong file))) d)

  pub due_said : {E : Type 0} (r : Result Said E) (halt : Halt) (fault : List ℕ) → fault ≡ disk_line → IsDoneAgain paths told ws disk later (halted halt) → TellsHalt halt fault r
      → IfOk r (λ it. IsDueOfFiles program t disk later it.status.number it.text)
  due_said (Ok said) halt fault line d tells = due_halt halt fault said.status.number said.text line d tells
  due_said (Err e) halt fault line d tells = tt

  pub left_unsaid : {E : Type 0} (r : Result Said E) (halt : Halt) (fault : List ℕ) → IsDoneAgain paths told ws disk later (halted halt) → TellsHalt halt fault r
      → OnErr r (AreUnwritten (file_paths program.items) disk later)
  left_unsaid (Ok said) halt fault d tells = tt
  left_unsaid (Err e) halt fault d tells = left_halt halt d tells

-- memory was refused before the disk was called
pub left_alone : {T E : Type 0} (r : Result T E) (paths : List (List ℕ)) (disk later : DiskTold) → later ≡ disk → OnErr r (AreUnwritten paths disk later)
left_alone (Ok x) paths disk later same = tt
left_alone (Err e) paths disk later same = untouched same

-- of a trace that is a run
pub due_of_run : {E : Type 0} (r : Result Said E) (program : Program) (t : Trace) (disk later : DiskTold) → IsRunTrace (resolved program) t
    → IfOk r (λ it. IsDueOfFiles program t disk later it.status.number it.text) → IfOk r (λ it. IsDueOfRun program t disk later it.status.number it.text)
due_of_run (Ok said) program t disk later is due = run is due
due_of_run (Err e) program t disk later is due = tt

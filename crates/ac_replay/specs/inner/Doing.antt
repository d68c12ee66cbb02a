-- What each part of the work on a trace that is a run gives.
use Rattle.std.specs.Prelude.{◌≡◌, ◌≢◌, ◌≤◌, ℕ, All, AllPairs, List, Result, Ok, Err, length}
use Rattle.std.specs.Str.{IsUtf8}
use Rattle.ac_names.specs.Numbered.{file_paths}
use Rattle.ac_outside.specs.Disks.{DiskTold}
use Rattle.ac_resolve.specs.Resolution.{resolved}
use Rattle.ac_tree.specs.declared.item.Program.{Program}
use Rattle.starting_files.specs.Starting.{AreStarted, AreStopped}
use Rattle.trace_text.specs.declared.trace.Trace.{Trace}
use Rattle.trace_writes.specs.declared.write.FileWrite.{FileWrite}
use Rattle.trace_writes.specs.Doing.{DidAll, DidSome}
use Rattle.ac_replay.specs.declared.doing.Halt.{Halt}
use Rattle.ac_replay.specs.declared.doing.Halt.TheVariants.{Stopped, Differs, Torn}
use Rattle.ac_replay.specs.declared.lines.Said.{Said}
use Rattle.ac_replay.specs.declared.running.Redo.{Redo}
use Rattle.program_reading.specs.Lines.{limit_file_line}
use Rattle.starting_files.specs.declared.fault.StartFault.TheVariants.{Failed, TooLong, NoMemory}
use Rattle.ac_replay.specs.Due.{IsFirstOther}
use Rattle.ac_replay.specs.Lines.{differs_line}
use Rattle.ac_replay.specs.Replaying.{IsReplayedReport, writes_in}

-- the paths of the files of a program that is accepted
pub record HasPaths (program : Program) : Type 0 where
  pub few : length (file_paths program.items) ≤ 16
  pub texts : All IsUtf8 (file_paths program.items)
  pub differ : AllPairs (λ path other. path ≢ other) (file_paths program.items)

-- the report that is written in the end, and the writes that are done before
pub record IsRedo (program : Program) (t : Trace) (redo : Redo) : Type 0 where
  pub report : IsReplayedReport program t redo.status.number redo.report
  pub writes : redo.writes ≡ writes_in (resolved program) t

-- the files of these paths held what is told, and all writes were done on them; or one was not had, or held other bytes, or a write failed
abbrev pub IsDoneAgain : {T : Type 0} → List (List ℕ) → List (List ℕ) → List FileWrite → DiskTold → DiskTold → Result T Halt → Type 0
IsDoneAgain paths told ws disk later (Ok done) = (between : DiskTold) × AreStarted paths told disk between × DidAll ws between later
IsDoneAgain paths told ws disk later (Err (Stopped fault)) = AreStopped paths fault disk later
IsDoneAgain paths told ws disk later (Err (Differs file)) =
    (start : List (List ℕ)) × AreStarted paths start disk later × IsFirstOther start told file
IsDoneAgain paths told ws disk later (Err Torn) = (between : DiskTold) × AreStarted paths told disk between × DidSome ws between later

-- what is said of it, with this line of a failed disk
abbrev pub IsSaidOf : Halt → List ℕ → ℕ → List ℕ → Type 0
IsSaidOf Torn fault status text = (status ≡ 9) × (text ≡ fault)
IsSaidOf (Differs file) fault status text = (status ≡ 19) × (text ≡ differs_line file)
IsSaidOf (Stopped Failed) fault status text = (status ≡ 9) × (text ≡ fault)
IsSaidOf (Stopped NoMemory) fault status text = ⊥
IsSaidOf (Stopped (TooLong file)) fault status text = (status ≡ 10) × (text ≡ limit_file_line file)

-- it takes no memory to say that the disk failed
abbrev pub TakesMemory : Halt → Type 0
TakesMemory Torn = ⊥
TakesMemory (Differs file) = Unit {0}
TakesMemory (Stopped Failed) = ⊥
TakesMemory (Stopped NoMemory) = Unit {0}
TakesMemory (Stopped (TooLong file)) = Unit {0}

abbrev pub TellsHalt : {E : Type 0} → Halt → List ℕ → Result Said E → Type 0
TellsHalt halt fault (Ok said) = IsSaidOf halt fault said.status.number said.text
TellsHalt halt fault (Err e) = TakesMemory halt

-- What each part of the work on a source gives: what it makes, or why it stops.
use Rattle.std.specs.Prelude.{◌≡◌, ◌<◌, ◌≤◌, ◌^◌, ℕ, List, length, All, None, Result, Ok, Err}
use Rattle.ac_tree.specs.declared.item.Program.{Program}
use Rattle.ac_program.specs.declared.execute.Done.{Done}
use Rattle.program_reading.specs.declared.refusal.Stop.TheVariants as s
use Rattle.ac_words.specs.declared.task.Task.{Task}
use Rattle.ac_outside.specs.Disks.{DiskTold}
use Rattle.starting_files.specs.declared.fault.StartFault.{StartFault}
use Rattle.starting_files.specs.declared.fault.StartFault.TheVariants as f
use Rattle.starting_files.specs.Starting.{AreStopped}
use Rattle.program_reading.specs.Source.{needed}
use Rattle.ac_base.specs.Report.{report_of, status_of}
use Rattle.program_run.specs.declared.ended.Ended.{Ended}
use Rattle.program_run.specs.Run.{history_of}
use Rattle.trace_text.specs.declared.trace.Trace.{Trace}
use Rattle.ac_words.specs.declared.task.Telling.{Telling}
use Rattle.ac_words.specs.declared.task.Telling.TheVariants as w
use Rattle.ac_program.specs.declared.telling.Told.{Told}
use Rattle.ac_program.specs.Auditing.{IsDueOfRun, IsDueOfTraced}
use Rattle.ac_program.specs.Summary.{summary_of}
use Rattle.ac_program.specs.Making.{AreLeft, Makes, TellsTrace}

-- what work on a program gives in the end: what the task makes of it, or what a file that stopped it, or want of memory, left of the disk
abbrev pub GivesDone : Task → Program → DiskTold → DiskTold → Result Done StartFault → Type 0
GivesDone task program disk later (Ok done) = Makes task program disk later done
GivesDone task program disk later (Err f.Failed) = AreStopped (needed task program) f.Failed disk later
GivesDone task program disk later (Err (f.TooLong file)) = AreStopped (needed task program) (f.TooLong file) disk later
GivesDone task program disk later (Err f.NoMemory) = AreLeft (needed task program) disk later

-- this text with status 0, and no run
pub record GivesText (text : List ℕ) (done : Done) : Type 0 where
  pub no_run : done.run ≡ None
  pub text_is : done.text ≡ text
  pub status : done.status.number ≡ 0

-- ---- what tells of a run

-- enough is known of the run for its trace to be one that a text can tell, where its numbers fit their types
pub record IsTellable (ended : Ended) : Type 0 where
  pub steps_least : 1 ≤ ended.steps
  pub steps_most : ended.steps ≤ 2000000
  pub few_files : length ended.start ≤ 2 ^ 32
  pub few_journals : length ended.journals ≤ 2 ^ 32
  pub some_core : 1 ≤ length ended.cores
  pub few_cores : length ended.cores ≤ 2 ^ 32
  pub stamps_least : All (λ s. 1 ≤ s.entry.stamp) (history_of ended.journals)
  pub stamps_most : All (λ s. s.entry.stamp < 2 ^ 60) (history_of ended.journals)

abbrev pub GivesTraced : Ended → Told → Type 0
GivesTraced ended told = TellsTrace ended told.status.number told.text

abbrev pub GivesTelling : Telling → List (List ℕ) → Ended → Told → Type 0
GivesTelling w.Report names ended told = (told.status.number ≡ status_of ended.cores) × (told.text ≡ report_of names ended.cores)
GivesTelling w.Trace names ended told = GivesTraced ended told
GivesTelling (w.Summary turns) names ended told =
    (told.status.number ≡ status_of ended.cores) × (told.text ≡ summary_of turns (status_of ended.cores) ended.cores)

-- ---- what an audit comes to

pub record GivesVerdict (program : Program) (trace : Trace) (done : Done) : Type 0 where
  pub no_run : done.run ≡ None
  pub due : IsDueOfRun program trace done.status.number done.text

pub record GivesAnswer (program : Program) (traced : List ℕ) (done : Done) : Type 0 where
  pub no_run : done.run ≡ None
  pub due : IsDueOfTraced program traced done.status.number done.text

-- What a call of the program promises, on one page. `before` and `after` are what the library tells before and after the call, `disk` and
-- `later` what the disk does, and `sink` and `written` what the sink does.
use Rattle.std.specs.Prelude.{◌≡◌, ◌≢◌, ℕ, ◌+◌, ◌^◌, ◌<◌, ◌≤◌, ◌⊎◌, List, [], length, map, All, Contains}
use Rattle.std.specs.Prelude.{is_some, IsTrue, IfSome, None, Some}
use Rattle.std.specs.declared.option.Option.{Option}
use Rattle.ac_base.specs.Log.{Log}
use Rattle.ac_lexer.specs.declared.fault.LexFault.{LexFault}
use Rattle.ac_tree.specs.declared.item.Program.{Program}
use Rattle.ac_names.specs.Numbered.{file_paths}
use Rattle.ac_resolve.specs.Resolution.{resolved}
use Rattle.program_reading.specs.declared.refusal.BrokenRule.{BrokenRule}
use Rattle.ac_outside.specs.Causes.{Rose}
use Rattle.ac_outside.specs.Told.{LibraryTold, SinkTold, GrewBy}
use Rattle.ac_outside.specs.Disks.{DiskTold}
use Rattle.starting_files.specs.Starting.{bytes_at, most_bytes}
use Rattle.program_run.specs.declared.ended.Ended.{Ended}
use Rattle.ac_words.specs.declared.task.Task.{Task}
use Rattle.ac_words.specs.declared.task.Task.TheVariants as t
use Rattle.ac_words.specs.declared.task.Telling.{Telling}
use Rattle.ac_words.specs.declared.task.Telling.TheVariants as w
use Rattle.ac_words.specs.Words.{Asked, Does, Audits, Loads, IsCall}
use Rattle.ac_file_server.specs.ServerText.{load_text}
use Rattle.trace_text.specs.Spelling.{IsTheTrace}
use Rattle.trace_audit.specs.RunTrace.{IsRunTrace}
use Rattle.trace_audit.specs.Laws.{trace_of}
use Rattle.program_reading.specs.Reading.{Gave, TookBytes, IsRead, IsReadWhole, IsTried, IsShort}
use Rattle.program_reading.specs.Writing.{TookFront}
use Rattle.program_reading.specs.Source.{HasFault, IsUnexpected, IsTooDeep, IsBroken, IsTooMany, IsReady, needed}
use Rattle.ac_history.specs.Files.{padded, IsServed}
use Rattle.program_run.specs.Run.{IsRunOf, history_of}
use Rattle.program_run.specs.DiskLeft.{deeds_of}
use Rattle.ac_program.specs.Making.{IsDueOf, AreLeft, Tells}
use Rattle.program_reading.specs.Files.{AreRead}
use Rattle.ac_program.specs.Auditing.{IsDueOfAudit}
use Rattle.program_reading.specs.Lines.{library_line, limit_source_line}
use Rattle.ac_program.specs.Lines.{usage_line}

-- the words are not `run`, `trace`, `check` or `code` with one file, `audit` with two or `load` with a number of turns, where after `run`,
-- `trace` and `load` there may be one bound on steps
abbrev pub IsNoCall : List (List ℕ) → Type 0
IsNoCall words = (asked : Asked) → IsCall words asked → ⊥

-- ---- what is due: the status, the text that is written and the run that is kept, by the first refusal in the order of work

-- for a task on this file: the library failed, or one byte too many was taken, or the text was read whole
pub data IsDueOfFile (file : List ℕ) (task : Task) (before after : LibraryTold) (disk later : DiskTold)
    (status : ℕ) (text : List ℕ) (run : Option Ended) : Type 0 where
  library_fault : status ≡ 7 → text ≡ library_line → run ≡ None → IsTried before after file → Rose before.faults after.faults →
      later ≡ disk → IsDueOfFile file task before after disk later status text run
  too_long : status ≡ 10 → text ≡ limit_source_line → run ≡ None → IsRead before after file →
      TookBytes (before.text_at file) after.left (1048576 + 1) → later ≡ disk →
      IsDueOfFile file task before after disk later status text run
  source : (bytes : List ℕ) → IsReadWhole before after file bytes → Gave (before.text_at file) bytes → IsShort bytes →
      IsDueOf bytes task disk later status text run → IsDueOfFile file task before after disk later status text run

-- a run with this bound on steps that is told by the summary of a load of so many turns
abbrev pub summed : ℕ → ℕ → Task
summed turns steps = t.Run steps (w.Summary turns)

-- for any words: where they are no call, the usage line, and the library and the disk are left alone; and a load runs the text of the file
-- server, and leaves the library alone
pub data IsDue (words : List (List ℕ)) (before after : LibraryTold) (disk later : DiskTold)
    (status : ℕ) (text : List ℕ) (run : Option Ended) : Type 0 where
  usage : status ≡ 1 → text ≡ usage_line → run ≡ None → IsNoCall words → after ≡ before → later ≡ disk →
      IsDue words before after disk later status text run
  call : (task : Task) (file : List ℕ) → IsCall words (Does task file) → IsDueOfFile file task before after disk later status text run →
      IsDue words before after disk later status text run
  audit : (file trace : List ℕ) → IsCall words (Audits file trace) → run ≡ None → later ≡ disk →
      IsDueOfAudit file trace before after status text → IsDue words before after disk later status text run
  load : (turns steps : ℕ) → IsCall words (Loads turns steps) → after ≡ before →
      IsDueOf (load_text turns) (summed turns steps) disk later status text run → IsDue words before after disk later status text run

-- the sink has taken all of a text that is due with this status and this run
pub record TookWhole (Due : ℕ → List ℕ → Option Ended → Type 0) (status : ℕ) (run : Option Ended) (sink written : SinkTold) : Type 0 where
  pub text : List ℕ
  pub due : Due status text run
  pub taken : GrewBy sink.held written.held text

-- the sink has taken a front, and not the whole, of a text that is due with some status and this run
pub record TookPart (Due : ℕ → List ℕ → Option Ended → Type 0) (run : Option Ended) (sink written : SinkTold) : Type 0 where
  pub status : ℕ
  pub text : List ℕ
  pub due : Due status text run
  pub taken : TookFront sink.held written.held text

-- what want of memory leaves of the disk: as it was, or as the files of the program of a text that the library may have given were left
pub data IsLeft (told : Option (List ℕ)) (task : Task) (disk later : DiskTold) : Type 0 where
  alone : later ≡ disk → IsLeft told task disk later
  of_program : (text : List ℕ) (program : Program) → Gave told text → IsReady text task program →
      AreLeft (needed task program) disk later → IsLeft told task disk later

-- the words are a call, just its files were opened, and this is left of the disk
pub data IsCutShort (words : List (List ℕ)) (before after : LibraryTold) (disk later : DiskTold) : Type 0 where
  of_task : (task : Task) (file : List ℕ) → IsCall words (Does task file) → IsRead before after file →
      IsLeft (before.text_at file) task disk later → IsCutShort words before after disk later
  of_audit : (file trace : List ℕ) → IsCall words (Audits file trace) → AreRead file trace before after → later ≡ disk →
      IsCutShort words before after disk later
  of_load : (turns steps : ℕ) → IsCall words (Loads turns steps) → after ≡ before →
      IsLeft (Some (load_text turns)) (summed turns steps) disk later → IsCutShort words before after disk later

-- memory was refused: the words are a call, nothing is written and no run is kept
pub record GaveUp (words : List (List ℕ)) (before after : LibraryTold) (disk later : DiskTold) (run : Option Ended)
    (sink written : SinkTold) : Type 0 where
  pub cut : IsCutShort words before after disk later
  pub no_run : run ≡ None
  pub nothing : GrewBy sink.held written.held []

-- ---- what each status means

-- 1 where the words are no call, unless the sink failed, and for no other words
pub record TellsUsage (words : List (List ℕ)) (status : ℕ) : Type 0 where
  pub told : status ≡ 1 → IsNoCall words
  pub only : IsNoCall words → (status ≡ 1) ⊎ (status ≡ 8)

-- 9 where a call of the disk failed, unless one of the sink did too, and at no other time but in a run: what failed there is answered to
-- its requests (`LeavesDisk` of program_run)
pub record TellsDisk (disk later : DiskTold) (status : ℕ) (run : Option Ended) : Type 0 where
  pub told : status ≡ 9 → Rose disk.faults later.faults
  pub only : status ≢ 9 → status ≢ 8 → status ≢ 11 → run ≡ None → later.faults ≡ disk.faults

-- none of these, nor 11, where memory was refused: it is for the text of the file to decide, and the files of its program
pub record IsOfText (status : ℕ) : Type 0 where
  pub usage : status ≢ 1
  pub library : status ≢ 7
  pub sink : status ≢ 8
  pub disk : status ≢ 9
  pub memory : status ≢ 11

-- the bytes that the files of these paths hold, where the disk tells them
abbrev pub AreHeld : DiskTold → List (List ℕ) → List (List ℕ) → Type 0
AreHeld disk paths start = IfSome disk.held (λ held. start ≡ map (bytes_at held) paths)

-- each read in a run with these journals was given what stood there, where the disk tells its files
abbrev pub AreServed : DiskTold → Program → List (List ℕ) → List Log → Type 0
AreServed disk program start journals = IfSome disk.held (λ held. IsServed (padded start) (deeds_of (resolved program) journals))

-- a run of the program with this bound on steps and the files that the disk holds, which is told with this status
pub record HasRun (program : Program) (steps : ℕ) (telling : Telling) (disk : DiskTold) (status : ℕ) : Type 0 where
  pub start : List (List ℕ)
  pub each_file : length start ≡ length (file_paths program.items)
  pub are_held : AreHeld disk (file_paths program.items) start
  pub ended : Ended
  pub is_run : IsRunOf (resolved program) steps start ended
  pub are_served : AreServed disk program start ended.journals
  pub line : List ℕ
  pub tells : Tells telling program ended status line

-- the status of what a task makes of a program: that with which a run is told, and else 0
abbrev pub GivesStatus : Task → Program → DiskTold → ℕ → Type 0
GivesStatus (t.Run steps telling) program disk status = HasRun program steps telling disk status
GivesStatus t.Check program disk status = status ≡ 0
GivesStatus t.Code program disk status = status ≡ 0

-- no file of these paths is too long, and one of them is, where the disk tells them
abbrev pub AreShort : DiskTold → List (List ℕ) → Type 0
AreShort disk paths = IfSome disk.held (λ held. All (λ path. length (bytes_at held path) ≤ most_bytes) paths)

pub record HasLong (disk : DiskTold) (paths : List (List ℕ)) : Type 0 where
  pub path : List ℕ
  pub is_one : Contains paths path
  pub over : IfSome disk.held (λ held. most_bytes < length (bytes_at held path))

-- the statuses that a text calls for, by the task, over the files that the disk holds
pub data CallsFor (text : List ℕ) (task : Task) (disk : DiskTold) (status : ℕ) : Type 0 where
  -- 2: a lexical fault, or a token with which no program goes on
  bad_token : (fault : LexFault) → status ≡ 2 → IsShort text → HasFault text fault → CallsFor text task disk status
  unexpected : (at : ℕ) → status ≡ 2 → IsShort text → IsUnexpected text at → CallsFor text task disk status
  -- 3: its program breaks a rule
  broken : (rule : BrokenRule) → status ≡ 3 → IsShort text → IsBroken text rule → CallsFor text task disk status
  -- 10: the text is too long, a token is too deep, the steps of all cores together in a run are too many, or a file is too long
  over_long : status ≡ 10 → 1048576 < length text → CallsFor text task disk status
  too_deep : (at : ℕ) → status ≡ 10 → IsShort text → IsTooDeep text at → CallsFor text task disk status
  too_many : status ≡ 10 → IsShort text → IsTooMany text task → CallsFor text task disk status
  long_file : (program : Program) → status ≡ 10 → IsShort text → IsReady text task program → HasLong disk (needed task program) →
      CallsFor text task disk status
  -- 0, in a run also 4, 5 or 6, and 10 where its trace is too long: nothing refuses it, and this is the status of what is made of its
  -- program
  made : (program : Program) → IsShort text → IsReady text task program → AreShort disk (needed task program) →
      GivesStatus task program disk status → CallsFor text task disk status

-- Two runs of its program, which has a channel or a file, have these statuses: a program does not say which of the messages for a core, or
-- of the requests of files, come first, nor where a call of the disk fails.
pub record AreOfRuns (text : List ℕ) (task : Task) (disk : DiskTold) (status number : ℕ) : Type 0 where
  pub steps : ℕ
  pub telling : Telling
  pub program : Program
  pub is_run : task ≡ t.Run steps telling
  pub is_ready : IsReady text task program
  pub meets : 1 ≤ length (resolved program).channels + length (resolved program).files
  pub one : HasRun program steps telling disk status
  pub other : HasRun program steps telling disk number

-- the text calls for the status, and for another only where both are statuses of runs of its program
pub record IsCalledFor (text : List ℕ) (task : Task) (disk : DiskTold) (status : ℕ) : Type 0 where
  pub calls : CallsFor text task disk status
  pub only : (number : ℕ) → CallsFor text task disk number → (number ≡ status) ⊎ AreOfRuns text task disk status number

-- the disk tells its files, where the program of the text needs any for the task
abbrev pub KnowsFiles : List ℕ → Task → DiskTold → Type 0
KnowsFiles text task disk = (program : Program) → IsReady text task program → 1 ≤ length (needed task program) → IsTrue (is_some disk.held)

-- A text that the library may have given calls for the status; and where the library tells that text, and the disk the files of its
-- program, for no other, but as its runs differ.
pub record IsDecided (task : Task) (file : List ℕ) (before after : LibraryTold) (disk : DiskTold) (status : ℕ) : Type 0 where
  pub text : List ℕ
  pub is_read : IsRead before after file
  pub gave : Gave (before.text_at file) text
  pub calls : CallsFor text task disk status
  pub only : (known : List ℕ) → before.text_at file ≡ Some known → KnowsFiles known task disk → IsCalledFor known task disk status

-- The text of the file server calls for the status of its load, and the library is left alone; and for no other, but as its runs differ,
-- where the disk tells the files of its program.
pub record IsLoaded (turns steps : ℕ) (before after : LibraryTold) (disk : DiskTold) (status : ℕ) : Type 0 where
  pub untouched : after ≡ before
  pub calls : CallsFor (load_text turns) (summed turns steps) disk status
  pub only : KnowsFiles (load_text turns) (summed turns steps) disk → IsCalledFor (load_text turns) (summed turns steps) disk status

-- ---- a trace that is written

-- the status of a run that is told whole
abbrev pub IsOfCores : ℕ → Type 0
IsOfCores status = (status ≡ 0) ⊎ (status ≡ 4) ⊎ (status ≡ 5) ⊎ (status ≡ 6)

-- What the sink has taken is read back as the trace of the run that is kept and as no other, and that is a run of the program of a text
-- that the library may have given.
pub record ReadsBack (told : Option (List ℕ)) (task : Task) (run : Option Ended) (sink written : SinkTold) : Type 0 where
  pub source : List ℕ
  pub program : Program
  pub gave : Gave told source
  pub is_ready : IsReady source task program
  pub ended : Ended
  pub kept : run ≡ Some ended
  pub text : List ℕ
  pub taken : GrewBy sink.held written.held text
  pub spells : IsTheTrace text (trace_of ended)
  pub is_run : IsRunTrace (resolved program) (trace_of ended)

-- ---- how much a run is

-- it has few entries, and no stamp is above their number
pub record HasFewEntries (ended : Ended) : Type 0 where
  pub entries : length (history_of ended.journals) < 2 ^ 45
  pub stamps : All (λ s. s.entry.stamp ≤ length (history_of ended.journals)) (history_of ended.journals)

-- What each status says on its own, as it follows from the clauses of `ac_main` and from nothing else: what is due is gone through case by
-- case, and a case with another status is absurd.
use Rattle.std.proofs.Common.{◌≢◌, ◌≡◌, ℕ, ◌+◌, ◌<◌, ◌≤◌, ◌↔◌, ◌⊎◌, inl, inr, List, [], length, Option, None, Some, refl, sym, ◌∙◌, subst, arith}
use Rattle.ac_tree.specs.declared.item.Program.{Program}
use Rattle.ac_outside.specs.Told.{LibraryTold, SinkTold, CountsOne, GrewBy}
use Rattle.ac_outside.specs.Disks.{DiskTold}
use Rattle.starting_files.specs.declared.fault.StartFault.TheVariants as f
use Rattle.starting_files.specs.Starting.{AreStopped}
use Rattle.program_reading.specs.declared.refusal.Refusal.{Refusal}
use Rattle.program_run.specs.declared.ended.Ended.{Ended}
use Rattle.ac_program.specs.declared.execute.Done.{Done}
use Rattle.ac_words.specs.declared.task.Task.{Task}
use Rattle.ac_words.specs.declared.task.Task.TheVariants as t
use Rattle.ac_resolve.specs.Resolution.{resolved}
use Rattle.ac_translation.specs.Translation.{code_of}
use Rattle.code_listing.specs.Listing.{listing}
use Rattle.program_reading.specs.Lines.{refusal_status}
use Rattle.ac_program.specs.Lines.{accepted_line}
use Rattle.ac_words.specs.declared.task.Telling.{Telling}
use Rattle.ac_words.specs.declared.task.Telling.TheVariants as way
use Rattle.ac_words.specs.Words.{Asked, Does, Audits, Loads, IsCall}
use Rattle.ac_file_server.specs.ServerText.{load_text}
use Rattle.trace_text.specs.Text.{trace_text}
use Rattle.trace_text.specs.Outcomes.{trace_limit}
use Rattle.trace_audit.specs.Laws.{trace_of}
use Rattle.program_reading.specs.Reading.{Gave, TookBytes, IsRead, IsShort}
use Rattle.program_run.specs.Run.{IsRunOf}
use Rattle.program_reading.specs.Source.{IsAccepted, IsTooMany, IsReady, Refuses, needed}
use Rattle.ac_program.proofs.OneStatus.{one_status}
use Rattle.ac_program.specs.Headline.{IsCutShort, of_task, of_audit, of_load, IsOfCores, IsDue, IsDueOfFile, TookWhole, GaveUp, TellsUsage}
use Rattle.ac_program.specs.Headline.{IsOfText, AreOfRuns, IsCalledFor, IsDecided, IsLoaded, summed, GivesStatus, CallsFor, KnowsFiles, AreShort}
use Rattle.ac_program.specs.Making.{Makes, IsDueOf, Tells, TellsTrace, whole, long_trace}
use Rattle.ac_program.specs.Making.IsDueOf.{refused, ready}
use Rattle.ac_program.specs.Making.IsDueOfProgram.{disk_fault, long_file as is_over, made as is_done}
use Rattle.ac_program.specs.Headline.IsDueOfFile.{library_fault, too_long, source}
use Rattle.ac_program.specs.Headline.IsDue.{usage, call, audit, load}
use Rattle.ac_program.specs.Headline.CallsFor.{made}
use Rattle.ac_program.proofs.Statuses.{IsOfRefusal, IsOfMade, of_cores, made_status, told_status, not_above, not_made, not_one, of_refusal, apart, apart_made, one, seven, eight, nine, eleven}
use Rattle.program_reading.proofs.Refusals.{refused_once, refused_not, some_status}
use Rattle.ac_program.proofs.Calls.{IsRefusedAs, IsFiled, IsMadeAs, Way, is_long, is_refused, is_filed, is_made, way_of, calls_refused, not_filed}
use Rattle.ac_program.proofs.Reasons.{none_long}

-- ---- what is said

-- the words are a call
pub record IsSomeCall (words : List (List ℕ)) : Type 0 where
  pub asked : Asked
  pub is_call : IsCall words asked

-- the words are a call, and one byte past the limit of the text of its file was taken
pub record IsTooLong (words : List (List ℕ)) (before after : LibraryTold) : Type 0 where
  pub task : Task
  pub file : List ℕ
  pub is_call : IsCall words (Does task file)
  pub well : IsRead before after file
  pub took : TookBytes (before.text_at file) after.left (1048576 + 1)

-- the words call for this task with this source, which was read whole and is within the limit, or with the text of the file server
pub data HasRead (words : List (List ℕ)) (before after : LibraryTold) : Task → List ℕ → Type 0 where
  of_file : {task : Task} {bytes : List ℕ} (file : List ℕ) → IsCall words (Does task file) → IsRead before after file → Gave (before.text_at file) bytes → length bytes ≤ 1048576
      → HasRead words before after task bytes
  of_server : (turns steps : ℕ) → IsCall words (Loads turns steps) → after ≡ before → HasRead words before after (summed turns steps) (load_text turns)

-- the words call for a task with a source that is refused with that status
pub record IsRefused (number : ℕ) (words : List (List ℕ)) (before after : LibraryTold) : Type 0 where
  pub task : Task
  pub bytes : List ℕ
  pub read : HasRead words before after task bytes
  pub is_refused : IsRefusedAs number bytes task

-- the words call for a task with a source that is ready, and a file of its program is too long
pub record IsLongFile (words : List (List ℕ)) (before after : LibraryTold) (disk later : DiskTold) : Type 0 where
  pub task : Task
  pub bytes : List ℕ
  pub read : HasRead words before after task bytes
  pub program : Program
  pub is_ready : IsReady bytes task program
  pub file : ℕ
  pub stopped : AreStopped (needed task program) (f.TooLong file) disk later

-- or a call of the disk failed at one
pub record IsFailedFile (words : List (List ℕ)) (before after : LibraryTold) (disk later : DiskTold) : Type 0 where
  pub task : Task
  pub bytes : List ℕ
  pub read : HasRead words before after task bytes
  pub program : Program
  pub is_ready : IsReady bytes task program
  pub stopped : AreStopped (needed task program) f.Failed disk later

-- the words call for the trace of a source that is ready, and that of the run that is kept has too long a text
pub record IsLongTrace (words : List (List ℕ)) (before after : LibraryTold) (run : Option Ended) : Type 0 where
  pub steps : ℕ
  pub bytes : List ℕ
  pub read : HasRead words before after (t.Run steps way.Trace) bytes
  pub program : Program
  pub is_ready : IsReady bytes (t.Run steps way.Trace) program
  pub start : List (List ℕ)
  pub ended : Ended
  pub kept : run ≡ Some ended
  pub is_run : IsRunOf (resolved program) steps start ended
  pub long : trace_limit < length (trace_text (trace_of ended))

-- something that is counted is over its limit
pub data IsOver (words : List (List ℕ)) (before after : LibraryTold) (disk later : DiskTold) (run : Option Ended) : Type 0 where
  long_source : IsTooLong words before after → IsOver words before after disk later run
  refused_source : IsRefused 10 words before after → IsOver words before after disk later run
  file_too_long : IsLongFile words before after disk later → IsOver words before after disk later run
  trace_too_long : IsLongTrace words before after run → IsOver words before after disk later run

over_trace : (ended : Ended) (status : ℕ) (text : List ℕ) → status ≡ 10 → TellsTrace ended status text → trace_limit < length (trace_text (trace_of ended))
over_trace ended status text e (whole n s l) = absurd (not_above status 10 (subst IsOfCores (sym n) (of_cores ended.cores)) e (omega arith))
over_trace ended status text e (long_trace n x o) = o

-- this is a run of the program with this bound, and it is told with this status and this text
pub record IsRunOnce (program : Program) (steps : ℕ) (telling : Telling) (status : ℕ) (text : List ℕ) (run : Option Ended) : Type 0 where
  pub start : List (List ℕ)
  pub ended : Ended
  pub kept : run ≡ Some ended
  pub is_run : IsRunOf (resolved program) steps start ended
  pub tells : Tells telling program ended status text

-- this text with status 0, and no run is kept
pub record IsTextOnly (wanted : List ℕ) (status : ℕ) (text : List ℕ) (run : Option Ended) : Type 0 where
  pub status_is : status ≡ 0
  pub text_is : text ≡ wanted
  pub no_run : run ≡ None

-- what a task gives of the program
abbrev pub Gives : Task → Program → ℕ → List ℕ → Option Ended → Type 0
Gives (t.Run steps telling) program status text run = IsRunOnce program steps telling status text run
Gives t.Check program status text run = IsTextOnly accepted_line status text run
Gives t.Code program status text run = IsTextOnly (listing (code_of (resolved program))) status text run

-- nothing refuses the source for the task that the words call for, and this is what the task gives of its program
pub record IsMade (words : List (List ℕ)) (before after : LibraryTold) (status : ℕ) (text : List ℕ) (run : Option Ended) : Type 0 where
  pub task : Task
  pub bytes : List ℕ
  pub read : HasRead words before after task bytes
  pub program : Program
  pub is_ready : IsReady bytes task program
  pub gives : Gives task program status text run

-- and the sink has taken all of it
pub record IsWritten (words : List (List ℕ)) (before after : LibraryTold) (status : ℕ) (run : Option Ended) (sink written : SinkTold) : Type 0 where
  pub text : List ℕ
  pub made : IsMade words before after status text run
  pub taken : GrewBy sink.held written.held text

-- neither the library nor the sink nor the disk failed, and no memory was refused
pub record IsUndisturbed (status : ℕ) : Type 0 where
  pub library : status ≢ 7
  pub sink : status ≢ 8
  pub disk : status ≢ 9
  pub memory : status ≢ 11

gives_of : (task : Task) (program : Program) (disk later : DiskTold) (status : ℕ) (text : List ℕ) (run : Option Ended) (done : Done) →
    status ≡ done.status.number → text ≡ done.text → run ≡ done.run → Makes task program disk later done → Gives task program status text run
gives_of (t.Run steps telling) program disk later status text run done n x r d = record {
  start = d.start;
  ended = d.ended;
  kept = r ∙ d.kept;
  is_run = d.is_run;
  tells = subst (λ (number : ℕ). Tells telling program d.ended number text) (sym n) (subst (Tells telling program d.ended done.status.number) (sym x) d.tells);
}
gives_of t.Check program disk later status text run done n x r d = record { status_is = n ∙ d.status; text_is = x ∙ d.text_is; no_run = r ∙ d.no_run }
gives_of t.Code program disk later status text run done n x r d = record { status_is = n ∙ d.status; text_is = x ∙ d.text_is; no_run = r ∙ d.no_run }

gives_made : (task : Task) (program : Program) (disk : DiskTold) (status : ℕ) → GivesStatus task program disk status → IsOfMade status
gives_made (t.Run steps telling) program disk status h = told_status telling program h.ended status h.line h.tells
gives_made t.Check program disk status h = inl (inl h)
gives_made t.Code program disk status h = inl (inl h)

-- ---- what is due, by its status

module _ (words : List (List ℕ)) (before after : LibraryTold) (disk later : DiskTold) (status : ℕ) (text : List ℕ) (run : Option Ended)
    (no_audit : (file trace : List ℕ) → IsCall words (Audits file trace) → ⊥) where
  module _ (task : Task) (bytes : List ℕ) (read : HasRead words before after task bytes) where
    refused_with : (number : ℕ) (refusal : Refusal) → status ≡ refusal_status refusal → Refuses bytes task refusal → status ≡ number → IsRefused number words before after
    refused_with number refusal n h e = record { task = task; bytes = bytes; read = read; is_refused = record { refusal = refusal; status_is = sym n ∙ e; refuses = h } }

    source_refused : (number : ℕ) → IsOfRefusal number → number ≢ 10 → IsDueOf bytes task disk later status text run → status ≡ number → IsRefused number words before after
    source_refused number k m (refused y n x r h a) e = refused_with number y n h e
    source_refused number k m (ready p c (disk_fault n x r h)) e = absurd (nine number k (sym e ∙ n))
    source_refused number k m (ready p c (is_over file n x r h)) e = absurd (m (sym e ∙ n))
    source_refused number k m (ready p c (is_done done n x r d)) e = absurd (apart_made number k m (subst IsOfMade e (made_status task p disk later status done n d)))

    source_over : IsDueOf bytes task disk later status text run → status ≡ 10 → IsOver words before after disk later run
    source_over (refused y n x r h a) e = refused_source (refused_with 10 y n h e)
    source_over (ready p c (disk_fault n x r h)) e = absurd (omega (arith, n, e))
    source_over (ready p c (is_over number n x r h)) e =
        file_too_long (record { task = task; bytes = bytes; read = read; program = p; is_ready = c; file = number; stopped = h })
    source_over (ready p c (is_done done n x r d)) e = by task refl d where
      by : (a : Task) → task ≡ a → Makes a p disk later done → IsOver words before after disk later run
      by t.Check same m = let zero = n ∙ m.status in absurd (omega (arith, zero, e))
      by t.Code same m = let zero = n ∙ m.status in absurd (omega (arith, zero, e))
      by (t.Run steps way.Report) same m = absurd (not_above status 10 (subst IsOfCores (sym (n ∙ m.tells.0)) (of_cores m.ended.cores)) e (omega arith))
      by (t.Run steps (way.Summary turns)) same m = absurd (not_above status 10 (subst IsOfCores (sym (n ∙ m.tells.0)) (of_cores m.ended.cores)) e (omega arith))
      by (t.Run steps way.Trace) same m = trace_too_long (record {
        steps = steps;
        bytes = bytes;
        read = subst (λ (a : Task). HasRead words before after a bytes) same read;
        program = p;
        is_ready = subst (λ (a : Task). IsReady bytes a p) same c;
        start = m.start;
        ended = m.ended;
        kept = r ∙ m.kept;
        is_run = m.is_run;
        long = over_trace m.ended done.status.number done.text (sym n ∙ e) m.tells;
      })

    source_failed : IsDueOf bytes task disk later status text run → status ≡ 9 → IsFailedFile words before after disk later
    source_failed (refused y n x r h a) e = absurd (nine (refusal_status y) (of_refusal y) (sym n ∙ e))
    source_failed (ready p c (disk_fault n x r h)) e = record { task = task; bytes = bytes; read = read; program = p; is_ready = c; stopped = h }
    source_failed (ready p c (is_over number n x r h)) e = absurd (omega (arith, n, e))
    source_failed (ready p c (is_done done n x r d)) e = absurd (not_made status 9 (made_status task p disk later status done n d) e (omega arith) (omega arith))

    source_made : IsDueOf bytes task disk later status text run → IsOfCores status → IsMade words before after status text run
    source_made (refused y n x r k a) h = absurd (apart (refusal_status y) (of_refusal y) (subst IsOfCores n h))
    source_made (ready p c (disk_fault n x r k)) h = absurd (not_above status 9 h n (omega arith))
    source_made (ready p c (is_over number n x r k)) h = absurd (not_above status 10 h n (omega arith))
    source_made (ready p c (is_done done n x r d)) h = record {
      task = task;
      bytes = bytes;
      read = read;
      program = p;
      is_ready = c;
      gives = gives_of task p disk later status text run done n x r d;
    }

  module _ (task : Task) (file : List ℕ) (is_call : IsCall words (Does task file)) where
    file_refused : (number : ℕ) → IsOfRefusal number → number ≢ 10 → IsDueOfFile file task before after disk later status text run → status ≡ number → IsRefused number words before after
    file_refused number k m (library_fault n x r j u a) e = absurd (seven number k (sym e ∙ n))
    file_refused number k m (too_long n x r w took a) e = absurd (m (sym e ∙ n))
    file_refused number k m (source bytes w g l due) e = source_refused task bytes (of_file file is_call w.read g l) number k m due e

    file_over : IsDueOfFile file task before after disk later status text run → status ≡ 10 → IsOver words before after disk later run
    file_over (library_fault n x r j u a) e = absurd (omega (arith, n, e))
    file_over (too_long n x r w took a) e = long_source (record { task = task; file = file; is_call = is_call; well = w; took = took })
    file_over (source bytes w g l due) e = source_over task bytes (of_file file is_call w.read g l) due e

    file_failed : IsDueOfFile file task before after disk later status text run → status ≡ 9 → IsFailedFile words before after disk later
    file_failed (library_fault n x r j u a) e = absurd (omega (arith, n, e))
    file_failed (too_long n x r w took a) e = absurd (omega (arith, n, e))
    file_failed (source bytes w g l due) e = source_failed task bytes (of_file file is_call w.read g l) due e

    file_made : IsDueOfFile file task before after disk later status text run → IsOfCores status → IsMade words before after status text run
    file_made (library_fault n x r j u a) h = absurd (not_above status 7 h n (omega arith))
    file_made (too_long n x r w took a) h = absurd (not_above status 10 h n (omega arith))
    file_made (source bytes w g l due) h = source_made task bytes (of_file file is_call w.read g l) due h

  due_refused : (number : ℕ) → IsOfRefusal number → number ≢ 10 → IsDue words before after disk later status text run → status ≡ number → IsRefused number words before after
  due_refused number k m (usage n x r w s a) e = absurd (one number k (sym e ∙ n))
  due_refused number k m (call task file c due) e = file_refused task file c number k m due e
  due_refused number k m (audit file trace c r a due) e = absurd (no_audit file trace c)
  due_refused number k m (load turns steps c a due) e = source_refused (summed turns steps) (load_text turns) (of_server turns steps c a) number k m due e

  due_over : IsDue words before after disk later status text run → status ≡ 10 → IsOver words before after disk later run
  due_over (usage n x r w s a) e = absurd (omega (arith, n, e))
  due_over (call task file c due) e = file_over task file c due e
  due_over (audit file trace c r a due) e = absurd (no_audit file trace c)
  due_over (load turns steps c a due) e = source_over (summed turns steps) (load_text turns) (of_server turns steps c a) due e

  due_failed : IsDue words before after disk later status text run → status ≡ 9 → IsFailedFile words before after disk later
  due_failed (usage n x r w s a) e = absurd (omega (arith, n, e))
  due_failed (call task file c due) e = file_failed task file c due e
  due_failed (audit file trace c r a due) e = absurd (no_audit file trace c)
  due_failed (load turns steps c a due) e = source_failed (summed turns steps) (load_text turns) (of_server turns steps c a) due e

  due_made : IsDue words before after disk later status text run → IsOfCores status → IsMade words before after status text run
  due_made (usage n x r w s a) h = absurd (not_one status h n)
  due_made (call task file c due) h = file_made task file c due h
  due_made (audit file trace c r a due) h = absurd (no_audit file trace c)
  due_made (load turns steps c a due) h = source_made (summed turns steps) (load_text turns) (of_server turns steps c a) due h

-- ---- the clauses, one by one

module _ (words : List (List ℕ)) (before after : LibraryTold) (disk later : DiskTold) (status : ℕ) (run : Option Ended) (sink written : SinkTold)
    (whole : status ≢ 8 → status ≢ 11 → TookWhole (IsDue words before after disk later) status run sink written)
    (memory : status ≡ 11 → GaveUp words before after disk later run sink written) (tells_usage : TellsUsage words status)
    (decided : IsOfText status → (task : Task) (file : List ℕ) → IsCall words (Does task file) → IsDecided task file before after disk status)
    (no_audit : (file trace : List ℕ) → IsCall words (Audits file trace) → ⊥) where
  -- at status 11 the words are a call, and where it is neither an audit nor a load one text was opened
  pub called : status ≡ 11 → IsSomeCall words
  called is = some (memory is).cut where
    some : IsCutShort words before after disk later → IsSomeCall words
    some (of_task task file c r l) = record { asked = Does task file; is_call = c }
    some (of_audit file trace c r a) = record { asked = Audits file trace; is_call = c }
    some (of_load turns steps c a l) = record { asked = Loads turns steps; is_call = c }

  pub opened : ((turns steps : ℕ) → IsCall words (Loads turns steps) → ⊥) → status ≡ 11 → CountsOne before.opens after.opens
  opened no_load is = once (memory is).cut where
    once : IsCutShort words before after disk later → CountsOne before.opens after.opens
    once (of_task task file c r l) = r.just.once
    once (of_audit file trace c r a) = absurd (no_audit file trace c)
    once (of_load turns steps c a l) = absurd (no_load turns steps c)

  -- why a call ends with its status
  refused_for : (number : ℕ) → IsOfRefusal number → number ≢ 10 → status ≡ number → IsRefused number words before after
  refused_for number k m is =
      let w = whole (λ e. eight number k (sym is ∙ e)) (λ e. eleven number k (sym is ∙ e)) in
      due_refused words before after disk later status w.text run no_audit number k m w.due is

  pub misspelled : status ≡ 2 → IsRefused 2 words before after
  misspelled = refused_for 2 (inl refl) (λ e. omega (arith, e))

  pub broken : status ≡ 3 → IsRefused 3 words before after
  broken = refused_for 3 (inr (inl refl)) (λ e. omega (arith, e))

  pub over : status ≡ 10 → IsOver words before after disk later run
  over is = let w = whole (λ e. omega (arith, e, is)) (λ e. omega (arith, e, is)) in due_over words before after disk later status w.text run no_audit w.due is

  pub disk_failed : status ≡ 9 → IsFailedFile words before after disk later
  disk_failed is = let w = whole (λ e. omega (arith, e, is)) (λ e. omega (arith, e, is)) in due_failed words before after disk later status w.text run no_audit w.due is

  pub reported : IsOfCores status → IsWritten words before after status run sink written
  reported is =
      let w = whole (λ e. not_above status 8 is e (omega arith)) (λ e. not_above status 11 is e (omega arith)) in
      record { text = w.text; made = due_made words before after disk later status w.text run no_audit w.due is; taken = w.taken }

  -- what a file calls for, where the library tells its text, and the disk the files that it needs
  module _ (task : Task) (file text : List ℕ) (is_call : IsCall words (Does task file)) (told : before.text_at file ≡ Some text) (knows : KnowsFiles text task disk)
      (undisturbed : IsUndisturbed status) where
    of_text : IsOfText status
    of_text = record { usage = λ e. tells_usage.told e (Does task file) is_call; library = undisturbed.library; sink = undisturbed.sink; disk = undisturbed.disk; memory = undisturbed.memory }

    pub called_for : IsCalledFor text task disk status
    called_for = (decided of_text task file is_call).only text told knows

  -- and what the text of the file server does
  module _ (turns steps : ℕ) (is_call : IsCall words (Loads turns steps)) (knows : KnowsFiles (load_text turns) (summed turns steps) disk) (undisturbed : IsUndisturbed status)
      (loaded : IsOfText status → (turns steps : ℕ) → IsCall words (Loads turns steps) → IsLoaded turns steps before after disk status) where
    pub load_called_for : IsCalledFor (load_text turns) (summed turns steps) disk status
    load_called_for = (loaded (record {
      usage = λ e. tells_usage.told e (Loads turns steps) is_call;
      library = undisturbed.library;
      sink = undisturbed.sink;
      disk = undisturbed.disk;
      memory = undisturbed.memory;
    }) turns steps is_call).only knows

-- ---- what a text decides that is known: that of a file, by `called_for`, or that of the file server, by `load_called_for`

module _ (text : List ℕ) (task : Task) (disk : DiskTold) (status : ℕ) (called_for : IsCalledFor text task disk status) (knows : KnowsFiles text task disk) where
  -- where its program has no channel and no file, it calls for no other status
  pub exactly : ((steps : ℕ) (telling : Telling) (program : Program) → IsReady text (t.Run steps telling) program → ((resolved program).channels ≡ []) × ((resolved program).files ≡ [])) →
      (number : ℕ) → (status
      ≡ number) ↔ CallsFor text task disk number
  exactly none = one_status text task disk status called_for none

  -- and a status of a refusal is that of no run
  same_refusal : (number : ℕ) → IsOfRefusal number → number ≢ 10 → (number ≡ status) ⊎ AreOfRuns text task disk status number → status ≡ number
  same_refusal number k m (inl e) = sym e
  same_refusal number k m (inr r) = absurd (apart_made number k m (told_status r.telling r.program r.other.ended number r.other.line r.other.tells))

  refused_way : (number : ℕ) → IsOfRefusal number → number ≢ 10 → Way text task disk number → (length text ≤ 1048576) × IsRefusedAs number text task
  refused_way number k m (is_long e h) = absurd (m e)
  refused_way number k m (is_refused s h) = (s, h)
  refused_way number k m (is_filed e s h) = absurd (m e)
  refused_way number k m (is_made s h) = absurd (apart_made number k m (gives_made task h.program disk number h.gives))

  refused_then : (number : ℕ) → IsOfRefusal number → number ≢ 10 → (length text ≤ 1048576) × IsRefusedAs number text task → status ≡ number
  refused_then number k m h = same_refusal number k m (called_for.only number (calls_refused text task disk number h.1.refusal (sym h.1.status_is) h.0 h.1.refuses))

  only_refused : (number : ℕ) → IsOfRefusal number → number ≢ 10 → (status ≡ number) ↔ ((length text ≤ 1048576) × IsRefusedAs number text task)
  only_refused number k m = ((λ is. refused_way number k m (way_of text task disk number (subst (CallsFor text task disk) is called_for.calls))), refused_then number k m)

  pub only_misspelled : (status ≡ 2) ↔ ((length text ≤ 1048576) × IsRefusedAs 2 text task)
  only_misspelled = only_refused 2 (inl refl) (λ e. omega (arith, e))

  pub only_broken : (status ≡ 3) ↔ ((length text ≤ 1048576) × IsRefusedAs 3 text task)
  only_broken = only_refused 3 (inr (inl refl)) (λ e. omega (arith, e))

  abbrev Over : Type 0
  Over = (1048576 < length text) ⊎ ((length text ≤ 1048576) × IsRefusedAs 10 text task ⊎ (length text ≤ 1048576) × IsFiled text task disk)

  -- or the trace of a run is too long
  over_way : Way text task disk 10 → Over ⊎ IsMadeAs 10 text task disk
  over_way (is_long e h) = inl (inl h)
  over_way (is_refused s h) = inl (inr (inl (s, h)))
  over_way (is_filed e s h) = inl (inr (inr (s, h)))
  over_way (is_made s h) = inr h

  pub why_over : status ≡ 10 → Over ⊎ IsMadeAs 10 text task disk
  why_over is = over_way (way_of text task disk 10 (subst (CallsFor text task disk) is called_for.calls))

  over_by : Way text task disk status → Over → status ≡ 10
  over_by (is_long e h) o = e
  over_by (is_refused s h) (inl l) = absurd (omega (arith, l, s))
  over_by (is_refused s h) (inr (inl k)) = sym h.status_is ∙ refused_once text task s h.refusal k.1.refusal h.refuses k.1.refuses ∙ k.1.status_is
  over_by (is_refused s h) (inr (inr k)) = absurd (refused_not text task s h.refusal k.1.program h.refuses k.1.is_ready)
  over_by (is_filed e s h) o = e
  over_by (is_made s h) (inl l) = absurd (omega (arith, l, s))
  over_by (is_made s h) (inr (inl k)) = absurd (refused_not text task s k.1.refusal h.program k.1.refuses h.is_ready)
  over_by (is_made s h) (inr (inr k)) = absurd (not_filed text task disk knows k.1 h.program h.is_ready h.short)

  pub over_then : Over → status ≡ 10
  over_then o = over_by (way_of text task disk status called_for.calls) o

  pub only_over : (IsMadeAs 10 text task disk → ⊥) → (status ≡ 10) ↔ Over
  only_over none = ((λ is. elim (why_over is) [ inl o ↦ o | inr m ↦ absurd (none m) ]), over_then)

  -- it is ready, and no file that it needs is too long
  pub record IsInOrder : Type 0 where
    pub within : length text ≤ 1048576
    pub program : Program
    pub is_ready : IsReady text task program
    pub short : AreShort disk (needed task program)

  reported_way : Way text task disk status → IsOfCores status → IsInOrder
  reported_way (is_long e h) is = absurd (not_above status 10 is e (omega arith))
  reported_way (is_refused s h) is = absurd (apart status (subst IsOfRefusal h.status_is (of_refusal h.refusal)) is)
  reported_way (is_filed e s h) is = absurd (not_above status 10 is e (omega arith))
  reported_way (is_made s h) is = record { within = s; program = h.program; is_ready = h.is_ready; short = h.short }

  -- and unless the trace of a run is too long
  made_cores : (IsMadeAs 10 text task disk → ⊥) → IsMadeAs status text task disk → IsOfCores status
  made_cores none h = elim (gives_made task h.program disk status h.gives) [ inl is ↦ is | inr ten ↦ absurd (none (subst (λ (n : ℕ). IsMadeAs n text task disk) ten h)) ]

  cores_way : (IsMadeAs 10 text task disk → ⊥) → Way text task disk status → IsInOrder → IsOfCores status
  cores_way none (is_long e h) k = absurd (omega (arith, h, k.within))
  cores_way none (is_refused s h) k = absurd (refused_not text task s h.refusal k.program h.refuses k.is_ready)
  cores_way none (is_filed e s h) k = absurd (not_filed text task disk knows h k.program k.is_ready k.short)
  cores_way none (is_made s h) k = made_cores none h

  pub only_reported : (IsMadeAs 10 text task disk → ⊥) → IsOfCores status ↔ IsInOrder
  only_reported none = let way = way_of text task disk status called_for.calls in (reported_way way, cores_way none way)

-- ---- a run that is reported, a check, and a listing

-- only the text of a trace can be too long
pub no_long_trace : (text : List ℕ) (task : Task) (disk : DiskTold) → ((steps : ℕ) → task ≡ t.Run steps way.Trace → ⊥) → IsMadeAs 10 text task disk → ⊥
no_long_trace text (t.Run steps way.Trace) disk none h = none steps refl
no_long_trace text (t.Run steps way.Report) disk none h = not_above 10 10 (subst IsOfCores (sym h.gives.tells.0) (of_cores h.gives.ended.cores)) refl (omega arith)
no_long_trace text (t.Run steps (way.Summary turns)) disk none h = not_above 10 10 (subst IsOfCores (sym h.gives.tells.0) (of_cores h.gives.ended.cores)) refl (omega arith)
no_long_trace text t.Check disk none h = let e = h.gives in omega (arith, e)
no_long_trace text t.Code disk none h = let e = h.gives in omega (arith, e)

module _ (text : List ℕ) (disk : DiskTold) where
  -- a check knows no bound on steps
  pub no_steps_of_a_check : IsTooMany text t.Check → ⊥
  no_steps_of_a_check h = absurd (omega (arith, h.over))

  accepted_of : (program : Program) → IsAccepted text program → IsReady text t.Check program
  accepted_of program a = record { is_accepted = a; within = omega arith }

  -- and a listing no bound
  pub no_steps_of_a_listing : IsTooMany text t.Code → ⊥
  no_steps_of_a_listing h = absurd (omega (arith, h.over))

  listed_of : (program : Program) → IsAccepted text program → IsReady text t.Code program
  listed_of program a = record { is_accepted = a; within = omega arith }

  -- a text is accepted with status 0 exactly where it spells a program that breaks no rule
  pub check_calls : CallsFor text t.Check disk 0 ↔ (IsShort text × ((program : Program) × IsAccepted text program))
  check_calls = ((λ h. forth (way_of text t.Check disk 0 h)), (λ k. made k.1.0 k.0 (accepted_of k.1.0 k.1.1) (none_long disk.held) refl)) where
    forth : Way text t.Check disk 0 → IsShort text × ((program : Program) × IsAccepted text program)
    forth (is_long e h) = absurd (omega (arith, e))
    forth (is_refused s h) = absurd (omega (arith, some_status h.refusal, h.status_is))
    forth (is_filed e s h) = absurd (omega (arith, e))
    forth (is_made s h) = (s, (h.program, h.is_ready.is_accepted))

  -- and it is listed with status 0 just there too
  pub code_calls : CallsFor text t.Code disk 0 ↔ (IsShort text × ((program : Program) × IsAccepted text program))
  code_calls = ((λ h. forth (way_of text t.Code disk 0 h)), (λ k. made k.1.0 k.0 (listed_of k.1.0 k.1.1) (none_long disk.held) refl)) where
    forth : Way text t.Code disk 0 → IsShort text × ((program : Program) × IsAccepted text program)
    forth (is_long e h) = absurd (omega (arith, e))
    forth (is_refused s h) = absurd (omega (arith, some_status h.refusal, h.status_is))
    forth (is_filed e s h) = absurd (omega (arith, e))
    forth (is_made s h) = (s, (h.program, h.is_ready.is_accepted))

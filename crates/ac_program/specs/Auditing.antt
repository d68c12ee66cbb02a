-- What an audit of two files comes to, by the first refusal in the order of work.
use Rattle.std.specs.Prelude.{◌≡◌, ℕ, ◌+◌, ◌*◌, ◌<◌, ◌≤◌, List, length, Some}
use Rattle.ac_tree.specs.declared.item.Program.{Program}
use Rattle.ac_names.specs.Numbered.{core_names}
use Rattle.ac_resolve.specs.Resolution.{resolved}
use Rattle.ac_outside.specs.Causes.{Rose}
use Rattle.ac_outside.specs.Told.{LibraryTold}
use Rattle.ac_words.specs.declared.task.Task.TheVariants as t
use Rattle.trace_text.specs.declared.trace.Trace.{Trace}
use Rattle.trace_text.specs.Spelling.{IsTheTrace, IsFirstWrong}
use Rattle.trace_text.specs.Outcomes.{trace_limit}
use Rattle.trace_audit.specs.declared.verdict.Verdict.{Verdict}
use Rattle.trace_audit.specs.Judged.{Judges}
use Rattle.program_reading.specs.declared.refusal.Refusal.{Refusal}
use Rattle.program_reading.specs.Source.{IsReady, Refuses, most_steps}
use Rattle.program_reading.specs.Reading.{Gave, TookBytes, IsRead, IsReadWhole, IsTried, IsShort}
use Rattle.program_reading.specs.Files.{AreRead}
use Rattle.program_reading.specs.Lines.{library_line, limit_source_line, limit_trace_line, limit_steps_line, refusal_line, refusal_status}
use Rattle.program_reading.specs.Lines.{trace_fault_line}
use Rattle.ac_program.specs.Lines.{verdict_line, verdict_status}

-- ---- what is due

-- Of a program and a trace: all cores together may take too many steps in it, or the verdict.
pub data IsDueOfRun (program : Program) (trace : Trace) (status : ℕ) (text : List ℕ) : Type 0 where
  too_many : status ≡ 10 → text ≡ limit_steps_line → most_steps < length (core_names program.items) * trace.steps →
      IsDueOfRun program trace status text
  judged : (verdict : Verdict) → status ≡ verdict_status verdict → text ≡ verdict_line verdict →
      length (core_names program.items) * trace.steps ≤ most_steps → Judges (resolved program) trace verdict →
      IsDueOfRun program trace status text

-- Of a program and the text of a trace: its first wrong line, or of the trace that it spells.
pub data IsDueOfTraced (program : Program) (traced : List ℕ) (status : ℕ) (text : List ℕ) : Type 0 where
  wrong : (line : ℕ) → status ≡ 14 → text ≡ trace_fault_line line → IsFirstWrong traced line → IsDueOfTraced program traced status text
  spelled : (trace : Trace) → IsTheTrace traced trace → IsDueOfRun program trace status text → IsDueOfTraced program traced status text

-- Of a program and the file of a trace.
pub data IsDueOfTrace (program : Program) (trace : List ℕ) (before after : LibraryTold) (status : ℕ) (text : List ℕ) : Type 0 where
  library_fault : status ≡ 7 → text ≡ library_line → IsTried before after trace → Rose before.faults after.faults →
      IsDueOfTrace program trace before after status text
  too_long : status ≡ 10 → text ≡ limit_trace_line → IsRead before after trace →
      TookBytes (before.text_at trace) after.left (trace_limit + 1) → IsDueOfTrace program trace before after status text
  read : (traced : List ℕ) → IsReadWhole before after trace traced → Gave (before.text_at trace) traced → length traced ≤ trace_limit →
      IsDueOfTraced program traced status text → IsDueOfTrace program trace before after status text

-- Of a source and the file of a trace: what refuses a check of the source refuses the audit, and the trace is not opened.
pub data IsDueOfSource (source trace : List ℕ) (before after : LibraryTold) (status : ℕ) (text : List ℕ) : Type 0 where
  refused : (refusal : Refusal) → status ≡ refusal_status refusal → text ≡ refusal_line refusal → Refuses source t.Check refusal →
      after ≡ before → IsDueOfSource source trace before after status text
  ready : (program : Program) → IsReady source t.Check program → IsDueOfTrace program trace before after status text →
      IsDueOfSource source trace before after status text

-- Of the two files.
pub data IsDueOfAudit (file trace : List ℕ) (before after : LibraryTold) (status : ℕ) (text : List ℕ) : Type 0 where
  library_fault : status ≡ 7 → text ≡ library_line → IsTried before after file → Rose before.faults after.faults →
      IsDueOfAudit file trace before after status text
  too_long : status ≡ 10 → text ≡ limit_source_line → IsRead before after file →
      TookBytes (before.text_at file) after.left (1048576 + 1) → IsDueOfAudit file trace before after status text
  source : (bytes : List ℕ) (between : LibraryTold) → IsReadWhole before between file bytes → Gave (before.text_at file) bytes →
      IsShort bytes →
      between.text_at ≡ before.text_at → IsDueOfSource bytes trace between after status text →
      IsDueOfAudit file trace before after status text

-- ---- what the texts decide

-- the statuses that the text of a program and that of a trace call for
pub data AuditCallsFor (text traced : List ℕ) (status : ℕ) : Type 0 where
  over_long : status ≡ 10 → 1048576 < length text → AuditCallsFor text traced status
  refused : (refusal : Refusal) → status ≡ refusal_status refusal → IsShort text → Refuses text t.Check refusal →
      AuditCallsFor text traced status
  long_trace : (program : Program) → status ≡ 10 → IsShort text → IsReady text t.Check program → trace_limit < length traced →
      AuditCallsFor text traced status
  told : (program : Program) (line : List ℕ) → IsShort text → IsReady text t.Check program → length traced ≤ trace_limit →
      IsDueOfTraced program traced status line → AuditCallsFor text traced status

-- Texts that the library may have given call for the status; and where it tells them, for no other.
pub record IsJudged (file trace : List ℕ) (before after : LibraryTold) (status : ℕ) : Type 0 where
  pub text : List ℕ
  pub traced : List ℕ
  pub are_read : AreRead file trace before after
  pub gave : Gave (before.text_at file) text
  pub gave_trace : Gave (before.text_at trace) traced
  pub calls : AuditCallsFor text traced status
  pub only : (known other : List ℕ) → before.text_at file ≡ Some known → before.text_at trace ≡ Some other →
      (number : ℕ) → AuditCallsFor known other number → number ≡ status

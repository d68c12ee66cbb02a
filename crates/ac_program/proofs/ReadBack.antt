-- The trace that is written is read back: where the status is one of cores, what is due is the trace of the run that is kept, whole, and
-- its text spells this trace alone.
use Rattle.std.proofs.Common.{◌≡◌, ◌≢◌, ℕ, List, Option, None, Some, sym, ◌∙◌, subst, arith}
use Rattle.std.specs.Prelude.{IfSome, IsTrue, is_some}
use Rattle.ac_outside.specs.Told.{LibraryTold, SinkTold, GrewBy}
use Rattle.ac_outside.specs.Disks.{DiskTold, Held}
use Rattle.program_run.specs.declared.ended.Ended.{Ended}
use Rattle.ac_resolve.specs.Resolution.{resolved}
use Rattle.trace_text.specs.Spelling.{IsTheTrace}
use Rattle.trace_audit.specs.RunTrace.{IsRunTrace}
use Rattle.trace_audit.specs.Laws.{trace_of}
use Rattle.ac_tree.specs.declared.item.Program.{Program}
use Rattle.ac_words.specs.declared.task.Task.{Task}
use Rattle.ac_words.specs.declared.task.Task.TheVariants as t
use Rattle.ac_words.specs.declared.task.Telling.TheVariants as w
use Rattle.ac_words.specs.Words.{Does}
use Rattle.ac_program.specs.declared.execute.Done.{Done}
use Rattle.program_reading.specs.Source.{IsReady}
use Rattle.program_reading.specs.Reading.{Gave}
use Rattle.ac_program.specs.Making.{IsReported, TellsTrace, whole, long_trace}
use Rattle.ac_program.specs.Making.IsDueOf.{refused, ready}
use Rattle.ac_program.specs.Making.IsDueOfProgram.{disk_fault, long_file, made}
use Rattle.ac_program.specs.Headline.{IsDueOfFile, TookWhole, IsOfCores, ReadsBack}
use Rattle.ac_program.specs.Headline.IsDueOfFile.{library_fault, too_long, source}
use Rattle.program_reading.specs.Lines.{refusal_status}
use Rattle.ac_program.proofs.Statuses.{not_above, apart, of_refusal}

-- the trace of a run whose status is that of its cores is written whole
spelled : (ended : Ended) (status : ℕ) (text : List ℕ) → IsOfCores status → TellsTrace ended status text → IsTheTrace text (trace_of ended)
spelled ended status text is (whole e s l) = s
spelled ended status text is (long_trace e x o) = absurd (not_above status 10 is e (omega arith))

where_told : (held : Option Held) (P : Type 0) → IsTrue (is_some held) → IfSome held (λ h. P) → P
where_told None P told h = absurd (cc (told))
where_told (Some held) P told h = h

module _ (steps : ℕ) (file : List ℕ) (before after : LibraryTold) (disk later : DiskTold) (status : ℕ) (run : Option Ended) (sink written : SinkTold)
    (is : IsOfCores status) (told : IsTrue (is_some disk.held)) where
  of_made : (bytes : List ℕ) (p : Program) (text : List ℕ) (done : Done) → Gave (before.text_at file) bytes → IsReady bytes (t.Run steps w.Trace) p → status ≡ done.status.number → text ≡ done.text
      → run ≡ done.run → GrewBy sink.held written.held text → IsReported p steps w.Trace disk later done → ReadsBack (before.text_at file) (t.Run steps w.Trace) run sink written
  of_made bytes p text done g k n x r taken d = record {
    source = bytes;
    program = p;
    gave = g;
    is_ready = k;
    ended = d.ended;
    kept = r ∙ d.kept;
    text = text;
    taken = taken;
    spells = subst (λ (line : List ℕ). IsTheTrace line (trace_of d.ended)) (sym x) (spelled d.ended done.status.number done.text (subst IsOfCores n is) d.tells);
    is_run = where_told disk.held (IsRunTrace (resolved p) (trace_of d.ended)) told d.is_traced;
  }

  of_due : (text : List ℕ) → GrewBy sink.held written.held text → IsDueOfFile file (t.Run steps w.Trace) before after disk later status text run
      → ReadsBack (before.text_at file) (t.Run steps w.Trace) run sink written
  of_due text taken (library_fault n x r j u a) = absurd (not_above status 7 is n (omega arith))
  of_due text taken (too_long n x r h took a) = absurd (not_above status 10 is n (omega arith))
  of_due text taken (source bytes h g s (refused y n x r k a)) = absurd (apart (refusal_status y) (of_refusal y) (subst IsOfCores n is))
  of_due text taken (source bytes h g s (ready p k (disk_fault n x r f))) = absurd (not_above status 9 is n (omega arith))
  of_due text taken (source bytes h g s (ready p k (long_file number n x r f))) = absurd (not_above status 10 is n (omega arith))
  of_due text taken (source bytes h g s (ready p k (made done n x r d))) = of_made bytes p text done g k n x r taken d

-- for the words that call for it
pub reads_back : (task : Task) (file : List ℕ) (before after : LibraryTold) (disk later : DiskTold) (status : ℕ) (run : Option Ended) (sink written : SinkTold)
    → (status ≢ 8 → status ≢ 11 → TookWhole (IsDueOfFile file task before after disk later) status run sink written) → IsOfCores status → IsTrue (is_some disk.held)
    → (steps : ℕ) (name : List ℕ) → Does (t.Run steps w.Trace) name ≡ Does task file → ReadsBack (before.text_at name) (t.Run steps w.Trace) run sink written
reads_back task file before after disk later status run sink written took is told steps name e =
    let same_task : t.Run steps w.Trace ≡ task = cc (e) in
    let same_file : name ≡ file = cc (e) in
    let all = took (λ f. not_above status 8 is f (omega arith)) (λ f. not_above status 11 is f (omega arith)) in
    of_due steps name before after disk later status run sink written is told all.text all.taken
    (subst (λ (a : Task). IsDueOfFile name a before after disk later status all.text run) (sym same_task)
    (subst (λ (n : List ℕ). IsDueOfFile n task before after disk later status all.text run) (sym same_file) all.due))

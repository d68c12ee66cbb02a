-- What an answer gives where no run is kept: the whole text or a front of it, or nothing where memory was refused. Then which statuses an
-- audit has, and which of its files were opened.
use Rattle.std.proofs.Common.{◌≡◌, ◌≢◌, ℕ, ◌*◌, ◌≤◌, ◌⊎◌, inl, inr, List, [], length, Option, None, Some, refl, sym, ap, ◌∙◌, subst, append-nil, arith}
use Rattle.ac_outside.specs.Told.{SinkTold, GrewBy}
use Rattle.program_run.specs.declared.ended.Ended.{Ended}
use Rattle.ac_program.specs.declared.outcome.Outcome.{Outcome}
use Rattle.program_reading.specs.declared.refusal.Refusal.{Refusal}
use Rattle.program_reading.specs.Lines.{refusal_line, refusal_status, trace_fault_line}
use Rattle.ac_program.specs.Lines.{verdict_line, verdict_status}
use Rattle.program_reading.specs.Writing.{TookFront}
use Rattle.program_reading.specs.Failures.{TellsSink}
use Rattle.ac_program.specs.Headline.{TookWhole, TookPart}
use Rattle.ac_program.specs.Auditing.{IsDueOfRun, IsDueOfTraced, too_many, judged, wrong, spelled}
use Rattle.ac_program.specs.inner.Answers.{IsAnswered}
use Rattle.ac_program.specs.inner.Parts.{GivesVerdict, GivesAnswer}
use Rattle.ac_program.specs.declared.execute.Done.{Done}
use Rattle.ac_names.specs.Numbered.{core_names}
use Rattle.ac_resolve.specs.Resolution.{resolved}
use Rattle.trace_text.specs.Spelling.{IsTheTrace, IsFirstWrong}
use Rattle.trace_audit.specs.Judged.{Judges}
use Rattle.ac_tree.specs.declared.item.Program.{Program}
use Rattle.trace_text.specs.declared.trace.Trace.{Trace}
use Rattle.trace_audit.specs.declared.verdict.Verdict.{Verdict}
use Rattle.trace_audit.specs.declared.verdict.Verdict.TheVariants.{Yes, NoAt, NoAtEnd}

grew_nothing : (held : Option (List ℕ)) → GrewBy held held []
grew_nothing None = tt
grew_nothing (Some bytes) = sym (append-nil bytes)

abbrev number_of : Outcome → ℕ
number_of o = o.status.number

-- want of memory answers whatever is due
pub answered_none : (Due : ℕ → List ℕ → Type 0) (sink : SinkTold) (o : Outcome) → o ≡ record { status = record { number = 11 }; run = None } → IsAnswered Due sink sink o
answered_none Due sink o e =
    let n : o.status.number ≡ 11 = ap number_of e in
    record {
      no_run = ap (λ (x : Outcome). x.run) e;
      whole = λ w m. absurd (m n);
      part = λ f. absurd (omega (arith, n, f));
      nothing = λ m. grew_nothing sink.held;
      tells = record { told = λ f. absurd (omega (arith, n, f)); only = λ f. refl };
      usage = λ f. omega (arith, n, f);
      disk = λ f. omega (arith, n, f);
    }

-- a text that is due answers
module _ (Due : ℕ → List ℕ → Type 0) (number : ℕ) (text : List ℕ) (sink later : SinkTold) (o : Outcome) (due : Due number text) (same : o.run ≡ None) where
  pub answered : (o.status.number ≢ 8 → o.status.number ≡ number) → (o.status.number ≢ 8 → GrewBy sink.held later.held text)
      → (o.status.number ≡ 8 → TookFront sink.held later.held text) → TellsSink sink later o.status.number → number ≢ 1 → number ≢ 9 → number ≢ 11 → IsAnswered Due sink later o
  answered is took front tells usage disk memory = record {
    no_run = same;
    whole = λ w m. record { text = text; due = rw (is w) due; taken = took w };
    part = λ f. record { status = number; text = text; due = due; taken = front f };
    nothing = λ m. absurd (memory (let e = is (λ f. omega (arith, m, f)) in omega (arith, e, m)));
    tells = tells;
    usage = λ f. usage (let e = is (λ g. omega (arith, f, g)) in omega (arith, e, f));
    disk = λ f. disk (let e = is (λ g. omega (arith, f, g)) in omega (arith, e, f));
  }

-- so does the line of a refusal, whose making takes memory
module _ (Due : ℕ → List ℕ → Type 0) (refusal : Refusal) (sink later : SinkTold) (o : Outcome) (due : Due (refusal_status refusal) (refusal_line refusal)) (same : o.run ≡ None) where
  pub answered_refusal : (o.status.number ≢ 8 → o.status.number ≢ 11 → o.status.number ≡ refusal_status refusal)
      → (o.status.number ≢ 8 → o.status.number ≢ 11 → GrewBy sink.held later.held (refusal_line refusal)) → (o.status.number ≡ 8 → TookFront sink.held later.held (refusal_line refusal))
      → (o.status.number ≡ 11 → GrewBy sink.held later.held []) → TellsSink sink later o.status.number → o.status.number ≢ 1 → o.status.number ≢ 9 → IsAnswered Due sink later o
  answered_refusal is took front nothing tells usage disk = record {
    no_run = same;
    whole = λ w m. record { text = refusal_line refusal; due = rw (is w m) due; taken = took w m };
    part = λ f. record { status = refusal_status refusal; text = refusal_line refusal; due = due; taken = front f };
    nothing = nothing;
    tells = tells;
    usage = usage;
    disk = disk;
  }

-- what is due of a part is due of the whole
pub answered_as : (P Q : ℕ → List ℕ → Type 0) → ((n : ℕ) (t : List ℕ) → P n t → Q n t) → (sink later : SinkTold) (o : Outcome) → IsAnswered P sink later o → IsAnswered Q sink later o
answered_as P Q more sink later o a = record {
  no_run = a.no_run;
  whole = λ w m. let x = a.whole w m in record { text = x.text; due = more o.status.number x.text x.due; taken = x.taken };
  part = λ f. let x = a.part f in record { status = x.status; text = x.text; due = more x.status x.text x.due; taken = x.taken };
  nothing = a.nothing;
  tells = a.tells;
  usage = a.usage;
  disk = a.disk;
}

-- and in a call
module _ (P : ℕ → List ℕ → Type 0) (Q : ℕ → List ℕ → Option Ended → Type 0) (more : (n : ℕ) (t : List ℕ) (r : Option Ended) → r ≡ None → P n t → Q n t r) (sink later : SinkTold) (o : Outcome)
    (a : IsAnswered P sink later o) where
  pub answered_whole : o.status.number ≢ 8 → o.status.number ≢ 11 → TookWhole Q o.status.number o.run sink later
  answered_whole w m = let x = a.whole w m in record { text = x.text; due = more o.status.number x.text o.run a.no_run x.due; taken = x.taken }

  pub answered_part : o.status.number ≡ 8 → TookPart Q o.run sink later
  answered_part f = let x = a.part f in record { status = x.status; text = x.text; due = more x.status x.text o.run a.no_run x.due; taken = x.taken }

-- ---- the statuses of audits

-- of a trace that is read
abbrev pub IsOfAudit : ℕ → Type 0
IsOfAudit status = (status ≡ 0) ⊎ (status ≡ 10) ⊎ (status ≡ 13) ⊎ (status ≡ 14)

of_verdict : (verdict : Verdict) → IsOfAudit (verdict_status verdict)
of_verdict Yes = inl refl
of_verdict (NoAt entry) = inr (inr (inl refl))
of_verdict NoAtEnd = inr (inr (inl refl))

of_run : (program : Program) (trace : Trace) (status : ℕ) (text : List ℕ) → IsDueOfRun program trace status text → IsOfAudit status
of_run program trace status text (too_many e x o) = inr (inl e)
of_run program trace status text (judged verdict e x w j) = subst IsOfAudit (sym e) (of_verdict verdict)

pub of_traced : (program : Program) (traced : List ℕ) (status : ℕ) (text : List ℕ) → IsDueOfTraced program traced status text → IsOfAudit status
of_traced program traced status text (wrong line e x f) = inr (inr (inr e))
of_traced program traced status text (spelled trace s d) = of_run program trace status text d

pub not_audit : (status other : ℕ) → IsOfAudit status → status ≡ other → other ≢ 0 → other ≢ 10 → other ≢ 13 → other ≢ 14 → ⊥
not_audit status other (inl e) h a b c d = a (sym h ∙ e)
not_audit status other (inr (inl e)) h a b c d = b (sym h ∙ e)
not_audit status other (inr (inr (inl e))) h a b c d = c (sym h ∙ e)
not_audit status other (inr (inr (inr e))) h a b c d = d (sym h ∙ e)

-- ---- what is said of a trace

abbrev run_in : Done → Option Ended
run_in done = done.run

abbrev text_in : Done → List ℕ
text_in done = done.text

abbrev number_in : Done → ℕ
number_in done = done.status.number

-- this text with this status, and no run
abbrev pub saying : ℕ → List ℕ → Done
saying number text = record { run = None; text = text; status = record { number = number } }

pub judged_as : (program : Program) (trace : Trace) (verdict : Verdict) (done : Done) (number : ℕ) (line : List ℕ) → done ≡ saying number line
    → number ≡ verdict_status verdict → line ≡ verdict_line verdict → (cores : ℕ) → cores ≡ length (core_names program.items) → cores * trace.steps ≤ 4000000
    → Judges (resolved program) trace verdict → GivesVerdict program trace done
judged_as program trace verdict done number line e n l cores k within j = record {
  no_run = ap run_in e;
  due = judged verdict (ap number_in e ∙ n) (ap text_in e ∙ l) (subst (λ (m : ℕ). m * trace.steps ≤ 4000000) k within) j;
}

pub wrong_as : (program : Program) (traced : List ℕ) (line : ℕ) (done : Done) (text : List ℕ) → done ≡ saying 14 text → text ≡ trace_fault_line line → IsFirstWrong traced line
    → GivesAnswer program traced done
wrong_as program traced line done text e l w = record { no_run = ap run_in e; due = wrong line (ap number_in e) (ap text_in e ∙ l) w }

pub spelled_as : (program : Program) (traced : List ℕ) (trace : Trace) → IsTheTrace traced trace → (done : Done) → GivesVerdict program trace done → GivesAnswer program traced done
spelled_as program traced trace is done g = record { no_run = g.no_run; due = spelled trace is g.due }

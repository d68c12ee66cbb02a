-- The texts of a program and of a trace call for one status of their audit: the program, the trace and the first entry that does not fit
-- are each one. From what is due of two files follow texts that the library may have given, and whether the second was read.
use Rattle.std.proofs.Common.{◌≡◌, ℕ, ◌+◌, ◌<◌, List, [], ◌∷◌, ◌++◌, length, Option, None, Some, refl, sym, ap, ◌∙◌, subst, append_assoc, length-append, arith}
use Rattle.ac_base.specs.declared.entry.Stamped.{Stamped}
use Rattle.ac_commands.specs.declared.program.Resolved.{Resolved}
use Rattle.ac_tree.specs.declared.item.Program.{Program}
use Rattle.ac_resolve.specs.Resolution.{resolved}
use Rattle.ac_outside.specs.Told.{LibraryTold, SinkTold}
use Rattle.trace_text.specs.declared.trace.Trace.{Trace}
use Rattle.trace_text.specs.Outcomes.{trace_limit}
use Rattle.trace_audit.specs.declared.verdict.Verdict.{Verdict}
use Rattle.trace_audit.specs.declared.verdict.Verdict.TheVariants.{Yes, NoAt, NoAtEnd}
use Rattle.trace_audit.specs.RunTrace.{Fits, AllFit}
use Rattle.trace_audit.specs.Judged.{IsFirstMisfit, Judges}
use Rattle.ac_words.specs.declared.task.Task.TheVariants as t
use Rattle.ac_words.specs.Words.{Audits}
use Rattle.ac_program.specs.declared.outcome.Outcome.{Outcome}
use Rattle.program_reading.specs.Source.{IsReady}
use Rattle.program_reading.specs.Reading.{Gave, TookBytes, IsRead, IsReadWhole, IsShort}
use Rattle.ac_program.specs.Lines.{verdict_status}
use Rattle.ac_program.specs.Headline.{IsOfText}
use Rattle.program_reading.specs.Files.{AreRead}
use Rattle.ac_program.specs.Auditing.{IsDueOfRun, IsDueOfTraced, IsDueOfTrace, IsDueOfAudit, AuditCallsFor, IsJudged}
use Rattle.program_reading.specs.Files.{first, both}
use Rattle.ac_program.specs.Auditing.IsDueOfRun.{too_many, judged}
use Rattle.ac_program.specs.Auditing.IsDueOfTraced.{wrong, spelled}
use Rattle.ac_program.specs.Auditing.IsDueOfTrace.{library_fault as trace_fault, too_long as trace_too_long, read}
use Rattle.ac_program.specs.Auditing.IsDueOfSource.{refused as is_refused, ready}
use Rattle.ac_program.specs.Auditing.IsDueOfAudit.{library_fault, too_long, source}
use Rattle.ac_program.specs.Auditing.AuditCallsFor.{over_long, refused, long_trace, told}
use Rattle.ac_program.specs.inner.Answers.{IsAnswered}
use Rattle.program_reading.proofs.Refusals.{refused_once, refused_not, same_program}
use Rattle.ac_program.proofs.Reasons.{gave_is}

-- ---- one verdict

fit_there : (program : Resolved) (t : Trace) (before es : List Stamped) (s : Stamped) (others : List Stamped) (front : List Stamped) → es ≡ front ++ s ∷ others → AllFit program t before es
    → Fits program t (before ++ front) s
fit_there program t before [] s others [] e h = absurd (cc (e))
fit_there program t before (x ∷ es) s others [] e h =
    let same : x ≡ s = cc (e) in subst (λ (bs : List Stamped). Fits program t bs s) (sym (append_nil before)) (subst (λ (y : Stamped). Fits program t before y) same h.0) where
      append_nil : (bs : List Stamped) → bs ++ [] ≡ bs
      append_nil [] = refl
      append_nil (b ∷ bs) = ap (λ (cs : List Stamped). b ∷ cs) (append_nil bs)
fit_there program t before [] s others (f ∷ front) e h = absurd (cc (e))
fit_there program t before (x ∷ es) s others (f ∷ front) e h =
    let same : x ≡ f = cc (e) in
    let rest : es ≡ front ++ s ∷ others = cc (e) in
    let there = fit_there program t (before ++ x ∷ []) es s others front rest h.1 in
    subst (λ (bs : List Stamped). Fits program t bs s) (append_assoc before (x ∷ []) front ∙ ap (λ (y : Stamped). before ++ y ∷ front) same) there

-- all entries of a run fit
no_misfit : (program : Resolved) (t : Trace) (place : ℕ) → IsFirstMisfit program t place → AllFit program t [] t.entries → ⊥
no_misfit program t place m h = m.fits_not (fit_there program t [] t.entries m.misfit m.others m.before m.form h)

one_verdict : (program : Resolved) (t : Trace) (a b : Verdict) → Judges program t a → Judges program t b → verdict_status a ≡ verdict_status b
one_verdict program t Yes Yes h k = refl
one_verdict program t Yes (NoAt place) h k = absurd (no_misfit program t place k h.entries)
one_verdict program t Yes NoAtEnd h k = absurd (k.1 h.end)
one_verdict program t (NoAt place) Yes h k = absurd (no_misfit program t place h k.entries)
one_verdict program t (NoAt place) (NoAt other) h k = refl
one_verdict program t (NoAt place) NoAtEnd h k = refl
one_verdict program t NoAtEnd Yes h k = absurd (h.1 k.end)
one_verdict program t NoAtEnd (NoAt place) h k = refl
one_verdict program t NoAtEnd NoAtEnd h k = refl

one_run : (program : Program) (t : Trace) (m n : ℕ) (x y : List ℕ) → IsDueOfRun program t m x → IsDueOfRun program t n y → m ≡ n
one_run program t m n x y (too_many e _ o) (too_many f _ u) = e ∙ sym f
one_run program t m n x y (too_many e _ o) (judged verdict f _ w j) = absurd (omega (arith, o, w))
one_run program t m n x y (judged verdict e _ w j) (too_many f _ u) = absurd (omega (arith, w, u))
one_run program t m n x y (judged verdict e _ w j) (judged other f _ v k) = e ∙ one_verdict (resolved program) t verdict other j k ∙ sym f

one_traced : (program : Program) (traced : List ℕ) (m n : ℕ) (x y : List ℕ) → IsDueOfTraced program traced m x → IsDueOfTraced program traced n y → m ≡ n
one_traced program traced m n x y (wrong line e _ h) (wrong other f _ k) = e ∙ sym f
one_traced program traced m n x y (wrong line e _ h) (spelled t s d) = absurd (h.no_trace t s.spells)
one_traced program traced m n x y (spelled t s d) (wrong line f _ h) = absurd (h.no_trace t s.spells)
one_traced program traced m n x y (spelled t s d) (spelled u r e) =
    one_run program t m n x y d (subst (λ (z : Trace). IsDueOfRun program z n y) (s.only u r.spells) e)

-- ---- one status

pub one_status : (text traced : List ℕ) (m n : ℕ) → AuditCallsFor text traced m → AuditCallsFor text traced n → n ≡ m
one_status text traced m n (over_long e h) (over_long f k) = f ∙ sym e
one_status text traced m n (over_long e h) (refused r f s k) = absurd (omega (arith, h, s))
one_status text traced m n (over_long e h) (long_trace p f s k l) = absurd (omega (arith, h, s))
one_status text traced m n (over_long e h) (told p y s k l d) = absurd (omega (arith, h, s))
one_status text traced m n (refused r e s h) (over_long f k) = absurd (omega (arith, k, s))
one_status text traced m n (refused r e s h) (refused u f _ k) = f ∙ refused_once text t.Check s u r k h ∙ sym e
one_status text traced m n (refused r e s h) (long_trace p f _ k l) = absurd (refused_not text t.Check s r p h k)
one_status text traced m n (refused r e s h) (told p y _ k l d) = absurd (refused_not text t.Check s r p h k)
one_status text traced m n (long_trace p e s h l) (over_long f k) = absurd (omega (arith, k, s))
one_status text traced m n (long_trace p e s h l) (refused u f _ k) = absurd (refused_not text t.Check s u p k h)
one_status text traced m n (long_trace p e s h l) (long_trace q f _ k o) = f ∙ sym e
one_status text traced m n (long_trace p e s h l) (told q y _ k o d) = absurd (omega (arith, l, o))
one_status text traced m n (told p x s h l d) (over_long f k) = absurd (omega (arith, k, s))
one_status text traced m n (told p x s h l d) (refused u f _ k) = absurd (refused_not text t.Check s u p k h)
one_status text traced m n (told p x s h l d) (long_trace q f _ k o) = absurd (omega (arith, l, o))
one_status text traced m n (told p x s h l d) (told q y _ k o e) =
    let same = same_program text p q h.is_accepted.spelled k.is_accepted.spelled in
    sym (one_traced p traced m n x y d (subst (λ (z : Program). IsDueOfTraced z traced n y) (sym same) e))

-- ---- from what is due to the texts that decide it

abbrev some_text : Option (List ℕ) → List ℕ
some_text None = []
some_text (Some bytes) = bytes

gave_some : (told : Option (List ℕ)) → Gave told (some_text told)
gave_some None = tt
gave_some (Some bytes) = refl

-- a text that is too long, which may be the one that the library has
record IsLongText (limit : ℕ) (told : Option (List ℕ)) : Type 0 where
  text : List ℕ
  gave : Gave told text
  long : limit < length text

past : (limit : ℕ) (told left : Option (List ℕ)) (known : List ℕ) → told ≡ Some known → TookBytes told left (limit + 1) → limit < length known
past limit None left known e k = absurd (cc (e))
past limit (Some bytes) None known e k = absurd k.consumed
past limit (Some bytes) (Some rest) known e k =
    let same : known ≡ bytes = cc (e) in
    let long : length known ≡ length k.taken + length rest = ap length (same ∙ k.consumed) ∙ length-append k.taken rest in
    omega (arith, long, k.count)

long_text : (limit : ℕ) (told left : Option (List ℕ)) → TookBytes told left (limit + 1) → IsLongText limit told
long_text limit None left k = record { text = k.taken; gave = tt; long = omega (arith, k.count) }
long_text limit (Some known) left k = record { text = known; gave = refl; long = past limit (Some known) left known refl k }

-- texts that the library may have given call for the status
record AreFound (file trace : List ℕ) (before after : LibraryTold) (status : ℕ) : Type 0 where
  text : List ℕ
  traced : List ℕ
  are_read : AreRead file trace before after
  gave : Gave (before.text_at file) text
  gave_trace : Gave (before.text_at trace) traced
  calls : AuditCallsFor text traced status

gave_as : (was now : List ℕ → Option (List ℕ)) (name text : List ℕ) → now ≡ was → Gave (now name) text → Gave (was name) text
gave_as was now name text e g = subst (λ (f : List ℕ → Option (List ℕ)). Gave (f name) text) e g

module _ (file trace : List ℕ) (before after : LibraryTold) (status : ℕ) (line : List ℕ) (o : IsOfText status) where
  of_trace : (bytes : List ℕ) (p : Program) (between : LibraryTold) → IsReadWhole before between file bytes → Gave (before.text_at file) bytes → IsShort bytes → IsReady bytes t.Check p
      → between.text_at ≡ before.text_at → IsDueOfTrace p trace between after status line → AreFound file trace before after status
  of_trace bytes p between h g s k same (trace_fault n x j r) = absurd (o.library n)
  of_trace bytes p between h g s k same (trace_too_long n x r took) =
      let l = long_text trace_limit (between.text_at trace) after.left took in
      record {
        text = bytes;
        traced = l.text;
        are_read = both bytes between h g s
            (record { program = p; is_ready = k; read = r });
        gave = g;
        gave_trace = gave_as before.text_at between.text_at trace l.text same l.gave;
        calls = long_trace p n s k l.long;
      }
  of_trace bytes p between h g s k same (read traced r gt short d) =
      record {
        text = bytes;
        traced = traced;
        are_read = both bytes between h g s
            (record { program = p; is_ready = k; read = r.read });
        gave = g;
        gave_trace = gave_as before.text_at between.text_at trace traced same gt;
        calls = told p line s k short d;
      }

  of_due : IsDueOfAudit file trace before after status line → AreFound file trace before after status
  of_due (library_fault n x j r) = absurd (o.library n)
  of_due (too_long n x h took) =
      let l = long_text 1048576 (before.text_at file) after.left took in
      record { text = l.text; traced = some_text (before.text_at trace); are_read = first h; gave = l.gave; gave_trace = gave_some (before.text_at trace); calls = over_long n l.long }
  of_due (source bytes between h g s same (is_refused refusal n x r e)) = record {
    text = bytes;
    traced = some_text (before.text_at trace);
    are_read = first (subst (λ (l : LibraryTold). IsRead before l file) (sym e) h.read);
    gave = g;
    gave_trace = gave_some (before.text_at trace);
    calls = refused refusal n s r;
  }
  of_due (source bytes between h g s same (ready p k d)) = of_trace bytes p between h g s k same d

-- what the texts decide
module _ (file trace : List ℕ) (before after : LibraryTold) (sink written : SinkTold) (outcome : Outcome) (a : IsAnswered (IsDueOfAudit file trace before after) sink written outcome)
    (o : IsOfText outcome.status.number) where
  here : AreFound file trace before after outcome.status.number
  here = let w = a.whole o.sink o.memory in of_due file trace before after outcome.status.number w.text o w.due

  is_judged : IsJudged file trace before after outcome.status.number
  is_judged = record {
    text = here.text;
    traced = here.traced;
    are_read = here.are_read;
    gave = here.gave;
    gave_trace = here.gave_trace;
    calls = here.calls;
    only = λ known other told told_trace number h. one_status known other outcome.status.number number
        (subst (λ (x : List ℕ). AuditCallsFor x other outcome.status.number) (gave_is (before.text_at file) known here.text told here.gave)
        (subst (λ (x : List ℕ). AuditCallsFor here.text x outcome.status.number) (gave_is (before.text_at trace) other here.traced told_trace here.gave_trace) here.calls)) h;
  }

  -- for the words that call for it, and no other
  pub judged_for : (name other : List ℕ) → Audits name other ≡ Audits file trace → IsJudged name other before after outcome.status.number
  judged_for name other e = let one : name ≡ file = cc (e) in let two : other ≡ trace = cc (e) in
      subst (λ (n : List ℕ). IsJudged n other before after outcome.status.number) (sym one) (subst (λ (n : List ℕ). IsJudged file n before after outcome.status.number) (sym two) is_judged)

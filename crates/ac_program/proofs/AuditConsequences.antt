-- When an audit says yes, as it follows from the clause `judged` of `ac_main`: exactly where the second text spells a trace that is a run
-- of the program of the first. Status 0 is called for by `yes` alone, and two texts call for one status.
use Rattle.std.proofs.Common.{◌≡◌, ℕ, ◌*◌, ◌≤◌, ◌↔◌, List, length, Some, refl, sym, subst, arith}
use Rattle.ac_outside.specs.Told.{LibraryTold}
use Rattle.ac_tree.specs.declared.item.Program.{Program}
use Rattle.ac_names.specs.Numbered.{core_names}
use Rattle.ac_resolve.specs.Resolution.{resolved}
use Rattle.trace_text.specs.declared.trace.Trace.{Trace}
use Rattle.trace_text.specs.Spelling.{IsTheTrace}
use Rattle.trace_text.specs.Outcomes.{trace_limit}
use Rattle.trace_audit.specs.declared.verdict.Verdict.{Verdict}
use Rattle.trace_audit.specs.declared.verdict.Verdict.TheVariants.{Yes, NoAt, NoAtEnd}
use Rattle.trace_audit.specs.RunTrace.{IsRunTrace}
use Rattle.trace_audit.specs.Judged.{Judges}
use Rattle.ac_words.specs.declared.task.Task.TheVariants as t
use Rattle.ac_program.specs.Lines.{verdict_line, verdict_status}
use Rattle.program_reading.specs.Source.{IsReady, most_steps}
use Rattle.program_reading.specs.Reading.{IsShort}
use Rattle.ac_program.specs.Auditing.{AuditCallsFor, IsJudged}
use Rattle.ac_program.specs.Auditing.IsDueOfRun.{too_many, judged}
use Rattle.ac_program.specs.Auditing.IsDueOfTraced.{wrong, spelled}
use Rattle.ac_program.specs.Auditing.AuditCallsFor.{over_long, refused, long_trace, told}
use Rattle.ac_program.proofs.Reasons.{gave_is}
use Rattle.program_reading.proofs.Refusals.{some_status}

-- the two texts are within their limits, the first spells a program that breaks no rule, and the second a trace that is a run of it, in which
-- its cores together may go no more steps than there may be
pub record AreARun (text traced : List ℕ) : Type 0 where
  pub short : IsShort text
  pub program : Program
  pub is_ready : IsReady text t.Check program
  pub short_trace : length traced ≤ trace_limit
  pub trace : Trace
  pub spells : IsTheTrace traced trace
  pub within : length (core_names program.items) * trace.steps ≤ most_steps
  pub is_run : IsRunTrace (resolved program) trace

yes_of_verdict : (program : Program) (trace : Trace) (verdict : Verdict) → 0 ≡ verdict_status verdict → Judges (resolved program) trace verdict → IsRunTrace (resolved program) trace
yes_of_verdict program trace Yes e j = j
yes_of_verdict program trace (NoAt entry) e j = absurd (omega (arith, e))
yes_of_verdict program trace NoAtEnd e j = absurd (omega (arith, e))

-- two texts call for 0 exactly where they are so
pub audit_calls : (text traced : List ℕ) → AuditCallsFor text traced 0 ↔ AreARun text traced
audit_calls text traced = (
  forth,
  λ k.
      told k.program (verdict_line Yes) k.short k.is_ready k.short_trace (spelled k.trace k.spells (judged Yes refl refl k.within k.is_run)),
) where
  forth : AuditCallsFor text traced 0 → AreARun text traced
  forth (over_long e h) = absurd (omega (arith, e))
  forth (refused refusal e s h) = absurd (omega (arith, some_status refusal, e))
  forth (long_trace p e s k l) = absurd (omega (arith, e))
  forth (told p line s k l (wrong number e x f)) = absurd (omega (arith, e))
  forth (told p line s k l (spelled trace is (too_many e x o))) = absurd (omega (arith, e))
  forth (told p line s k l (spelled trace is (judged verdict e x w j))) = record {
    short = s;
    program = p;
    is_ready = k;
    short_trace = l;
    trace = trace;
    spells = is;
    within = w;
    is_run = yes_of_verdict p trace verdict e j;
  }

-- so where the library tells both, and nothing else goes wrong, an audit has status 0 exactly there
module _ (file trace text traced : List ℕ) (before after : LibraryTold) (status : ℕ) (is : IsJudged file trace before after status) (tells : before.text_at file ≡ Some text)
    (tells_trace : before.text_at trace ≡ Some traced) where
  its_calls : AuditCallsFor text traced status
  its_calls = subst (λ (x : List ℕ). AuditCallsFor x traced status) (gave_is (before.text_at file) text is.text tells is.gave)
      (subst (λ (x : List ℕ). AuditCallsFor is.text x status) (gave_is (before.text_at trace) traced is.traced tells_trace is.gave_trace) is.calls)

  pub only_yes : (status ≡ 0) ↔ AreARun text traced
  only_yes = (
    (λ e. (audit_calls text traced).0 (subst (AuditCallsFor text traced) e its_calls)),
    (λ k. sym (is.only text traced tells tells_trace 0 ((audit_calls text traced).1 k))),
  )

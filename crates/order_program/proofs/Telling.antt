-- What is told of a trace is due of it: from the verdict of the audit, and of a run from its entries and its states, whatever program has its
-- code. The statuses of what is told are 0 and some above 12.
use Rattle.std.proofs.Common.{Bor, ◌≡◌, ◌≢◌, ◌⊎◌, inl, inr, ℕ, ◌≤◌, List, length, refl, sym, subst, arith}
use Rattle.std.specs.Prelude.{suc}
use Rattle.ac_base.specs.declared.entry.Stamped.{Stamped}
use Rattle.ac_causal.specs.Cuts.{IsCut, IsClosed, IsCutAnswer}
use Rattle.ac_causal.specs.declared.cut.CutAnswer.TheVariants.{Open}
use Rattle.ac_causal.specs.Run.{CausalRun, IsAudited}
use Rattle.ac_compile.specs.Compiled.{IsCodeOf}
use Rattle.ac_resolve.specs.Resolution.{resolved}
use Rattle.ac_translation.specs.Same.{IsSame}
use Rattle.ac_tree.specs.declared.item.Program.{Program}
use Rattle.stack_code.specs.Parts.{Parts}
use Rattle.trace_audit.specs.declared.verdict.Verdict.TheVariants.{NoAt, NoAtEnd}
use Rattle.trace_audit.specs.Judged.{Judges}
use Rattle.trace_audit.specs.RunTrace.{IsRunTrace}
use Rattle.trace_text.specs.declared.trace.Trace.{Trace}
use Rattle.program_reading.specs.Lines.{no_at_line, no_at_end_line}
use Rattle.order_words.specs.declared.words.Question.{Question as Given}
use Rattle.order_words.specs.declared.words.Question.TheVariants as q
use Rattle.order_words.specs.Words.{IsNumbers, IsOfNumbers, Question, Orders, Cuts}
use Rattle.order_words.specs.Called.{HasMeaning, Means}
use Rattle.order_program.specs.declared.told.Told.{Told}
use Rattle.order_program.specs.Asking.{IsDueOfEntries, IsDueOfCut, IsDueOfRun, IsDueOfTrace}
use Rattle.order_program.specs.Asking.{misfit, wrong_end, is_run, no_one, no_other, stands, no_cut, is_open, is_closed}
use Rattle.order_program.specs.Lines.{no_cut_line, open_line, states_text}
use Rattle.order_program.specs.inner.Cutting.{IsDueOfClosed, IsDueOfCounts}
use Rattle.order_program.specs.inner.Telling.{IsSaid, IsToldOf, IsToldOfRun}
use Rattle.order_program.proofs.Cores.{names_are, parties_are}

-- ---- statuses

abbrev pub IsOfAnswer : ℕ → Type 0
IsOfAnswer status = (status ≡ 0) ⊎ (13 ≤ status)

of_run : (program : Program) (run : Trace) (question : Question) (status : ℕ) (text : List ℕ) → IsDueOfRun program run question status text → IsOfAnswer status
of_run program run (Orders i j) status text (no_one e x l) = inr (omega (arith, e))
of_run program run (Orders i j) status text (no_other e x l m) = inr (omega (arith, e))
of_run program run (Orders i j) status text (stands order e x l m o) = inl e
of_run program run (Cuts counts) status text (no_cut e x n) = inr (omega (arith, e))
of_run program run (Cuts counts) status text (is_open entry e x c o) = inr (omega (arith, e))
of_run program run (Cuts counts) status text (is_closed ends e x c k a) = inl e

pub of_trace : (program : Program) (run : Trace) (question : Question) (status : ℕ) (text : List ℕ) → IsDueOfTrace program run question status text → IsOfAnswer status
of_trace program run question status text (misfit entry e x j) = inr (omega (arith, e))
of_trace program run question status text (wrong_end e x j) = inr (omega (arith, e))
of_trace program run question status text (is_run r d) = of_run program run question status text d

pub not_other : (status number : ℕ) → IsOfAnswer status → 1 ≤ number → number ≤ 12 → status ≢ number
not_other status number (inl z) l m e = omega (arith, z, l, e)
not_other status number (inr g) l m e = omega (arith, g, m, e)

-- ---- no run

module _ (program : Program) (run : Trace) (given : Given) (meant : HasMeaning given) (told : Told) where
  pub told_misfit : (entry : ℕ) → IsSaid 13 (no_at_line entry) told → Judges (resolved program) run (NoAt entry) → IsToldOf program run given told
  told_misfit entry s j = record { question = meant.question; means = meant.means; due = misfit entry s.status s.text_is j }

  pub told_wrong_end : IsSaid 13 no_at_end_line told → Judges (resolved program) run NoAtEnd → IsToldOf program run given told
  told_wrong_end s j = record { question = meant.question; means = meant.means; due = wrong_end s.status s.text_is j }

-- ---- a run

pub audited : (program : Program) (code : Parts) (run : Trace) → IsCodeOf program code → IsSame code (resolved program) → IsRunTrace (resolved program) run → IsAudited code run
audited program code run h s r = record { program = resolved program; code_is = h; same = s; run = r }

pub told_run : (program : Program) (code : Parts) (run : Trace) (given : Given) (told : Told) → IsCodeOf program code → IsSame code (resolved program) → IsRunTrace (resolved program) run
    → IsToldOfRun code run given told → IsToldOf program run given told
told_run program code run given told h s r t = record { question = t.question; means = t.means; due = is_run r (t.due program h s) }

-- the counts of a cut are numbers
pub counts_there : (text : Bor (List ℕ)) → HasMeaning (q.Cut text) → IsOfNumbers text.now
counts_there text m = by m.question m.means where
  by : (question : Question) → Means (q.Cut text) question → IsOfNumbers text.now
  by (Orders i j) h = absurd h
  by (Cuts numbers) h = record { numbers = numbers; are = h }

pub told_entries : (code : Parts) (run : Trace) (entries : List Stamped) (i j one other : ℕ) (told : Told) → entries ≡ run.entries → i ≡ one → j ≡ other
    → IsDueOfEntries entries i j told.status.number told.text → IsToldOfRun code run (q.Order one other) told
told_entries code run entries i j one other told e f g d = record {
  question = Orders one other;
  means = (refl, refl);
  due = λ program h s. subst (λ (es : List Stamped). IsDueOfEntries es one other told.status.number told.text) e
      (subst (λ (n : ℕ). IsDueOfEntries entries n other told.status.number told.text) f
      (subst (λ (n : ℕ). IsDueOfEntries entries i n told.status.number told.text) g d));
}

pub told_counts : (code : Parts) (run : Trace) (causal : CausalRun) (text : Bor (List ℕ)) (counts : List ℕ) (told : Told) → causal.steps ≡ run.steps → causal.entries ≡ run.entries
    → IsNumbers text.now counts → IsDueOfCounts code causal counts told → IsToldOfRun code run (q.Cut text) told
told_counts code run causal text counts told e f are d = record {
  question = Cuts counts;
  means = are;
  due = λ program h s. subst (λ (es : List Stamped). IsDueOfCut program run.steps es counts told.status.number told.text) f
      (subst (λ (n : ℕ). IsDueOfCut program n causal.entries counts told.status.number told.text) e (d program h s));
}

-- ---- a cut

module _ (code : Parts) (causal : CausalRun) (counts : List ℕ) (told : Told) (parties : causal.parties ≡ suc (length code.entries)) where
  abbrev IsCutOf : Program → Type 0
  IsCutOf program = IsCut causal.entries (suc (length (resolved program).cores)) counts

  cut_of : (program : Program) → IsCodeOf program code → IsCut causal.entries causal.parties counts → IsCutOf program
  cut_of program h cut = subst (λ (n : ℕ). IsCut causal.entries n counts) (parties_are program code causal.parties h parties) cut

  pub told_no_cut : (IsCut causal.entries causal.parties counts → ⊥) → IsSaid 18 no_cut_line told → IsDueOfCounts code causal counts told
  told_no_cut none s = λ program h same. no_cut s.status s.text_is
      (λ cut. none (subst (λ (n : ℕ). IsCut causal.entries n counts) (sym (parties_are program code causal.parties h parties)) cut))

  pub told_open : (entry : ℕ) → IsCut causal.entries causal.parties counts → IsCutAnswer causal.entries counts (Open entry) → IsSaid 17 (open_line entry) told → IsDueOfCounts code causal counts told
  told_open entry cut o s = λ program h same. is_open entry s.status s.text_is (cut_of program h cut) o

  pub told_closed : IsCut causal.entries causal.parties counts → IsClosed causal.entries counts → IsDueOfClosed code causal counts told → IsDueOfCounts code causal counts told
  told_closed cut k d = λ program h same. is_closed d.ends d.status
      (subst (λ (names : List (List ℕ)). told.text ≡ states_text names d.ends) (names_are program code h) d.text_is) (cut_of program h cut) k (d.are_states program h same)

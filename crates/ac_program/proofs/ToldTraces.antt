-- The trace of a run is one that a text tells, and no other trace has this text: the bounds on its steps, files, cores and stamps are those of
-- the run, and that its other numbers fit their types is what the writer has found as it wrote them.
use Rattle.std.proofs.Common.{◌≡◌, ℕ, ◌≤◌, List, length, ap, ◌∙◌, subst, arith}
use Rattle.std.proofs.lemmas.List.{length-map}
use Rattle.ac_base.specs.Report.{status_of}
use Rattle.program_run.specs.declared.ended.Ended.{Ended}
use Rattle.trace_text.specs.declared.trace.Trace.{Trace}
use Rattle.trace_text.specs.Text.{trace_text}
use Rattle.trace_text.specs.Spelling.{IsTrace, SpellsTrace, IsTheTrace}
use Rattle.trace_text.specs.Outcomes.{trace_limit}
use Rattle.trace_text.proofs.Whole.{one_trace}
use Rattle.trace_text.specs.Fitting.{NumbersFit}
use Rattle.trace_audit.specs.Laws.{told_of, trace_of}
use Rattle.ac_program.specs.Making.{TellsTrace, whole}
use Rattle.ac_program.specs.inner.Parts.{IsTellable}

module _ (ended : Ended) (known : IsTellable ended) (t : Trace) (fits : NumbersFit t) (is : t ≡ trace_of ended) where
  its_fits : NumbersFit (trace_of ended)
  its_fits = subst NumbersFit is fits

  is_trace : IsTrace (trace_of ended)
  is_trace =
      let ends = length-map ended.cores told_of in
      let some = known.some_core in
      let few = known.few_cores in
      record {
        steps_least = known.steps_least;
        steps_most = known.steps_most;
        few_files = known.few_files;
        files = its_fits.files;
        entries = λ k d lt. record {
          stamp_least = known.stamps_least k d lt;
          stamp_most = known.stamps_most k d lt;
          party = (its_fits.entries k d lt).party;
          turn = (its_fits.entries k d lt).turn;
          event = (its_fits.entries k d lt).event;
        };
        some_end = omega (arith, ends, some);
        few_ends = omega (arith, ends, few);
        ends = its_fits.ends;
      }

  the_trace : (text : List ℕ) → text ≡ trace_text t → IsTheTrace text (trace_of ended)
  the_trace text e =
      let spells : SpellsTrace text (trace_of ended) = record { is_trace = is_trace; is_text = e ∙ ap trace_text is } in
      record { spells = spells; only = λ u h. one_trace text u (trace_of ended) h spells }

  pub told_whole : (status : ℕ) (text : List ℕ) → status ≡ status_of ended.cores → (text ≡ trace_text t) × (length text ≤ trace_limit) → TellsTrace ended status text
  told_whole status text e h = whole e (the_trace text h.0) h.1

-- The entries of a trace that is a run are a legal history. For `runs_are_legal`.
-- Each entry fits after those before it, by links, stamps and files; the links and stamps alone are what makes a history legal.
use Rattle.std.proofs.Common.{◌≡◌, List, [], ◌∷◌, ◌++◌, length, refl, sym, subst}
use Rattle.std.proofs.lemmas.Bool.{and_parts}
use Rattle.std.proofs.lemmas.List.{length-map}
use Rattle.ac_base.specs.declared.entry.Stamped.{Stamped}
use Rattle.ac_commands.specs.declared.program.Core.{Core}
use Rattle.ac_commands.specs.declared.program.Resolved.{Resolved}
use Rattle.ac_translation.specs.Translation.{code_of}
use Rattle.ac_history.specs.History.{IsLegal, start, fits}
use Rattle.ac_history.specs.Files.{deeds_at}
use Rattle.stack_code.specs.Parts.{Parts}
use Rattle.ac_history.specs.Served.{HistoryState, serves_all, state_after, after_all}
use Rattle.trace_text.specs.declared.trace.Trace.{Trace}
use Rattle.trace_audit.specs.RunTrace.{nothing_yet, AllFit, IsRunTrace}
use Rattle.ac_causal.specs.Run.{IsAudited}

one_more : (h : HistoryState) (before : List Stamped) (s : Stamped) → after_all h (before ++ s ∷ []) ≡ state_after (after_all h before) s
one_more h [] s = refl
one_more h (x ∷ before) s = one_more (state_after h x) before s

legal_from : (program : Resolved) (t : Trace) (before es : List Stamped) → AllFit program t before es → IsLegal (after_all (nothing_yet program t) before).past es
legal_from program t before [] a = tt
legal_from program t before (s ∷ es) a = (
  (and_parts (fits (after_all (nothing_yet program t) before).past s)
      (serves_all (after_all (nothing_yet program t) before).files (deeds_at (after_all (nothing_yet program t) before).past s)) a.0.follows).0,
  subst (λ (h : HistoryState). IsLegal h.past es) (one_more (nothing_yet program t) before s) (legal_from program t (before ++ s ∷ []) es a.1),
)

pub is_legal : (program : Resolved) (t : Trace) → IsRunTrace program t → IsLegal (start (code_of program).capacities (code_of program).widths (length (code_of program).entries)) t.entries
is_legal program t run =
    subst (λ n. IsLegal (start (code_of program).capacities (code_of program).widths n) t.entries) (sym (length-map program.cores (λ (core : Core). core.entry)))
    (legal_from program t [] t.entries run.entries)

pub audited_legal : (code : Parts) (t : Trace) → IsAudited code t → IsLegal (start code.capacities code.widths (length code.entries)) t.entries
audited_legal code t a = subst (λ (c : Parts). IsLegal (start c.capacities c.widths (length c.entries)) t.entries) (sym a.code_is) (is_legal a.program t a.run)

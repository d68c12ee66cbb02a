-- What is said of a trace by a code is what is said of it by each program whose code it is: code and source have the same runs, so each part goes
-- over by itself, in both directions.
use Rattle.std.proofs.Common.{◌≡◌, ℕ, suc, ◌<◌, List, [], ◌∷◌, ◌++◌, true, sym, ◌∙◌, subst, length}
use Rattle.std.proofs.lemmas.List.{length-map}
use Rattle.ac_base.specs.declared.entry.Stamped.{Stamped}
use Rattle.ac_base.specs.declared.ends.CoreEnd.{CoreEnd}
use Rattle.ac_commands.specs.declared.program.Core.{Core}
use Rattle.ac_commands.specs.declared.program.Resolved.{Resolved}
use Rattle.stack_code.specs.Parts.{Parts}
use Rattle.ac_translation.specs.Translation.{code_of}
use Rattle.ac_translation.specs.Same.{IsSame}
use Rattle.ac_history.specs.Served.{begun, can_follow, after_all}
use Rattle.ac_history.specs.Quiet.{IsQuiet}
use Rattle.program_run.specs.Parties.{owner_of, peer_of}
use Rattle.trace_text.specs.declared.trace.Trace.{Trace}
use Rattle.trace_text.specs.declared.trace.TraceEnd.{TraceEnd}
use Rattle.trace_audit.specs.declared.verdict.Verdict.{Verdict}
use Rattle.trace_audit.specs.declared.verdict.Verdict.TheVariants.{Yes, NoAt, NoAtEnd}
use Rattle.trace_audit.specs.RunTrace.{Fits, AllFit, AllEndAsTold, EndsWell}
use Rattle.trace_audit.specs.Judged.{Judges}
use Rattle.trace_audit.specs.inner.Coded as coded

module _ (program : Resolved) (t : Trace) (same : IsSame (code_of program) program) where
  abbrev code : Parts
  code = code_of program

  as_many : length code.entries ≡ length program.cores
  as_many = length-map program.cores (λ (core : Core). core.entry)

  follow_as : (m n : ℕ) → m ≡ n → (before : List Stamped) (s : Stamped) → can_follow (after_all (begun code.capacities code.widths m t.start) before) s ≡ true
      → can_follow (after_all (begun code.capacities code.widths n t.start) before) s ≡ true
  follow_as m n h before s f = subst (λ k. can_follow (after_all (begun code.capacities code.widths k t.start) before) s ≡ true) h f

  fits : (before : List Stamped) (s : Stamped) → coded.Fits code t before s → Fits program t before s
  fits before s f = record {
    follows = follow_as (length code.entries) (length program.cores) as_many before s f.follows;
    replay = λ lt. let r = f.run (subst (λ n. s.party < n) (sym as_many) lt) in record { end = r.end; replays = (same _ _ _ _).1 (r.count, r.runs) };
  }

  fits_back : (before : List Stamped) (s : Stamped) → Fits program t before s → coded.Fits code t before s
  fits_back before s f = record {
    follows = follow_as (length program.cores) (length code.entries) (sym as_many) before s f.follows;
    run = λ lt. let r = f.replay (subst (λ n. s.party < n) as_many lt) in let c = (same _ _ _ _).0 r.replays in record { end = r.end; count = c.0; runs = c.1 };
  }

  all_fit : (before es : List Stamped) → coded.AllFit code t before es → AllFit program t before es
  all_fit before [] a = tt
  all_fit before (s ∷ ss) a = (fits before s a.0, all_fit (before ++ s ∷ []) ss a.1)

  told : (core : ℕ) (tolds : List TraceEnd) (ends : List CoreEnd) → coded.AllEndAsTold code t core tolds ends → AllEndAsTold program t core tolds ends
  told core [] [] a = tt
  told core [] (end ∷ ends) a = a
  told core (one ∷ tolds) [] a = a
  told core (one ∷ tolds) (end ∷ ends) a = (
    record { replays = (same _ _ _ _).1 (a.0.count, a.0.runs); word = a.0.word; steps = a.0.steps; output = a.0.output },
    told (suc core) tolds ends a.1,
  )

  told_back : (core : ℕ) (tolds : List TraceEnd) (ends : List CoreEnd) → AllEndAsTold program t core tolds ends → coded.AllEndAsTold code t core tolds ends
  told_back core [] [] a = tt
  told_back core [] (end ∷ ends) a = a
  told_back core (one ∷ tolds) [] a = a
  told_back core (one ∷ tolds) (end ∷ ends) a =
      let c = (same _ _ _ _).0 a.0.replays in (
        record { count = c.0; runs = c.1; word = a.0.word; steps = a.0.steps; output = a.0.output },
        told_back (suc core) tolds ends a.1,
      )

  abbrev Quiet : ℕ → List CoreEnd → Type 0
  Quiet n ends = IsQuiet (owner_of code.ends) (peer_of code.ends n) (after_all (begun code.capacities code.widths n t.start) t.entries).past ends

  ends_well : coded.EndsWell code (length program.files) t → EndsWell program t
  ends_well e = record {
    files = e.as_many;
    short = e.short;
    every_core = e.every_core ∙ as_many;
    ends = e.ends;
    told = told 0 t.ends e.ends e.told;
    quiet = subst (λ n. Quiet n e.ends) as_many e.quiet;
  }

  ends_back : EndsWell program t → coded.EndsWell code (length program.files) t
  ends_back e = record {
    as_many = e.files;
    short = e.short;
    every_core = e.every_core ∙ sym as_many;
    ends = e.ends;
    told = told_back 0 t.ends e.ends e.told;
    quiet = subst (λ n. Quiet n e.ends) (sym as_many) e.quiet;
  }

  judges : (verdict : Verdict) → coded.Judges code (length program.files) t verdict → Judges program t verdict
  judges Yes j = record { entries = all_fit [] t.entries j.0; end = ends_well j.1 }
  judges (NoAt place) j = record {
    before = j.before;
    misfit = j.misfit;
    others = j.others;
    form = j.form;
    place_is = j.place_is;
    fit = all_fit [] j.before j.fit;
    fits_not = λ f. j.fits_not (fits_back j.before j.misfit f);
  }
  judges NoAtEnd j = (all_fit [] t.entries j.0, λ e. j.1 (ends_back e))

pub judges_program : (code : Parts) (files : ℕ) (t : Trace) (verdict : Verdict) → coded.Judges code files t verdict → (program : Resolved) → code ≡ code_of program → IsSame code program
    → files ≡ length program.files → Judges program t verdict
judges_program code files t verdict j program is_code is_same is_files =
    judges program t (subst (λ c. IsSame c program) is_code is_same) verdict
    (subst (λ c. coded.Judges c (length program.files) t verdict) is_code (subst (λ n. coded.Judges code n t verdict) is_files j))

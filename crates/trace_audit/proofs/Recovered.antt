-- A trace that is a run is the trace of one: the journals of its parties, with the ends of the cores. The journals merged are the trace's entries
-- again, since these rise, and each core has the end that the trace tells under its journal, by source and by code.
use Rattle.std.proofs.Common.{◌≡◌, ℕ, zero, suc, List, [], ◌∷◌, Some, refl, sym, ap, ◌∙◌, subst, length}
use Rattle.std.specs.Prelude.{map}
use Rattle.std.proofs.lemmas.List.{length-map}
use Rattle.std.proofs.lemmas.List.{length-replicate}
use Rattle.ac_base.specs.Log.{Log}
use Rattle.ac_base.specs.declared.entry.Entry.{Entry}
use Rattle.ac_base.specs.declared.entry.Stamped.{Stamped}
use Rattle.ac_base.specs.declared.ends.CoreEnd.{CoreEnd}
use Rattle.ac_base.specs.declared.ends.EndWord.{EndWord}
use Rattle.ac_base.specs.declared.ends.MachineEnd.{MachineEnd}
use Rattle.ac_commands.specs.declared.program.Resolved.{Resolved}
use Rattle.ac_translation.specs.Translation.{code_of}
use Rattle.ac_links.specs.Order.{Rises, stamp_of}
use Rattle.ac_history.specs.History.{IsLegal}
use Rattle.ac_history.specs.Merged.{merged, entries_of}
use Rattle.ac_history.specs.Quiet.{after_all_of, IsQuiet}
use Rattle.ac_history.specs.Files.{padded, IsServed, deeds}
use Rattle.ac_history.specs.Served.{IsHistory}
use Rattle.ac_history.proofs.Running.{run_is}
use Rattle.program_run.specs.declared.ended.Ended.{Ended}
use Rattle.program_run.specs.Parties.{owner_of, peer_of}
use Rattle.program_run.specs.Run.{AreCoreRuns, AreInOrder, IsRunOf}
use Rattle.program_run.specs.Run as run
use Rattle.trace_text.specs.declared.trace.Trace.{Trace}
use Rattle.trace_text.specs.declared.trace.TraceEnd.{TraceEnd}
use Rattle.trace_audit.specs.RunTrace.{journal_of, nothing_yet, AllEndAsTold, IsRunTrace}
use Rattle.trace_audit.specs.Laws.{told_of, trace_of, IsSound, IsTraced}
use Rattle.trace_audit.proofs.Merging.{parts, parts_are_whole, rising_rises, journal_rises}
use Rattle.trace_audit.proofs.Histories.{past_after, rising, parties_below, fit_history}

abbrev log : List Entry → Log
log entries = record { entries = entries; spare = 0 }

-- the journals of so many parties, from this one on
abbrev logs : ℕ → ℕ → List Stamped → List Log
logs q zero es = []
logs q (suc n) es = log (journal_of q es) ∷ logs (suc q) n es

entries_are : (q n : ℕ) (es : List Stamped) → map entries_of (logs q n es) ≡ parts q n es
entries_are q zero es = refl
entries_are q (suc n) es = ap (λ js. journal_of q es ∷ js) (entries_are (suc q) n es)

logs_rise : (q n : ℕ) (es : List Stamped) → Rises stamp_of es → AreInOrder (logs q n es)
logs_rise q zero es r = tt
logs_rise q (suc n) es r = (journal_rises q es r, logs_rise (suc q) n es r)

abbrev core_of : MachineEnd → CoreEnd
core_of end = end.core

-- the ends of cores that have run, with what a trace tells of them
record HaveRun (program : Resolved) (t : Trace) (core : ℕ) (tolds : List TraceEnd) (ends : List CoreEnd) : Type 0 where
  seen : List MachineEnd
  runs : AreCoreRuns program t.steps core (logs core (suc (length tolds)) t.entries) seen
  told : map told_of seen ≡ tolds
  cores : map core_of seen ≡ ends

told_is : (told : TraceEnd) (end : MachineEnd) → told.word ≡ end.core.word → told.steps ≡ end.core.steps → told.output ≡ end.core.output → told_of end ≡ told
told_is told end word steps output = ap with_word (sym word) ∙ ap with_steps (sym steps) ∙ ap with_output (sym output)
  where
    with_word : EndWord → TraceEnd
    with_word w = record { word = w; steps = end.core.steps; output = end.core.output }

    with_steps : ℕ → TraceEnd
    with_steps n = record { word = told.word; steps = n; output = end.core.output }

    with_output : List ℕ → TraceEnd
    with_output bytes = record { word = told.word; steps = told.steps; output = bytes }

have_run : (program : Resolved) (t : Trace) → IsSound program → (core : ℕ) (tolds : List TraceEnd) (ends : List CoreEnd) → AllEndAsTold program t core tolds ends
    → HaveRun program t core tolds ends
have_run program t sound core [] [] a = record { seen = []; runs = refl; told = refl; cores = refl }
have_run program t sound core [] (end ∷ ends) a = absurd a
have_run program t sound core (told ∷ tolds) [] a = absurd a
have_run program t sound core (told ∷ tolds) (end ∷ ends) a =
    let r = have_run program t sound (suc core) tolds ends a.1 in
    let code = (sound.same core t.steps (journal_of core t.entries) (Some end)).0 a.0.replays in
    let this : MachineEnd = record { core = end; instructions = code.0 } in
    record {
      seen = this ∷ r.seen;
      runs = (record { code = code.1; source = a.0.replays }, r.runs);
      told = ap (λ x. x ∷ map told_of r.seen) (told_is told this a.0.word a.0.steps a.0.output) ∙ ap (λ xs. told ∷ xs) r.told;
      cores = ap (λ xs. end ∷ xs) r.cores;
    }

-- journals and ends are taken from the trace; that these are a run is shown field by field, and that its trace is this one by the merge
module _ (program : Resolved) (t : Trace) (sound : IsSound program) (is : IsRunTrace program t) where
  r : HaveRun program t 0 t.ends is.end.ends
  r = have_run program t sound 0 t.ends is.end.ends is.end.told

  abbrev journals : List Log
  journals = logs 0 (suc (length t.ends)) t.entries

  goes_on : IsHistory (nothing_yet program t) t.entries
  goes_on = fit_history program t [] t.entries is.entries

  parties : length (nothing_yet program t).past.lasts ≡ suc (length t.ends)
  parties = ap suc (length-replicate (length program.cores) 0 ∙ sym is.end.every_core)

  whole : run.history_of journals ≡ t.entries
  whole = ap merged (entries_are 0 (suc (length t.ends)) t.entries)
      ∙ parts_are_whole (suc (length t.ends)) t.entries (rising (nothing_yet program t) t.entries goes_on)
      (parties_below (suc (length t.ends)) (nothing_yet program t) t.entries parties goes_on)

  legal_and_served : IsLegal (run.nothing_yet program) t.entries × IsServed (padded t.start) (deeds (run.nothing_yet program) t.entries)
  legal_and_served = run_is (nothing_yet program t) t.entries goes_on

  abbrev ended : Ended
  ended = record { steps = t.steps; start = t.start; journals = journals; cores = r.seen }

  quiet_after : run.EndsQuiet program t.entries r.seen
  quiet_after =
      subst (IsQuiet (owner_of (code_of program).ends) (peer_of (code_of program).ends (length program.cores)) (after_all_of (run.nothing_yet program) t.entries)) (sym r.cores)
      (subst (λ past. IsQuiet (owner_of (code_of program).ends) (peer_of (code_of program).ends (length program.cores)) past is.end.ends)
      (past_after (nothing_yet program t) t.entries) is.end.quiet)

  is_run : IsRunOf program t.steps t.start ended
  is_run = record {
    steps = refl;
    files = refl;
    every_core = sym (length-map r.seen told_of) ∙ ap length r.told ∙ is.end.every_core;
    cores = r.runs;
    in_order = logs_rise 0 (suc (length t.ends)) t.entries (rising_rises 0 0 t.entries (rising (nothing_yet program t) t.entries goes_on));
    legal = subst (IsLegal (run.nothing_yet program)) (sym whole) legal_and_served.0;
    quiet = subst (λ history. run.EndsQuiet program history r.seen) (sym whole) quiet_after;
  }

  same_trace : trace_of ended ≡ t
  same_trace = ap with_entries whole ∙ ap with_ends r.told
    where
      with_entries : List Stamped → Trace
      with_entries es = record { steps = t.steps; start = t.start; entries = es; ends = map told_of r.seen }

      with_ends : List TraceEnd → Trace
      with_ends ends = record { steps = t.steps; start = t.start; entries = t.entries; ends = ends }

  pub is_of_a_run : IsTraced program t
  is_of_a_run = record {
    ended = ended;
    run = is_run;
    trace = same_trace;
    served = subst (λ history. IsServed (padded t.start) (deeds (run.nothing_yet program) history)) (sym whole) legal_and_served.1;
  }

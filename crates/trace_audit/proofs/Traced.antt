-- The journals of a run, merged by their stamps, are a trace that is a run. Each front of the history is legal, and gives each core a front of its
-- journal, under which it has a replay.
use Rattle.std.proofs.Common.{◌≡◌, ℕ, zero, suc, ◌+◌, ◌<◌, ◌≤◌, List, [], ◌∷◌, ◌++◌, Some, refl, sym, ap, ◌∙◌, subst, arith, length, get_or}
use Rattle.std.specs.Prelude.{map, All}
use Rattle.std.proofs.lemmas.List.{length-map}
use Rattle.ac_base.specs.Log.{Log}
use Rattle.ac_base.specs.declared.entry.Stamped.{Stamped}
use Rattle.ac_base.specs.declared.ends.CoreEnd.{CoreEnd}
use Rattle.ac_base.specs.declared.ends.MachineEnd.{MachineEnd}
use Rattle.ac_commands.specs.declared.program.Resolved.{Resolved}
use Rattle.ac_semantics.specs.Replay.{Replays}
use Rattle.ac_translation.specs.Translation.{code_of}
use Rattle.ac_links.specs.Order.{Rises}
use Rattle.ac_history.specs.Merged.{entries_of}
use Rattle.ac_history.specs.Quiet.{IsQuiet}
use Rattle.ac_history.specs.Files.{padded, IsServed}
use Rattle.ac_history.specs.Served.{IsHistory}
use Rattle.ac_history.proofs.Running.{is_run}
use Rattle.replay_laws.specs.Given.{HasRun}
use Rattle.program_run.specs.declared.ended.Ended.{Ended}
use Rattle.program_run.specs.Parties.{owner_of, peer_of}
use Rattle.program_run.specs.Run.{AreCoreRuns, AreInOrder, IsRunOf, history_of}
use Rattle.program_run.specs.DiskLeft.{deeds_of}
use Rattle.trace_text.specs.declared.trace.Trace.{Trace}
use Rattle.trace_audit.specs.RunTrace.{journal_of, HasReplay, nothing_yet, AllFit, AllEndAsTold, file_limit, EndsWell, IsRunTrace}
use Rattle.trace_audit.specs.Laws.{told_of, trace_of, IsSound}
use Rattle.trace_audit.proofs.Merging.{its_stamp, journal_append, part_is_journal}
use Rattle.trace_audit.proofs.Histories.{past_after, history_fits}
use Rattle.core_replay.proofs.Fronts.{front_runs}

abbrev core_of : MachineEnd → CoreEnd
core_of end = end.core

journal_in_order : (journals : List Log) → AreInOrder journals → (k : ℕ) → Rises its_stamp (get_or (map entries_of journals) k [])
journal_in_order [] a k = tt
journal_in_order (j ∷ js) a zero = a.0
journal_in_order (j ∷ js) a (suc k) = journal_in_order js a.1 k

-- a code that comes to an end under a journal has a run with each front of it
runs_at : (program : Resolved) (bound core : ℕ) (journals : List Log) (ends : List MachineEnd) → AreCoreRuns program bound core journals ends
    → (k p : ℕ) → p ≡ core + k → k < length ends → HasRun (code_of program) p bound (get_or (map entries_of journals) k [])
runs_at program bound core journals [] a k p is lt = absurd (omega arith)
runs_at program bound core [] (end ∷ ends) a k p is lt = absurd a
runs_at program bound core (j ∷ js) (end ∷ ends) a zero p is lt =
    let here : core ≡ p = omega arith in
    subst (λ n. HasRun (code_of program) n bound j.entries) here (record { end = end.core; count = end.instructions; runs = a.0.code })
runs_at program bound core (j ∷ js) (end ∷ ends) a (suc k) p is lt = runs_at program bound (suc core) js ends a.1 k p (omega arith) (omega arith)

-- each core has ended as is told of it
all_told : (program : Resolved) (t : Trace) (core : ℕ) (journals : List Log) (ends : List MachineEnd) → AreCoreRuns program t.steps core journals ends
    → ((k p : ℕ) → p ≡ core + k → journal_of p t.entries ≡ get_or (map entries_of journals) k [])
    → AllEndAsTold program t core (map told_of ends) (map core_of ends)
all_told program t core journals [] a same = tt
all_told program t core [] (end ∷ ends) a same = absurd a
all_told program t core (j ∷ js) (end ∷ ends) a same = (
  record {
    replays = subst (λ es. Replays program core t.steps es (Some end.core)) (sym (same 0 core (omega arith))) a.0.source;
    word = refl;
    steps = refl;
    output = refl;
  },
  all_told program t (suc core) js ends a.1 (λ k p is. same (suc k) p (omega arith)),
)

-- the history is the merged journals; that each entry fits goes by the history, and that the end fits by the cores
module _ (program : Resolved) (bound : ℕ) (start : List (List ℕ)) (ended : Ended) (sound : IsSound program) (run : IsRunOf program bound start ended)
    (served : IsServed (padded start) (deeds_of program ended.journals)) (files : length start ≡ length program.files)
    (short : All (λ bytes. length bytes ≤ file_limit) start) where
  abbrev t : Trace
  t = trace_of ended

  abbrev history : List Stamped
  history = history_of ended.journals

  journal_is : (p : ℕ) → journal_of p history ≡ get_or (map entries_of ended.journals) p []
  journal_is p = part_is_journal p (map entries_of ended.journals) (journal_in_order ended.journals run.in_order p)

  runs : AreCoreRuns program ended.steps 0 ended.journals ended.cores
  runs = subst (λ n. AreCoreRuns program n 0 ended.journals ended.cores) (sym run.steps) run.cores

  -- each core has a replay of each front of its journal
  front_replays : (p : ℕ) (front rest : List Stamped) → history ≡ front ++ rest → p < length program.cores → HasReplay program p t.steps (journal_of p front)
  front_replays p front rest is lt =
      let here : p < length ended.cores = (let e = run.every_core in omega arith) in
      let whole : HasRun (code_of program) p ended.steps (journal_of p front ++ journal_of p rest) =
      subst (HasRun (code_of program) p ended.steps) (sym (journal_is p) ∙ ap (journal_of p) is ∙ journal_append p front rest)
      (runs_at program ended.steps 0 ended.journals ended.cores runs p p (omega arith) here) in
      let r = front_runs (code_of program) p ended.steps sound.ranks sound.valid sound.ranked (journal_of p front) (journal_of p rest) whole in
      record { end = r.end; replays = (sound.same p ended.steps (journal_of p front) (Some r.end)).1 (r.count, r.runs) }

  goes_on : IsHistory (nothing_yet program t) history
  goes_on = is_run (nothing_yet program t) history run.legal (subst (λ files. IsServed (padded files) (deeds_of program ended.journals)) (sym run.files) served)

  pub fits : AllFit program t [] history
  fits = history_fits program t history front_replays [] history refl goes_on

  core_zero : (k p : ℕ) → p ≡ 0 + k → journal_of p history ≡ get_or (map entries_of ended.journals) k []
  core_zero k p is = let same : p ≡ k = omega arith in subst (λ n. journal_of p history ≡ get_or (map entries_of ended.journals) n []) same (journal_is p)

  ends_well : EndsWell program t
  ends_well = record {
    files = ap length run.files ∙ files;
    short = subst (All (λ bytes. length bytes ≤ file_limit)) (sym run.files) short;
    every_core = length-map ended.cores told_of ∙ run.every_core;
    ends = map core_of ended.cores;
    told = all_told program t 0 ended.journals ended.cores runs core_zero;
    quiet = subst (λ past. IsQuiet (owner_of (code_of program).ends) (peer_of (code_of program).ends (length program.cores)) past (map core_of ended.cores))
        (sym (past_after (nothing_yet program t) history)) run.quiet;
  }

  pub is_traced : IsRunTrace program t
  is_traced = record { entries = fits; end = ends_well }

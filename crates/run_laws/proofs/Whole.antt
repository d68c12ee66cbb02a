-- Cores of a code and a worker that are done make one run of each program whose code it is.
use Rattle.std.proofs.Common.{◌≡◌, ℕ, suc, ◌+◌, ◌*◌, ◌<◌, ◌≤◌, List, [], ◌∷◌, Option, Some, refl, sym, ap, ◌∙◌, subst, inl, inr, arith, length, map}
use Rattle.std.specs.Prelude.{◌^◌, slice_get, true}
use Rattle.std.specs.List.{AllByRecursion}
use Rattle.std.proofs.Math.Nat.{mul_left_comm}
use Rattle.std.proofs.lemmas.Nat.{mul-le}
use Rattle.std.proofs.lemmas.List.{length-map}
use Rattle.std.proofs.lemmas.Option.{slice_get_cases}
use Rattle.ac_base.specs.Log.{Log}
use Rattle.ac_base.specs.declared.entry.Entry.{Entry}
use Rattle.ac_base.specs.declared.ends.CoreEnd.{CoreEnd}
use Rattle.ac_base.specs.declared.ends.MachineEnd.{MachineEnd}
use Rattle.ac_commands.specs.declared.program.Core.{Core}
use Rattle.ac_commands.specs.declared.program.Resolved.{Resolved}
use Rattle.ac_semantics.specs.Replay.{Replays}
use Rattle.stack_code.specs.declared.parts.ChannelEnds.{ChannelEnds}
use Rattle.stack_code.specs.Parts.{Parts}
use Rattle.stack_code.specs.Valid.{IsValid}
use Rattle.code_meaning.specs.Machine.{FlatEnd, Runs}
use Rattle.ac_translation.specs.Translation.{code_of}
use Rattle.ac_translation.specs.Same.{IsSame}
use Rattle.ac_history.specs.Merged.{merged, entries_of}
use Rattle.ac_history.specs.History.{IsLegal, has_its_width, start}
use Rattle.ac_history.specs.Quiet.{after_all_of, IsQuiet}
use Rattle.journal_bounds.specs.Actions.{most_actions}
use Rattle.journal_bounds.specs.Laws.{AllReplay}
use Rattle.journal_bounds.proofs.Sizes.{actions_few}
use Rattle.journal_bounds.proofs.Stamps.{stamps_small}
use Rattle.core_channels.specs.LinkViews.{LinkViews}
use Rattle.program_run.specs.declared.ended.Ended.{Ended}
use Rattle.program_run.specs.Parties.{owner_of, peer_of}
use Rattle.program_run.proofs.Widths.{runs_are_wide}
use Rattle.run_laws.specs.Cores.{CoreView, EndsAs, IsAtRest, IsDone, AreCoresOf, journals_of, ends_of}
use Rattle.run_laws.specs.Workers.{WorkerAgreesWith, WorkerRests, WorkerIsDone}
use Rattle.program_run.specs.Run.{IsCoreRun, AreCoreRuns, IsRunOf}
use Rattle.run_laws.specs.Laws.{IsRunOfCores}
use Rattle.run_laws.proofs.Together.{how_many, journal_at, legal}
use Rattle.run_laws.proofs.Clocks.{none_full, worker_not_full}
use Rattle.run_laws.proofs.Ordered.{in_order}
use Rattle.run_laws.proofs.Rested.{quiet}

-- ---- a bound on the stamps

small_bound : (many most bound instrs : ℕ) → most ≤ instrs → instrs < 2 ^ 32 → many * bound ≤ 4000000 → suc (many * (4 * (most * bound))) < 2 ^ 60
small_bound many most bound instrs a b c =
    let e = mul_left_comm many 4 (most * bound) in
    let f = mul_left_comm many most bound in
    let few : most * (many * bound) ≤ 4294967296 * 4000000 = mul-le most (many * bound) 4294967296 4000000 (omega arith) c in
    omega arith

-- ---- the runs of all cores

runs_as : (code other : Parts) (core k bound n : ℕ) (journal j : List Entry) (end : FlatEnd) → code ≡ other → core ≡ k → bound ≡ n → journal ≡ j
    → Runs code core bound journal end → Runs other k n j end
runs_as code other core k bound n journal j end e f g h r = rw (← e, ← f, ← g, ← h) r

replays_as : (program : Resolved) (core k bound : ℕ) (journal j : List Entry) (end : Option CoreEnd) → core ≡ k → journal ≡ j → Replays program core bound journal end → Replays program k bound j end
replays_as program core k bound journal j end e f r = rw (← e, ← f) r

module _ (program : Resolved) (bound : ℕ) (entries : List Entry) where
  all_runs : (from : ℕ) (cores : List CoreView) (journals : List Log) → map entries_of journals ≡ journals_of cores entries
      → ((n k : ℕ) (c : CoreView) → n ≡ from + k → slice_get cores k ≡ Some c → (j : Log) → j.entries ≡ c.journal → IsCoreRun program n bound j c.end)
      → AreCoreRuns program bound from journals (map (λ (c : CoreView). c.end) cores)
  all_runs from [] journals e runs = sym (length-map journals entries_of) ∙ ap length e
  all_runs from (c ∷ cores) [] e runs = cc
  all_runs from (c ∷ cores) (j ∷ journals) e runs = (
    runs from 0 c (omega arith) refl j (let h : j.entries ≡ c.journal = cc in h),
    all_runs (suc from) cores journals (let t : map entries_of journals ≡ journals_of cores entries = cc in t) (λ n k x is there. runs n (suc k) x (omega arith) there),
  )

abbrev Quiet : List ChannelEnds → List ℕ → List ℕ → ℕ → List (List Entry) → List CoreEnd → Type 0
Quiet channels capacities widths many js ends = IsQuiet (owner_of channels) (peer_of channels many) (after_all_of (start capacities widths many) (merged js)) ends

module _ (program : Resolved) (code : Parts) (bound : ℕ) (files : List (List ℕ)) (cores : List CoreView) (entries : List Entry) (links : List LinkViews) (valid : IsValid code)
    (is_code : code ≡ code_of program) (is_same : IsSame code program) (few : length code.entries * bound ≤ 4000000) (all : AreCoresOf code bound cores links)
    (work : WorkerAgreesWith code entries links) (done : (k : ℕ) (c : CoreView) → slice_get cores k ≡ Some c → IsDone c links) (worker : WorkerIsDone code entries links) where
  abbrev many : ℕ
  many = length code.entries

  abbrev most : ℕ
  most = many * (4 * (most_actions program * bound))

  of_number : (k : ℕ) (c : CoreView) (end : MachineEnd) → slice_get cores k ≡ Some c → EndsAs c end → Runs code k bound c.journal (record { core = Some end.core; count = end.instructions })
  of_number k c end is runs =
      let it = all.each k c is in
      runs_as c.code code c.core k c.bound bound c.journal c.journal (record { core = Some end.core; count = end.instructions }) it.code_is it.core_is it.bound_is refl runs

  replays : (k : ℕ) (c : CoreView) (end : MachineEnd) → slice_get cores k ≡ Some c → EndsAs c end → Replays program k bound c.journal (Some end.core)
  replays k c end is runs = (is_same k bound c.journal (Some end.core)).1 (end.instructions, of_number k c end is runs)

  comes : (k : ℕ) (c : CoreView) → slice_get cores k ≡ Some c → IsDone c links → (end : CoreEnd) × Replays program k bound c.journal (Some end)
  comes k c is (inl r) = (c.end.core, replays k c c.end is r.comes)
  comes k c is (inr f) = (f.end.core, replays k c f.end is f.comes)

  all_replay : AllReplay program many bound (journals_of cores entries)
  all_replay k lt = elim (slice_get_cases cores k).1 [
    | inl q ↦ (let r = comes k q.0 q.2 (done k q.0 q.2) in (r.0, subst (λ j. Replays program k bound j (Some r.0)) (sym (journal_at entries cores k q.0 q.2)) r.1))
    | inr q ↦ absurd (let n = all.count in let le = q.0 in omega arith)
  ]

  -- a core that is done has come to an end, and so have its messages the widths of their channels
  wide_by : (k : ℕ) (c : CoreView) → slice_get cores k ≡ Some c → IsDone c links → AllByRecursion (λ e. has_its_width code.widths e.event ≡ true) c.journal
  wide_by k c is (inl r) = runs_are_wide code valid k bound c.end.instructions c.journal c.end.core (of_number k c c.end is r.comes)
  wide_by k c is (inr f) = runs_are_wide code valid k bound f.end.instructions c.journal f.end.core (of_number k c f.end is f.comes)

  its_legal : IsLegal (start code.capacities code.widths many) (merged (journals_of cores entries))
  its_legal = legal code valid.lists.links bound cores entries links all work (λ k c is. wide_by k c is (done k c is))

  small : AllByRecursion (λ e. e.entry.stamp ≤ most) (merged (journals_of cores entries))
  small = stamps_small program code.capacities code.widths many bound (journals_of cores entries) (how_many entries cores ∙ ap suc all.count) all_replay its_legal

  few_stamps : suc most < 2 ^ 60
  few_stamps = small_bound many (most_actions program) bound (length code.instrs)
      (subst (λ (x : Parts). most_actions program ≤ length x.instrs) (sym is_code) (actions_few program)) valid.lists.few few

  rests_by : (k : ℕ) (c : CoreView) → slice_get cores k ≡ Some c → IsDone c links → IsAtRest c links
  rests_by k c is (inl r) = r
  rests_by k c is (inr f) = absurd (none_full code valid.lists.links bound cores entries links all work most small few_stamps k c is f)

  rests : (k : ℕ) (c : CoreView) → slice_get cores k ≡ Some c → IsAtRest c links
  rests k c is = rests_by k c is (done k c is)

  worker_rests_by : WorkerIsDone code entries links → WorkerRests code links
  worker_rests_by (inl r) = r
  worker_rests_by (inr f) = absurd (worker_not_full code valid.lists.links bound cores entries links all work most small few_stamps f)

  worker_rests : WorkerRests code links
  worker_rests = worker_rests_by worker

  its_quiet : IsQuiet (owner_of code.ends) (peer_of code.ends many) (after_all_of (start code.capacities code.widths many) (merged (journals_of cores entries))) (ends_of cores)
  its_quiet = quiet code valid.lists.links bound cores entries links all work rests worker_rests

  as_many : many ≡ length program.cores
  as_many = ap (λ (x : Parts). length x.entries) is_code ∙ length-map program.cores (λ (core : Core). core.entry)

  same_ends : (xs : List CoreView) → map (λ (end : MachineEnd). end.core) (map (λ (c : CoreView). c.end) xs) ≡ ends_of xs
  same_ends [] = refl
  same_ends (c ∷ xs) = ap (λ es. c.end.core ∷ es) (same_ends xs)

  one_core : (n k : ℕ) (c : CoreView) → n ≡ 0 + k → slice_get cores k ≡ Some c → (j : Log) → j.entries ≡ c.journal → IsCoreRun program n bound j c.end
  one_core n k c e is j logged =
      let same : k ≡ n = omega arith in
      let r = (rests k c is).comes in
      record {
        code = runs_as code (code_of program) k n bound bound c.journal j.entries (record { core = Some c.end.core; count = c.end.instructions }) is_code same refl (sym logged)
            (of_number k c c.end is r);
        source = replays_as program k n bound c.journal j.entries (Some c.end.core) same (sym logged) (replays k c c.end is r);
      }

  pub one_run : (ended : Ended) → IsRunOfCores bound files cores entries ended → IsRunOf program bound files ended
  one_run ended made = record {
    steps = made.steps;
    files = made.start;
    every_core = ap length made.ends ∙ length-map cores (λ (c : CoreView). c.end) ∙ all.count ∙ as_many;
    cores = subst (AreCoreRuns program bound 0 ended.journals) (sym made.ends) (all_runs program bound entries 0 cores ended.journals made.journals one_core);
    in_order = in_order code bound cores entries links all work ended.journals made.journals;
    legal = subst (λ (x : Parts). IsLegal (start x.capacities x.widths (length program.cores)) (merged (map entries_of ended.journals))) is_code
        (subst (λ n. IsLegal (start code.capacities code.widths n) (merged (map entries_of ended.journals))) as_many
        (subst (λ h. IsLegal (start code.capacities code.widths many) (merged h)) (sym made.journals) its_legal));
    quiet = subst (λ (x : Parts). Quiet x.ends x.capacities x.widths (length program.cores) (map entries_of ended.journals) (map (λ (end : MachineEnd). end.core) ended.cores)) is_code
        (subst (λ n. Quiet code.ends code.capacities code.widths n (map entries_of ended.journals) (map (λ (end : MachineEnd). end.core) ended.cores)) as_many
        (subst (λ js. Quiet code.ends code.capacities code.widths many js (map (λ (end : MachineEnd). end.core) ended.cores)) (sym made.journals)
        (subst (Quiet code.ends code.capacities code.widths many (journals_of cores entries)) (sym (ap (map (λ (end : MachineEnd). end.core)) made.ends ∙ same_ends cores)) its_quiet)));
  }

-- A core under its first so many entries of a run: it never refuses one, since each front of a journal that has a run has one; and the end to which it
-- comes is that of the program, whose code has the same runs.
use Rattle.std.proofs.Common.{◌≡◌, ℕ, suc, ◌+◌, ◌-◌, ◌<◌, ◌≤◌, List, [], ◌∷◌, ◌++◌, length, Some, None, Result, Ok}
use Rattle.std.proofs.Common.{Err, Bool, true, false, refl, sym, ap, ◌∙◌, subst, arith, take, drop, add-one, ◌⊎◌, inl, inr}
use Rattle.std.specs.Prelude.{IfOk, nat_eq, slice_get, slice_index}
use Rattle.std.proofs.lemmas.Bool.{cases_Bool, cases_lt, eqb-true}
use Rattle.std.proofs.lemmas.List.{length-append, length-map, take-append-drop}
use Rattle.std.proofs.lemmas.Option.{same_Some, slice_get_within}
use Rattle.ac_base.specs.declared.ends.CoreEnd.{CoreEnd}
use Rattle.ac_base.specs.declared.entry.Stamped.{Stamped}
use Rattle.ac_commands.specs.declared.program.Core.{Core}
use Rattle.ac_commands.specs.declared.program.Resolved.{Resolved}
use Rattle.ac_translation.specs.Translation.{code_of}
use Rattle.ac_translation.specs.Same.{IsSame}
use Rattle.stack_code.specs.Parts.{Parts}
use Rattle.stack_code.specs.Kept.{IsRanked}
use Rattle.stack_code.specs.Valid.{IsValid}
use Rattle.core_replay.specs.Replayed.{Replayed, IsSameCore}
use Rattle.replay_laws.specs.Given.{HasRun}
use Rattle.trace_text.specs.declared.trace.Trace.{Trace}
use Rattle.trace_audit.specs.RunTrace.{journal_of}
use Rattle.core_replay.proofs.Fronts.{front_runs}
use Rattle.trace_audit.proofs.Merging.{journal_append}
use Rattle.ac_causal.specs.Run.{IsAudited}
use Rattle.ac_causal.specs.States.{cut_journal, AreStates}
use Rattle.ac_causal.specs.inner.Standing.{RunsTo, AreRunsTo, HasTaken}
use Rattle.ac_causal.proofs.Fronts.{take_all, one_of, none_of, front, front_more, front_full, front_other}
use Rattle.ac_causal.proofs.ClosedCuts.{journal_runs}
use Rattle.ac_causal.proofs.Steps.{get_pushed_last, get_pushed_other}

-- what follows of what was returned
pub if_ok_by : {X E : Type 0} (r : Result X E) (P Q : X → Type 0) → ((x : X) → P x → Q x) → IfOk r P → IfOk r Q
if_ok_by (Ok x) P Q f h = f x h
if_ok_by (Err e) P Q f h = tt

-- the journal of a core of an audited trace has a run of the code
audited_runs : (code : Parts) (t : Trace) → IsAudited code t → (core : ℕ) → core < length code.entries → HasRun code core t.steps (journal_of core t.entries)
audited_runs code t a core lt =
    let same : IsSame (code_of a.program) a.program = subst (λ c. IsSame c a.program) a.code_is a.same in
    subst (λ (c : Parts). HasRun c core t.steps (journal_of core t.entries)) (sym a.code_is)
    (journal_runs a.program t same a.run core (subst (λ (c : Parts). core < length c.entries) a.code_is lt))

module _ (code : Parts) (core bound count : ℕ) (es : List Stamped) (n : ℕ) (r : Replayed) (left : ℕ) (h : HasTaken code core bound count es n r left) (s : Stamped)
    (is : slice_get es n ≡ Some s) where
  -- the same of one entry more
  later : (r : Replayed) (left : ℕ) → HasTaken code core bound count es (suc n) r left → HasTaken code core bound count es (n + 1) r left
  later r left h = subst (λ k. HasTaken code core bound count es k r left) (sym (add-one n)) h

  -- an entry of another party
  pub goes_by : (s.party ≡ core → ⊥) → HasTaken code core bound count es (n + 1) r left
  goes_by other = by (cases_Bool (nat_eq s.party core))
    where
      by : (nat_eq s.party core ≡ true) ⊎ (nat_eq s.party core ≡ false) → HasTaken code core bound count es (n + 1) r left
      by (inl same) = absurd (other (eqb-true s.party core same))
      by (inr apart) =
          let long : length (front es core (suc n)) ≡ length (front es core n ++ []) =
          ap length (front_more es core n s is ∙ ap (λ xs. front es core n ++ xs) (none_of core s apart)) in
          let more = length-append (front es core n) [] in
          let before = h.left_is in
          later r left (record {
            took_all = h.took_all;
            code_is = h.code_is;
            core_is = h.core_is;
            bound_is = h.bound_is;
            journal_is = h.journal_is ∙ sym (front_other es core count n s is apart);
            left_is = omega (arith, long, more, before);
          })

  -- one behind the first so many
  pub full_by : left ≡ 0 → HasTaken code core bound count es (n + 1) r left
  full_by none =
      let before = h.left_is in
      let le : count ≤ length (front es core n) = omega (arith, before, none) in
      let form = ap length (front_more es core n s is) in
      let more = length-append (front es core n) (journal_of core (s ∷ [])) in
      later r left (record {
        took_all = h.took_all;
        code_is = h.code_is;
        core_is = h.core_is;
        bound_is = h.bound_is;
        journal_is = h.journal_is ∙ sym (front_full es core count n s is le);
        left_is = omega (arith, none, le, form, more);
      })

  module _ (own : s.party ≡ core) (some : left ≡ 0 → ⊥) where
    lt : length (front es core n) < count
    lt = by (cases_lt (length (front es core n)) count)
      where
        by : (length (front es core n) < count) ⊎ (count ≤ length (front es core n)) → length (front es core n) < count
        by (inl less) = less
        by (inr le) = absurd (some (let before = h.left_is in omega (arith, before, le)))

    one_more : r.journal ++ s.entry ∷ [] ≡ front es core (suc n)
    one_more =
        ap (λ j. j ++ s.entry ∷ []) (h.journal_is ∙ take_all (front es core n) count (omega (arith, lt)))
        ∙ sym (front_more es core n s is ∙ ap (λ xs. front es core n ++ xs) (one_of core s own))

    -- the core goes on with it
    pub runs_next : (ranks : List ℕ) → IsValid code → IsRanked code ranks → HasRun code core bound (journal_of core es) → HasRun r.code r.core r.bound (r.journal ++ s.entry ∷ [])
    runs_next ranks valid ranked whole =
        let parted : journal_of core es ≡ front es core (suc n) ++ journal_of core (drop (suc n) es) =
        ap (journal_of core) (sym (take-append-drop (suc n) es)) ∙ journal_append core (take (suc n) es) (drop (suc n) es) in
        let run = front_runs code core bound ranks valid ranked (front es core (suc n)) (journal_of core (drop (suc n) es)) (subst (HasRun code core bound) parted whole) in
        subst (λ c. HasRun c r.core r.bound (r.journal ++ s.entry ∷ [])) (sym h.code_is)
        (subst (λ k. HasRun code k r.bound (r.journal ++ s.entry ∷ [])) (sym h.core_is)
        (subst (λ b. HasRun code core b (r.journal ++ s.entry ∷ [])) (sym h.bound_is)
        (subst (HasRun code core bound) (sym one_more) run)))

    pub taken_by : (b : Bool) (after : Replayed) (less : ℕ) → (b ≡ false → HasRun r.code r.core r.bound (r.journal ++ s.entry ∷ []) → ⊥)
        → HasRun r.code r.core r.bound (r.journal ++ s.entry ∷ []) → IsSameCore r after → (b ≡ true → after.journal ≡ r.journal ++ s.entry ∷ []) → after.took_all ≡ b
        → less ≡ left - 1 → HasTaken code core bound count es (n + 1) after less
    taken_by b after less refused run same took all less_is = by (cases_Bool b)
      where
        by : (b ≡ true) ⊎ (b ≡ false) → HasTaken code core bound count es (n + 1) after less
        by (inr fails) = absurd (refused fails run)
        by (inl holds) =
            let long : length (front es core (suc n)) ≡ length (front es core n ++ s.entry ∷ []) =
            ap length (front_more es core n s is ∙ ap (λ xs. front es core n ++ xs) (one_of core s own)) in
            let more = length-append (front es core n) (s.entry ∷ []) in
            let before = h.left_is in
            let room = lt in
            later after less (record {
              took_all = all ∙ holds;
              code_is = same.code ∙ h.code_is;
              core_is = same.core ∙ h.core_is;
              bound_is = same.bound ∙ h.bound_is;
              journal_is = took holds ∙ one_more ∙ sym (take_all (front es core (suc n)) count (omega (arith, long, more, room)));
              left_is = omega (arith, long, more, before, less_is);
            })

pub takes_first : (code : Parts) (core bound count : ℕ) (es : List Stamped) (r : Replayed) → r.took_all ≡ true → r.code ≡ code → r.core ≡ core → r.bound ≡ bound → r.journal ≡ []
    → HasTaken code core bound count es 0 r count
takes_first code core bound count es r all code_is core_is bound_is none = record {
  took_all = all;
  code_is = code_is;
  core_is = core_is;
  bound_is = bound_is;
  journal_is = none ∙ sym (take_all [] count (omega arith));
  left_is = omega arith;
}

-- behind the last entry
pub ends_so : (code : Parts) (core bound count : ℕ) (es : List Stamped) (n : ℕ) (r : Replayed) (left : ℕ) → HasTaken code core bound count es n r left → length es ≤ n
    → (end : CoreEnd) → RunsTo r.code r.core r.bound r.journal end → RunsTo code core bound (take count (journal_of core es)) end
ends_so code core bound count es n r left h all end runs =
    subst (λ j. RunsTo code core bound j end) (h.journal_is ∙ ap (λ xs. take count (journal_of core xs)) (take_all es n all))
    (subst (λ b. RunsTo code core b r.journal end) h.bound_is
    (subst (λ k. RunsTo code k r.bound r.journal end) h.core_is
    (subst (λ c. RunsTo c r.core r.bound r.journal end) h.code_is runs)))

pub audited_next : (code : Parts) (t : Trace) (core count : ℕ) (es : List Stamped) (n : ℕ) (r : Replayed) (left : ℕ) → HasTaken code core t.steps count es n r left → (s : Stamped)
    → slice_get es n ≡ Some s → s.party ≡ core → (left ≡ 0 → ⊥) → (ranks : List ℕ) → IsValid code → IsRanked code ranks → IsAudited code t → core < length code.entries → es ≡ t.entries
    → HasRun r.code r.core r.bound (r.journal ++ s.entry ∷ [])
audited_next code t core count es n r left h s is own some ranks valid ranked audited lt whole =
    runs_next code core t.steps count es n r left h s is own some ranks valid ranked
    (subst (λ xs. HasRun code core t.steps (journal_of core xs)) (sym whole) (audited_runs code t audited core lt))

-- ---- all cores

pub none_yet : (code : Parts) (bound : ℕ) (es : List Stamped) (counts : List ℕ) → AreRunsTo code bound es counts 0 []
none_yet code bound es counts = record { so_many = refl; each = λ core end h. (let no : None ≡ Some end = h in absurd (cc)) }

pub one_core_more : (code : Parts) (bound : ℕ) (es : List Stamped) (counts : List ℕ) (cores count : ℕ) (ends : List CoreEnd) (end : CoreEnd) → AreRunsTo code bound es counts cores ends
    → count ≡ slice_index counts cores → RunsTo code cores bound (take count (journal_of cores es)) end → AreRunsTo code bound es counts (cores + 1) (ends ++ end ∷ [])
one_core_more code bound es counts cores count ends end before count_is runs = record {
  so_many = (let a = length-append ends (end ∷ []) in let b = before.so_many in omega (arith, a, b));
  each = each;
}
  where
    its_own : RunsTo code cores bound (cut_journal es counts cores) end
    its_own = subst (λ c. RunsTo code cores bound (take c (journal_of cores es)) end) count_is runs

    each : (core : ℕ) (x : CoreEnd) → slice_get (ends ++ end ∷ []) core ≡ Some x → RunsTo code core bound (cut_journal es counts core) x
    each core x h = by (cases_lt core cores)
      where
        by : (core < cores) ⊎ (cores ≤ core) → RunsTo code core bound (cut_journal es counts core) x
        by (inl lt) =
            before.each core x (sym (get_pushed_other ends end core (λ e. (let n = before.so_many in omega (arith, lt, e, n)))) ∙ h)
        by (inr le) =
            let within = slice_get_within (ends ++ end ∷ []) core x h in
            let long = length-append ends (end ∷ []) in
            let many = before.so_many in
            let here : length ends ≡ core = omega (arith, le, within, long, many) in
            let last : end ≡ x = same_Some end x (sym (get_pushed_last ends end) ∙ ap (λ k. slice_get (ends ++ end ∷ []) k) here ∙ h) in
            let at : cores ≡ core = omega (arith, here, many) in
            subst (λ y. RunsTo code core bound (cut_journal es counts core) y) last
            (subst (λ k. RunsTo code k bound (cut_journal es counts k) end) at its_own)

-- and of each program with this code and the same runs
pub are_states : (code : Parts) (bound : ℕ) (es : List Stamped) (counts : List ℕ) (ends : List CoreEnd) → AreRunsTo code bound es counts (length code.entries) ends
    → (program : Resolved) → code ≡ code_of program → IsSame code program → AreStates program bound es counts ends
are_states code bound es counts ends h program is same = record {
  every_core = h.so_many ∙ ap (λ (c : Parts). length c.entries) is ∙ length-map program.cores (λ (core : Core). core.entry);
  each = λ core end there. (same core bound (cut_journal es counts core) (Some end)).1 (h.each core end there);
}

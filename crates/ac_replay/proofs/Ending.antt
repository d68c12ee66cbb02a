-- The cores of a trace that is a run of a program: each has a run under its journal, in the code as in the source, and so each comes to one end
-- there.
use Rattle.std.proofs.Common.{◌≡◌, ℕ, zero, suc, ◌+◌, ◌<◌, ◌≤◌, List, [], ◌∷◌, ◌++◌, Some, refl, sym, ap, ◌∙◌, subst, inl, inr, arith, length}
use Rattle.std.specs.Prelude.{slice_get}
use Rattle.std.proofs.lemmas.Bool.Decides.{leb_tells}
use Rattle.std.proofs.lemmas.List.{length-append, length-map}
use Rattle.ac_base.specs.declared.ends.CoreEnd.{CoreEnd}
use Rattle.ac_base.specs.declared.ends.MachineEnd.{MachineEnd}
use Rattle.ac_commands.specs.declared.program.Core.{Core}
use Rattle.ac_commands.specs.declared.program.Resolved.{Resolved}
use Rattle.ac_translation.specs.Same.{IsSame}
use Rattle.ac_translation.specs.Translation.{code_of}
use Rattle.code_meaning.specs.Machine.{Runs}
use Rattle.replay_laws.specs.Given.{HasRun}
use Rattle.stack_code.specs.Parts.{Parts}
use Rattle.trace_audit.specs.RunTrace.{AllEndAsTold, EndsAsTold, IsRunTrace, journal_of}
use Rattle.trace_text.specs.declared.trace.Trace.{Trace}
use Rattle.trace_text.specs.declared.trace.TraceEnd.{TraceEnd}
use Rattle.ac_replay.specs.Replaying.{AreReplayed}

abbrev entry_of : Core → ℕ
entry_of core = core.entry

pub as_many : (program : Resolved) (code : Parts) → code ≡ code_of program → length code.entries ≡ length program.cores
as_many program code h = ap (λ (c : Parts). length c.entries) h ∙ length-map program.cores entry_of

-- the end of one of them, with what is told of it
record EndsAt (program : Resolved) (t : Trace) (core : ℕ) : Type 0 where
  told : TraceEnd
  end : CoreEnd
  ends : EndsAsTold program t core told end

ends_at : (program : Resolved) (t : Trace) (first : ℕ) (tolds : List TraceEnd) (ends : List CoreEnd) → AllEndAsTold program t first tolds ends
    → (k core : ℕ) → core ≡ first + k → k < length tolds → EndsAt program t core
ends_at program t first [] [] all k core is lt = absurd (omega arith)
ends_at program t first [] (end ∷ ends) all k core is lt = absurd all
ends_at program t first (told ∷ tolds) [] all k core is lt = absurd all
ends_at program t first (told ∷ tolds) (end ∷ ends) all zero core is lt =
    let here : first ≡ core = omega arith in record { told = told; end = end; ends = subst (λ n. EndsAsTold program t n told end) here all.0 }
ends_at program t first (told ∷ tolds) (end ∷ ends) all (suc k) core is lt = ends_at program t (suc first) tolds ends all.1 k core (omega arith) (omega arith)

-- each core of the code has a run under its journal in the trace
pub runs_whole : (program : Resolved) (code : Parts) (t : Trace) → code ≡ code_of program → IsSame code program → IsRunTrace program t → (core : ℕ) → core < length code.entries
    → HasRun code core t.steps (journal_of core t.entries)
runs_whole program code t is same run core lt =
    let count = as_many program code is in
    let every = run.end.every_core in
    let at = ends_at program t 0 t.ends run.end.ends run.end.told core core (omega arith) (omega arith) in
    let both = (same core t.steps (journal_of core t.entries) (Some at.end)).0 at.ends.replays in
    record { end = at.end; count = both.0; runs = both.1 }

-- ---- all of them

-- the first so many cores
pub record AreFirst (code : Parts) (t : Trace) (ends : List MachineEnd) (n : ℕ) : Type 0 where
  pub count : length ends ≡ n
  pub each : (core : ℕ) (end : MachineEnd) → slice_get ends core ≡ Some end → Runs code core t.steps (journal_of core t.entries) (record { core = Some end.core; count = end.instructions })

get_old : {X : Type 0} (xs : List X) (x : X) (k : ℕ) → k < length xs → slice_get (xs ++ x ∷ []) k ≡ slice_get xs k
get_old [] x k h = absurd (omega arith)
get_old (y ∷ ys) x zero h = refl
get_old (y ∷ ys) x (suc k) h = get_old ys x k (omega arith)

get_new : {X : Type 0} (xs : List X) (x y : X) (k : ℕ) → length xs ≤ k → slice_get (xs ++ x ∷ []) k ≡ Some y → (k ≡ length xs) × (x ≡ y)
get_new [] x y zero h g = (refl, cc)
get_new [] x y (suc k) h g = cc
get_new (z ∷ zs) x y zero h g = absurd (omega arith)
get_new (z ∷ zs) x y (suc k) h g = let r = get_new zs x y k (omega arith) g in (ap suc r.0, r.1)

pub first_none : (code : Parts) (t : Trace) → AreFirst code t [] 0
first_none code t = record { count = refl; each = λ core end there. absurd (cc (there)) }

pub first_more : (code : Parts) (t : Trace) (ends : List MachineEnd) (end : MachineEnd) (n : ℕ) → AreFirst code t ends n
    → Runs code n t.steps (journal_of n t.entries) (record { core = Some end.core; count = end.instructions }) → AreFirst code t (ends ++ end ∷ []) (n + 1)
first_more code t ends end n first runs = record {
  count = length-append ends (end ∷ []) ∙ ap (λ k. k + 1) first.count;
  each = λ core e there. elim (leb_tells (length ends) core) [
    | inl q ↦
        let new = get_new ends end e core q.1 there in
        let number : n ≡ core = sym first.count ∙ sym new.0 in
        subst (λ k. Ends k e) number (subst (Ends n) new.1 runs)
    | inr q ↦ first.each core e (sym (get_old ends end core q.1) ∙ there)
  ];
}
  where
    Ends : ℕ → MachineEnd → Type 0
    Ends k x = Runs code k t.steps (journal_of k t.entries) (record { core = Some x.core; count = x.instructions })

pub all_replayed : (program : Resolved) (code : Parts) (t : Trace) (ends : List MachineEnd) → code ≡ code_of program → AreFirst code t ends (length code.entries) → AreReplayed program t ends
all_replayed program code t ends is h = record {
  every_core = h.count ∙ as_many program code is;
  each = λ core end there.
      subst (λ (c : Parts). Runs c core t.steps (journal_of core t.entries) (record { core = Some end.core; count = end.instructions })) is (h.each core end there);
}

-- A run whose trace is run again: each core has one journal in the run and in its trace, and under it one end in the code.
use Rattle.std.proofs.Common.{◌≡◌, ℕ, zero, suc, ◌+◌, ◌<◌, List, [], ◌∷◌, Some, refl, sym, ap, ◌∙◌, subst, arith, length, get_or}
use Rattle.std.specs.Prelude.{map, slice_get}
use Rattle.std.proofs.lemmas.Option.{slice_get_within}
use Rattle.ac_base.specs.Log.{Log}
use Rattle.ac_base.specs.declared.ends.CoreEnd.{CoreEnd}
use Rattle.ac_base.specs.declared.ends.MachineEnd.{MachineEnd}
use Rattle.ac_base.specs.declared.entry.Entry.{Entry}
use Rattle.ac_commands.specs.declared.program.Resolved.{Resolved}
use Rattle.ac_history.specs.Merged.{entries_of}
use Rattle.ac_links.specs.Order.{Rises}
use Rattle.ac_translation.specs.Translation.{code_of}
use Rattle.code_meaning.specs.Machine.{FlatEnd, Runs}
use Rattle.code_safety.proofs.OneEnd.{ends_only_so}
use Rattle.program_run.specs.declared.ended.Ended.{Ended}
use Rattle.program_run.specs.Run.{AreCoreRuns, AreInOrder, IsRunOf, history_of}
use Rattle.trace_audit.specs.Laws.{IsSound, trace_of}
use Rattle.trace_audit.specs.RunTrace.{journal_of}
use Rattle.trace_audit.proofs.Merging.{its_stamp, part_is_journal}
use Rattle.ac_replay.specs.Laws.{IsRepeated, RunsAreRepeated}
use Rattle.ac_replay.specs.Replaying.{AreReplayed}
use Rattle.ac_replay.proofs.Ending.{as_many}
use Rattle.ac_replay.proofs.Following.{end_as}

-- ---- one end

same_ends : (x y : MachineEnd) → end_as x ≡ end_as y → x ≡ y
same_ends x y e =
    let some : Some x.core ≡ Some y.core = ap (λ (f : FlatEnd). f.core) e in
    let core : x.core ≡ y.core = cc (some) in
    let count : x.instructions ≡ y.instructions = ap (λ (f : FlatEnd). f.count) e in
    ap with_core core ∙ ap with_count count
  where
    with_core : CoreEnd → MachineEnd
    with_core c = record { core = c; instructions = x.instructions }

    with_count : ℕ → MachineEnd
    with_count n = record { core = y.core; instructions = n }

-- lists with the same elements
all_same : (xs ys : List MachineEnd) → length xs ≡ length ys
    → ((k : ℕ) (x y : MachineEnd) → slice_get xs k ≡ Some x → slice_get ys k ≡ Some y → x ≡ y) → xs ≡ ys
all_same [] [] count each = refl
all_same [] (y ∷ ys) count each = absurd (omega arith)
all_same (x ∷ xs) [] count each = absurd (omega arith)
all_same (x ∷ xs) (y ∷ ys) count each =
    ap (λ z. z ∷ xs) (each 0 x y refl refl) ∙ ap (λ zs. y ∷ zs) (all_same xs ys (omega arith) (λ k a b h g. each (suc k) a b h g))

-- ---- one journal

in_order_at : (journals : List Log) → AreInOrder journals → (k : ℕ) → Rises its_stamp (get_or (map entries_of journals) k [])
in_order_at [] a k = tt
in_order_at (j ∷ js) a zero = a.0
in_order_at (j ∷ js) a (suc k) = in_order_at js a.1 k

run_at : (program : Resolved) (bound first : ℕ) (journals : List Log) (ends : List MachineEnd) → AreCoreRuns program bound first journals ends
    → (k core : ℕ) (end : MachineEnd) → core ≡ first + k → slice_get ends k ≡ Some end → Runs (code_of program) core bound (get_or (map entries_of journals) k []) (end_as end)
run_at program bound first journals [] a k core end is here = absurd (cc (here))
run_at program bound first [] (e ∷ ends) a k core end is here = absurd a
run_at program bound first (j ∷ js) (e ∷ ends) a zero core end is here =
    let same : e ≡ end = cc (here) in
    let number : first ≡ core = omega arith in
    subst (λ n. Runs (code_of program) n bound j.entries (end_as end)) number (subst (λ (x : MachineEnd). Runs (code_of program) first bound j.entries (end_as x)) same a.0.code)
run_at program bound first (j ∷ js) (e ∷ ends) a (suc k) core end is here = run_at program bound (suc first) js ends a.1 k core end (omega arith) here

-- ---- the run

module _ (program : Resolved) (bound : ℕ) (start : List (List ℕ)) (ended : Ended) (sound : IsSound program) (run : IsRunOf program bound start ended) where
  journal_is : (core : ℕ) → journal_of core (history_of ended.journals) ≡ get_or (map entries_of ended.journals) core []
  journal_is core = part_is_journal core (map entries_of ended.journals) (in_order_at ended.journals run.in_order core)

  its_ends : AreReplayed program (trace_of ended) ended.cores
  its_ends = record {
    every_core = run.every_core;
    each = λ core end here.
        subst (λ (es : List Entry). Runs (code_of program) core ended.steps es (end_as end)) (sym (journal_is core))
        (subst (λ n. Runs (code_of program) core n (get_or (map entries_of ended.journals) core []) (end_as end)) (sym run.steps)
        (run_at program bound 0 ended.journals ended.cores run.cores core core end (omega arith) here));
  }

  one_end : (core : ℕ) (d e : FlatEnd) → core < length (code_of program).entries → Runs (code_of program) core ended.steps (journal_of core (history_of ended.journals)) d
      → Runs (code_of program) core ended.steps (journal_of core (history_of ended.journals)) e → d ≡ e
  one_end core d e lt r s =
      let o = ends_only_so (code_of program) sound.valid core lt sound.ranks sound.ranked ended.steps (journal_of core (history_of ended.journals)) in
      o.1.only d r ∙ sym (o.1.only e s)

  no_others : (others : List MachineEnd) → AreReplayed program (trace_of ended) others → others ≡ ended.cores
  no_others others h = all_same others ended.cores (h.every_core ∙ sym run.every_core) (λ k x y here there.
      same_ends x y (one_end k (end_as x) (end_as y)
      (let count = h.every_core in let many = as_many program (code_of program) refl in let w = slice_get_within others k x here in omega arith)
      (h.each k x here) (its_ends.each k y there)))

  pub is_repeated : IsRepeated program ended
  is_repeated = record { ends = its_ends; only = no_others; deeds = refl }

pub runs_are_repeated : RunsAreRepeated
runs_are_repeated program bound start ended sound run = is_repeated program bound start ended sound run

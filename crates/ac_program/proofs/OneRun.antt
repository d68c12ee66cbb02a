-- Two runs of a program without channels and files, with the same bound, have the same status and the same trace. Nothing can come to a
-- core, so each journal is empty, and a core's run under the empty journal is one.
use Rattle.std.proofs.Common.{◌≡◌, ℕ, suc, Bool, List, [], ◌∷◌, length, map, ap, Some, None, refl, sym, ◌∙◌, subst, arith}
use Rattle.ac_base.specs.Log.{Log}
use Rattle.ac_base.specs.Report.{any_ends, is_trapped, is_out_of_steps, is_stalled, status_of}
use Rattle.ac_base.specs.declared.entry.Entry.{Entry}
use Rattle.ac_base.specs.declared.ends.EndWord.{EndWord}
use Rattle.ac_base.specs.declared.ends.CoreEnd.{CoreEnd}
use Rattle.ac_base.specs.declared.ends.MachineEnd.{MachineEnd}
use Rattle.ac_tree.specs.declared.item.Program.{Program}
use Rattle.ac_tree.specs.Shape.{HasShape}
use Rattle.ac_types.specs.Reached.{BreaksNone}
use Rattle.ac_commands.specs.declared.program.Resolved.{Resolved}
use Rattle.ac_resolve.specs.Resolution.{resolved}
use Rattle.ac_semantics.specs.Replay.{Replays}
use Rattle.code_meaning.specs.Machine.{Runs}
use Rattle.ac_translation.specs.Translation.{code_of}
use Rattle.code_safety.proofs.NoEntries.{alone_takes_none}
use Rattle.ac_compile.proofs.Alone.{code_alone}
use Rattle.ac_compile.proofs.OnlyEnds.{source_only}
use Rattle.program_run.specs.declared.ended.Ended.{Ended}
use Rattle.program_run.specs.Run.{IsCoreRun, AreCoreRuns, IsRunOf, history_of}
use Rattle.ac_names.specs.Numbered.{file_paths}
use Rattle.ac_words.specs.declared.task.Telling.{Telling}
use Rattle.ac_words.specs.declared.task.Telling.TheVariants as w
use Rattle.trace_text.specs.declared.trace.Trace.{Trace}
use Rattle.trace_text.specs.Text.{trace_text}
use Rattle.trace_audit.specs.Laws.{told_of, trace_of}
use Rattle.ac_program.specs.Making.{Tells, whole, long_trace}
use Rattle.ac_program.proofs.RunHistories.{no_history}

module _ (p : Program) (clean : BreaksNone p.items) (shaped : HasShape p) (none : (resolved p).channels ≡ []) (no_files : (resolved p).files ≡ []) (bound : ℕ) where
  abbrev program : Resolved
  program = resolved p

  -- ---- such a program starts no operation, so no entry fits

  none_in : (core : ℕ) (es : List Entry) (end : MachineEnd) → Runs (code_of program) core bound es (record { core = Some end.core; count = end.instructions }) → es ≡ []
  none_in core [] end h = refl
  none_in core (e ∷ es) end h =
      let never : Some end.core ≡ None = alone_takes_none (code_of program) core bound e es (record { core = Some end.core; count = end.instructions }) (code_alone p clean shaped none no_files) h in
      absurd (cc (never))

  -- ---- so each core has one end

  same_core : (core : ℕ) (j k : List Entry) (x y : CoreEnd) → j ≡ [] → k ≡ [] → Replays program core bound j (Some x) → Replays program core bound k (Some y) → x ≡ y
  same_core core j k x y e f h i =
      let first : Replays program core bound [] (Some x) = subst (λ (l : List Entry). Replays program core bound l (Some x)) e h in
      let other : Replays program core bound [] (Some y) = subst (λ (l : List Entry). Replays program core bound l (Some y)) f i in
      let same : Some x ≡ Some y = source_only program core bound [] (Some x) (Some y) first other in
      cc

  same_end : (core : ℕ) (j k : Log) (x y : MachineEnd) → IsCoreRun program core bound j x → IsCoreRun program core bound k y → x.core ≡ y.core
  same_end core j k x y h i = same_core core j.entries k.entries x.core y.core (none_in core j.entries x h.code) (none_in core k.entries y i.code) h.source i.source

  same_any : (p : EndWord → Bool) (core : ℕ) (js ks : List Log) (xs ys : List MachineEnd) →
      AreCoreRuns program bound core js xs → AreCoreRuns program bound core ks ys → length xs ≡ length ys → any_ends p xs ≡ any_ends p ys
  same_any p core js ks [] [] h i l = refl
  same_any p core js ks [] (y ∷ ys) h i l = absurd (omega (arith, l))
  same_any p core js ks (x ∷ xs) [] h i l = absurd (omega (arith, l))
  same_any p core [] ks (x ∷ xs) (y ∷ ys) h i l = absurd h
  same_any p core (j ∷ js) [] (x ∷ xs) (y ∷ ys) h i l = absurd i
  same_any p core (j ∷ js) (k ∷ ks) (x ∷ xs) (y ∷ ys) h i l =
      rw (same_end core j k x y h.0 i.0, same_any p (suc core) js ks xs ys h.1 i.1 (omega (arith, l))) refl

  same_tolds : (core : ℕ) (js ks : List Log) (xs ys : List MachineEnd) →
      AreCoreRuns program bound core js xs → AreCoreRuns program bound core ks ys → length xs ≡ length ys → map told_of xs ≡ map told_of ys
  same_tolds core js ks [] [] h i l = refl
  same_tolds core js ks [] (y ∷ ys) h i l = absurd (omega (arith, l))
  same_tolds core js ks (x ∷ xs) [] h i l = absurd (omega (arith, l))
  same_tolds core [] ks (x ∷ xs) (y ∷ ys) h i l = absurd h
  same_tolds core (j ∷ js) [] (x ∷ xs) (y ∷ ys) h i l = absurd i
  same_tolds core (j ∷ js) (k ∷ ks) (x ∷ xs) (y ∷ ys) h i l =
      rw (same_end core j k x y h.0 i.0, same_tolds (suc core) js ks xs ys h.1 i.1 (omega (arith, l))) refl

  pub same_status : (start other : List (List ℕ)) (a b : Ended) → IsRunOf program bound start a → IsRunOf program bound other b → status_of a.cores ≡ status_of b.cores
  same_status start other a b h i =
      let same : (p : EndWord → Bool) → any_ends p a.cores ≡ any_ends p b.cores =
      λ p. same_any p 0 a.journals b.journals a.cores b.cores h.cores i.cores (h.every_core ∙ sym i.every_core) in
      rw (same is_trapped, same is_out_of_steps, same is_stalled) refl

  -- ---- nothing has happened in it, so its trace is one too

  no_entries : (start : List (List ℕ)) (a : Ended) → IsRunOf program bound start a → history_of a.journals ≡ []
  no_entries start a h = no_history program bound start a h (λ core journal end r. none_in core journal.entries end r.code)

  nothing_in : (start : List (List ℕ)) → length start ≡ length (file_paths p.items) → start ≡ []
  nothing_in [] e = refl
  nothing_in (x ∷ xs) e = let none = ap (λ (fs : List (List ℕ)). length fs) no_files in absurd (omega (arith, e, none))

  pub same_trace : (start other : List (List ℕ)) (a b : Ended) → length start ≡ length (file_paths p.items) → length other ≡ length (file_paths p.items) → IsRunOf program bound start a
      → IsRunOf program bound other b → trace_of a ≡ trace_of b
  same_trace start other a b e f h i =
      rw (
        h.steps,
        i.steps,
        h.files ∙ nothing_in start e,
        i.files ∙ nothing_in other f,
        no_entries start a h,
        no_entries other b i,
        same_tolds 0 a.journals b.journals a.cores b.cores h.cores i.cores (h.every_core ∙ sym i.every_core),
      ) refl

  -- so both are told with one status
  pub same_told : (telling : Telling) (start other : List (List ℕ)) (a b : Ended) (m n : ℕ) (x y : List ℕ) → length start ≡ length (file_paths p.items)
      → length other ≡ length (file_paths p.items) → IsRunOf program bound start a → IsRunOf program bound other b → Tells telling p a m x → Tells telling p b n y → n ≡ m
  same_told w.Report start other a b m n x y e f h i (s, _) (u, _) = u ∙ sym (same_status start other a b h i) ∙ sym s
  same_told (w.Summary turns) start other a b m n x y e f h i (s, _) (u, _) = u ∙ sym (same_status start other a b h i) ∙ sym s
  same_told w.Trace start other a b m n x y e f h i (whole s _ _) (whole u _ _) = u ∙ sym (same_status start other a b h i) ∙ sym s
  same_told w.Trace start other a b m n x y e f h i (long_trace s _ _) (long_trace u _ _) = u ∙ sym s
  same_told w.Trace start other a b m n x y e f h i (whole s c l) (long_trace u _ k) =
      let same = ap (λ (t : Trace). length (trace_text t)) (same_trace start other a b e f h i) in
      let long = ap (λ (t : List ℕ). length t) c.spells.is_text in absurd (omega (arith, same, long, l, k))
  same_told w.Trace start other a b m n x y e f h i (long_trace s _ k) (whole u c l) =
      let same = ap (λ (t : Trace). length (trace_text t)) (same_trace start other a b e f h i) in
      let long = ap (λ (t : List ℕ). length t) c.spells.is_text in absurd (omega (arith, same, long, l, k))

-- A text whose program has no channel and no file calls for one status: of two that it calls for, both would be of runs, and such a
-- program has one.
use Rattle.std.proofs.Common.{◌≡◌, ◌⊎◌, ℕ, List, [], length, sym, ap, subst, inl, inr, arith}
use Rattle.std.specs.Prelude.{◌↔◌}
use Rattle.ac_tree.specs.declared.item.Program.{Program}
use Rattle.ac_resolve.specs.Resolution.{resolved}
use Rattle.ac_words.specs.declared.task.Task.{Task}
use Rattle.ac_words.specs.declared.task.Task.TheVariants as t
use Rattle.ac_outside.specs.Disks.{DiskTold}
use Rattle.ac_words.specs.declared.task.Telling.{Telling}
use Rattle.program_reading.specs.Source.{IsReady}
use Rattle.ac_program.specs.Headline.{CallsFor, AreOfRuns, IsCalledFor}

module _ (text : List ℕ) (task : Task) (disk : DiskTold) (status : ℕ) (called : IsCalledFor text task disk status)
    (none : (steps : ℕ) (telling : Telling) (program : Program) → IsReady text (t.Run steps telling) program → ((resolved program).channels ≡ []) × ((resolved program).files ≡ [])) where
  same : (number : ℕ) → (number ≡ status) ⊎ AreOfRuns text task disk status number → status ≡ number
  same number (inl e) = sym e
  same number (inr r) =
      let ready = subst (λ (a : Task). IsReady text a r.program) r.is_run r.is_ready in
      let some = r.meets in
      let many = ap (λ xs. length xs) (none r.steps r.telling r.program ready).0 in
      let files = ap (λ xs. length xs) (none r.steps r.telling r.program ready).1 in
      absurd (omega (arith, some, many, files))

  pub one_status : (number : ℕ) → (status ≡ number) ↔ CallsFor text task disk number
  one_status number = ((λ e. subst (λ n. CallsFor text task disk n) e called.calls), (λ h. same number (called.only number h)))

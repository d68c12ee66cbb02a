-- What is known of a run once it is told: that its trace can be, as its steps, files, cores and stamps are few, and that it is a run where
-- the disk tells its files, as what was read is then what stood there.
use Rattle.std.proofs.Common.{◌≡◌, ℕ, ◌*◌, ◌<◌, ◌≤◌, ◌^◌, List, length, Option, None, Some, sym, ap, ◌∙◌, subst, arith}
use Rattle.std.specs.Prelude.{All, IfSome}
use Rattle.std.proofs.lemmas.List.{length-map}
use Rattle.ac_tree.specs.declared.item.Program.{Program}
use Rattle.ac_names.specs.Numbered.{core_names, file_paths}
use Rattle.ac_resolve.specs.Resolution.{resolved}
use Rattle.ac_base.specs.Report.{report_of}
use Rattle.ac_outside.specs.Disks.{DiskTold, Held}
use Rattle.stack_code.specs.Parts.{Parts}
use Rattle.stack_code.specs.Valid.{IsValid}
use Rattle.stack_code.specs.Kept.{IsRanked}
use Rattle.ac_translation.specs.Same.{IsSame}
use Rattle.ac_compile.specs.Compiled.{IsCodeOf}
use Rattle.program_run.specs.declared.ended.Ended.{Ended}
use Rattle.program_run.specs.Run.{IsRunOf}
use Rattle.program_run.specs.DiskLeft.{LeavesDisk, LeavesFiles}
use Rattle.starting_files.specs.Starting.{AreStarted, StartsFiles}
use Rattle.trace_audit.specs.RunTrace.{IsRunTrace}
use Rattle.trace_audit.specs.Laws.{IsSound, trace_of}
use Rattle.trace_audit.proofs.Sound.{is_sound}
use Rattle.trace_audit.proofs.Traced.{is_traced}
use Rattle.ac_words.specs.declared.task.Telling.{Telling}
use Rattle.ac_words.specs.declared.task.Telling.TheVariants as w
use Rattle.ac_program.specs.declared.telling.Told.{Told}
use Rattle.program_reading.specs.Source.{names_of}
use Rattle.ac_program.specs.Making.{Tells}
use Rattle.ac_program.specs.inner.Parts.{IsTellable, GivesTelling}
use Rattle.ac_program.proofs.Names.{entries_are}
use Rattle.ac_program.proofs.RunHistories.{as_many_journals, least_stamps, greatest_stamps}

pub tells_of : (telling : Telling) (program : Program) (names : List (List ℕ)) (ended : Ended) (told : Told) → names ≡ names_of program → GivesTelling telling names ended told
    → Tells telling program ended told.status.number told.text
tells_of w.Report program names ended told e h = (h.0, h.1 ∙ ap (λ (ns : List (List ℕ)). report_of ns ended.cores) e)
tells_of w.Trace program names ended told e h = h
tells_of (w.Summary turns) program names ended told e h = h

module _ (p : Program) (code : Parts) (steps : ℕ) (start : List (List ℕ)) (ended : Ended) (is : IsCodeOf p code) (valid : IsValid code) where
  pub tellable : IsRunOf (resolved p) steps start ended → 1 ≤ steps → steps ≤ 2000000 → length (core_names p.items) * steps ≤ 4000000 → length start ≤ 16 → IsTellable ended
  tellable run least most few files =
      let entries = entries_are p code is in
      let there : length (resolved p).cores ≡ length code.entries = sym (ap (λ (c : Parts). length c.entries) is ∙ length-map (resolved p).cores (λ core. core.entry)) in
      let cores = run.every_core in
      let some = valid.lists.cores.some in
      let sixteen = valid.lists.cores.few in
      let journals = as_many_journals (resolved p) steps 0 ended.journals ended.cores run.cores in
      let of_start = ap (λ (fs : List (List ℕ)). length fs) run.files in
      record {
        steps_least = rw run.steps least;
        steps_most = rw run.steps most;
        few_files = omega (arith, of_start, files);
        few_journals = omega (arith, journals, cores, there, sixteen);
        some_core = omega (arith, cores, there, some);
        few_cores = omega (arith, cores, there, sixteen);
        stamps_least = least_stamps (resolved p) steps start ended run;
        stamps_most = greatest_stamps (resolved p) steps start ended run (subst (λ (c : Parts). length c.instrs < 2 ^ 32) is valid.lists.few)
            (subst (λ (n : ℕ). n * steps ≤ 4000000) (sym (there ∙ entries)) few);
      }

  module _ (ranks : List ℕ) (ranked : IsRanked code ranks) (same : IsSame code (resolved p)) (run : IsRunOf (resolved p) steps start ended) where
    sound : IsSound (resolved p)
    sound = is_sound (resolved p) code ranks valid ranked is same

    of_served : (held between : Option Held) (later : DiskTold) → length start ≡ length (file_paths p.items) → All (λ bytes. length bytes ≤ 1048576) start
        → IfSome held (λ h. StartsFiles h between (file_paths p.items) start)
        → IfSome between (λ h. (left : Held) × (later.held ≡ Some left) × LeavesFiles (resolved p) start ended.journals h left) → IfSome held (λ h. IsRunTrace (resolved p) (trace_of ended))
    of_served None between later count short told left = tt
    of_served (Some h) between later count short told left =
        let served = (subst (λ (it : Option Held). IfSome it (λ g. (last : Held) × (later.held ≡ Some last) × LeavesFiles (resolved p) start ended.journals g last)) told.1 left).2.served in
        is_traced (resolved p) steps start ended sound run served count short

    pub traced_where_told : (disk between later : DiskTold) → AreStarted (file_paths p.items) start disk between → LeavesDisk (resolved p) start ended.journals between later
        → IfSome disk.held (λ h. IsRunTrace (resolved p) (trace_of ended))
    traced_where_told disk between later files left = of_served disk.held between.held later files.count files.short files.told left.held

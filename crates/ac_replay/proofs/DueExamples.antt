-- What is due, and what is not, by example: each way to it is refused by its status, or by what it says of the library or of the disk.
use Rattle.std.proofs.Common.{◌≡◌, ℕ, List, [], ◌∷◌, length, true, Option, None, Some, refl, sym, ap, ◌∙◌, subst, inl, inr, arith}
use Rattle.ac_base.specs.Report.{report_of, status_of}
use Rattle.ac_base.specs.declared.ends.MachineEnd.{MachineEnd}
use Rattle.ac_commands.specs.declared.program.Resolved.{Resolved}
use Rattle.ac_outside.specs.Disks.{DiskTold, Held}
use Rattle.ac_outside.specs.Told.{LibraryTold}
use Rattle.ac_resolve.specs.Resolution.{resolved}
use Rattle.ac_tree.specs.declared.item.Program.{Program}
use Rattle.program_reading.specs.TwoFiles.{RefusesBoth, halt_line}
use Rattle.program_reading.specs.Lines.{no_at_line}
use Rattle.program_reading.specs.Source.{names_of}
use Rattle.program_reading.specs.declared.halt.Halt.TheVariants as h
use Rattle.program_run.specs.declared.ended.Ended.{Ended}
use Rattle.program_run.specs.Run.{IsRunOf}
use Rattle.trace_audit.specs.Judged.{IsFirstMisfit}
use Rattle.trace_audit.specs.Laws.{IsSound, trace_of}
use Rattle.trace_audit.specs.RunTrace.{IsRunTrace}
use Rattle.trace_text.specs.declared.trace.Trace.{Trace}
use Rattle.ac_replay.specs.Due.{IsDue, IsDueOfCall, IsDueOfFiles, IsDueOfRun, IsFirstOther, usage, call}
use Rattle.ac_replay.specs.Due.IsDueOfCall.{refused}
use Rattle.ac_replay.specs.Due.IsDueOfFiles.{disk_fault, long_file, differs, torn, repeated}
use Rattle.ac_replay.specs.Due.IsDueOfRun.{misfit, other_end, run}
use Rattle.ac_replay.specs.Headline.{AreUnwritten, GaveUp, IsLeft, IsOfCores, IsRunAgain, IsToRunAgain, TellsDisk, TellsUsage, untouched, alone}
use Rattle.ac_replay.specs.Laws.{IsRepeated, RunsAreRepeated}
use Rattle.ac_replay.specs.Lines.{usage_line}
use Rattle.ac_replay.specs.Replaying.{AreReplayed, HoldsContents, IsReplayedReport, deeds_in, writes_in}
use Rattle.ac_replay.proofs.Calls.{no_call_of_none}
use Rattle.ac_replay.proofs.Exactly.{no_misfit}
use Rattle.ac_replay.proofs.Faults.{left_well, unwritten_well}
use Rattle.ac_replay.proofs.Statuses.{cores_not, kind_of_call, not_eight, of_cores}

-- ---- files

pub the_second_differs : IsFirstOther ((1 ∷ []) ∷ (2 ∷ []) ∷ []) ((1 ∷ []) ∷ (3 ∷ []) ∷ []) 1
the_second_differs = record { within = omega arith; before = refl; other = λ e. cc (e) }

pub the_first_does_not : IsFirstOther ((1 ∷ []) ∷ (2 ∷ []) ∷ []) ((1 ∷ []) ∷ (3 ∷ []) ∷ []) 0 → ⊥
the_first_does_not o = o.other refl

pub nor_is_it_the_first : IsFirstOther ((1 ∷ []) ∷ (2 ∷ []) ∷ []) ((4 ∷ []) ∷ (3 ∷ []) ∷ []) 1 → ⊥
nor_is_it_the_first o = let no = o.before in cc (no)

-- a disk that tells nothing, of which no call has failed, and one of which one has
abbrev still : DiskTold
still = record { held = None; bound = 0; is_ready = true; binds = None; faults = 0; earlier = 0 }

abbrev failed : DiskTold
failed = record { held = None; bound = 0; is_ready = true; binds = None; faults = 1; earlier = 0 }

module _ (program : Program) (t : Trace) (text : List ℕ) where
  pub no_disk_fault_without_a_cause : IsDueOfFiles program t still still 9 text → ⊥
  no_disk_fault_without_a_cause (disk_fault e x s) = let rose = s.cause.1 in omega (arith, rose)
  no_disk_fault_without_a_cause (long_file file e x s) = omega (arith, e)
  no_disk_fault_without_a_cause (differs start file e x s o) = omega (arith, e)
  no_disk_fault_without_a_cause (torn between e x s d) = let rose = d.failed_at.failed in let well = s.well in omega (arith, rose, well)
  no_disk_fault_without_a_cause (repeated between s m d r) = cores_not 9 9 (subst IsOfCores (sym r.status_is) (of_cores r.ends)) refl (omega arith)

  pub a_misfit_is_due : IsFirstMisfit (resolved program) t 0 → IsDueOfRun program t still still 13 (no_at_line 0)
  a_misfit_is_due m = misfit 0 refl refl m refl

  pub no_misfit_of_a_run : IsRunTrace (resolved program) t → IsDueOfRun program t still still 13 text → ⊥
  no_misfit_of_a_run is (misfit entry e x m a) = no_misfit (resolved program) t entry m is.entries
  no_misfit_of_a_run is (other_end e x a n l) = n is.end
  no_misfit_of_a_run is (run r (disk_fault e x s)) = omega (arith, e)
  no_misfit_of_a_run is (run r (long_file file e x s)) = omega (arith, e)
  no_misfit_of_a_run is (run r (differs start file e x s o)) = omega (arith, e)
  no_misfit_of_a_run is (run r (torn between e x s d)) = omega (arith, e)
  no_misfit_of_a_run is (run r (repeated between s m d p)) = cores_not 13 13 (subst IsOfCores (sym p.status_is) (of_cores p.ends)) refl (omega arith)

-- ---- words

module _ (file trace text : List ℕ) (before after : LibraryTold) where
  pub a_source_is_too_long : RefusesBoth file trace before after h.LongSource → IsDueOfCall file trace before after still still 10 (halt_line h.LongSource)
  a_source_is_too_long r = refused h.LongSource refl refl r refl

  pub a_failed_sink_is_not_due : IsDueOfCall file trace before after still still 8 text → ⊥
  a_failed_sink_is_not_due d = not_eight 8 (kind_of_call file trace before after still still 8 text d) refl

  pub no_words_are_no_call : IsDue [] before before still still 1 usage_line
  no_words_are_no_call = usage refl refl no_call_of_none refl refl

  pub and_nothing_else_is_due : IsDue [] before after still still 0 text → ⊥
  and_nothing_else_is_due (usage n x c a l) = omega (arith, n)
  and_nothing_else_is_due (call f g c d) = no_call_of_none f g c

  -- ---- want of memory

  pub no_words_give_up : GaveUp [] before after still still (record { held = None; faults = 0 }) (record { held = None; faults = 0 }) → ⊥
  no_words_give_up g = no_call_of_none g.file g.trace g.is_call

  pub it_was_left_alone : AreUnwritten [] still still × IsLeft (before.text_at file) still still
  it_was_left_alone = (untouched refl, alone refl)

  pub no_call_failed : (AreUnwritten [] still failed → ⊥) × (IsLeft (before.text_at file) still failed → ⊥)
  no_call_failed = (
    (λ u. let same : 1 ≡ 0 = unwritten_well [] still failed u in omega (arith, same)),
    (λ l. let same : 1 ≡ 0 = left_well (before.text_at file) still failed l in omega (arith, same)),
  )

-- ---- statuses

pub usage_is_told : TellsUsage [] 1
usage_is_told = record { told = λ e. no_call_of_none; only = λ n. inl refl }

pub and_not_by_another : TellsUsage [] 0 → ⊥
and_not_by_another u = elim (u.only no_call_of_none) [ inl e ↦ omega (arith, e) | inr e ↦ omega (arith, e) ]

pub a_failed_disk_is_told : TellsDisk still failed 9
a_failed_disk_is_told = record { told = λ e. omega arith; only = λ n. absurd (n refl) }

pub it_is_not_kept_quiet : TellsDisk still failed 0 → ⊥
it_is_not_kept_quiet d = let same : 1 ≡ 0 = d.only (λ e. omega (arith, e)) (λ e. omega (arith, e)) in omega (arith, same)

pub a_stalled_core_has_a_report : IsOfCores 5
a_stalled_core_has_a_report = inr (inr (inl refl))

pub a_file_that_differs_has_none : IsOfCores 19 → ⊥
a_file_that_differs_has_none c = cores_not 19 19 c refl (omega arith)

-- ---- a run again

module _ (program : Resolved) (t : Trace) where
  pub nothing_happened : (deeds_in program (record t { entries = [] }) ≡ []) × (writes_in program (record t { entries = [] }) ≡ [])
  nothing_happened = (refl, refl)

  pub no_core_has_no_end : length program.cores ≡ 0 → AreReplayed program t []
  no_core_has_no_end none = record { every_core = sym none; each = λ core end here. absurd (cc (here)) }

  pub one_core_has_an_end : length program.cores ≡ 1 → AreReplayed program t [] → ⊥
  one_core_has_an_end one r = let none = r.every_core in omega (arith, one, none)

module _ (program : Program) (t : Trace) (text : List ℕ) where
  pub the_report_of_ends : (ends : List MachineEnd) → AreReplayed (resolved program) t ends → IsReplayedReport program t (status_of ends) (report_of (names_of program) ends)
  the_report_of_ends ends r = record { ends = ends; are_replayed = r; status_is = refl; text_is = refl }

  pub no_report_of_a_refusal : IsReplayedReport program t 13 text → ⊥
  no_report_of_a_refusal r = cores_not 13 13 (subst IsOfCores (sym r.status_is) (of_cores r.ends)) refl (omega arith)

  pub what_stood_under_another_path_stays : (held left : Held) (path : List ℕ) → held.found path ≡ Some [] → left.found path ≡ None → HoldsContents program t held left → ⊥
  what_stood_under_another_path_stays held left path was is c =
      let same = ap (λ (found : List ℕ → Option (List ℕ)). found path) c.others in let no = sym is ∙ same ∙ was in cc (no)

module _ (file trace : List ℕ) (before : LibraryTold) (disk later : DiskTold) where
  pub a_silent_library_calls_for_none : before.text_at file ≡ None → IsToRunAgain file trace before disk → ⊥
  a_silent_library_calls_for_none none is = let no = sym none ∙ is.has_source in cc (no)

  pub a_refusal_is_no_run_again : IsRunAgain file trace before disk later 13 (record { held = None; faults = 0 }) (record { held = None; faults = 0 }) → ⊥
  a_refusal_is_no_run_again r = no_report_of_a_refusal r.program r.told r.text r.report

-- ---- the law

module _ (program : Resolved) (bound : ℕ) (start : List (List ℕ)) (ended : Ended) (sound : IsSound program) (is : IsRunOf program bound start ended) where
  pub its_ends_come_again : RunsAreRepeated → AreReplayed program (trace_of ended) ended.cores
  its_ends_come_again law = (law program bound start ended sound is).ends

  pub and_no_others_do : IsRepeated program ended → (others : List MachineEnd) → (others ≡ ended.cores → ⊥) → AreReplayed program (trace_of ended) others → ⊥
  and_no_others_do r others not a = not (r.only others a)

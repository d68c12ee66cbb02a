-- When a call of the library or of the disk has failed, by the status: by cases over what is due.
use Rattle.std.proofs.Common.{◌≡◌, ◌≢◌, ℕ, ◌⊎◌, inl, inr, List, Option, length, sym, ap, ◌∙◌, subst, arith}
use Rattle.std.specs.Prelude.{IfSome}
use Rattle.std.proofs.lemmas.Bool.Decides.{eqb_tells}
use Rattle.ac_names.specs.Numbered.{file_paths}
use Rattle.ac_outside.specs.Causes.{Rose}
use Rattle.ac_outside.specs.Disks.{DiskTold}
use Rattle.ac_outside.specs.Told.{LibraryTold, SinkTold}
use Rattle.ac_tree.specs.declared.item.Program.{Program}
use Rattle.program_reading.specs.TwoFiles.{RefusesBoth, halt_status}
use Rattle.program_reading.specs.Failures.{TellsLibrary}
use Rattle.program_reading.specs.Files.{AreRead}
use Rattle.program_reading.proofs.TwoFiles.{both_read, read_well, refused_read, refused_rose}
use Rattle.trace_text.specs.declared.trace.Trace.{Trace}
use Rattle.ac_replay.specs.Due.{IsDueOfCall, IsDueOfFiles, IsDueOfRun}
use Rattle.ac_replay.specs.Due.IsDueOfCall.{refused, both}
use Rattle.ac_replay.specs.Due.IsDueOfFiles.{disk_fault, long_file, differs, torn, repeated}
use Rattle.ac_replay.specs.Due.IsDueOfRun.{misfit, other_end, run}
use Rattle.ac_replay.specs.Headline.{AreUnwritten, IsLeft, IsOfCores, IsRunAgain, IsToRunAgain, TellsDisk, untouched, stopped, started, alone, of_program}
use Rattle.ac_replay.specs.Headline.AreUnwritten.{long_file as left_long}
use Rattle.ac_replay.specs.inner.Answers.{IsAnswered}
use Rattle.ac_replay.proofs.Again.{run_again}
use Rattle.ac_replay.proofs.Exactly.{is_of_cores}
use Rattle.ac_replay.proofs.Statuses.{cores_not, halts_not_nine, kind_of_call, not_one, of_cores, run_not_seven, seven_is}

-- ---- the library

module _ (file trace : List ℕ) (before after : LibraryTold) (disk later : DiskTold) (status : ℕ) (text : List ℕ) where
  pub library_rose : IsDueOfCall file trace before after disk later status text → status ≡ 7 → Rose before.faults after.faults
  library_rose (refused halt e x r a) is =
      let fault = seven_is halt (sym e ∙ is) in refused_rose file trace before after (subst (RefusesBoth file trace before after) fault r)
  library_rose (both program told b d) is = absurd (run_not_seven program told disk later status text d is)

  pub library_well : IsDueOfCall file trace before after disk later status text → status ≢ 7 → after.faults ≡ before.faults
  library_well (refused halt e x r a) not =
      read_well file trace before after (refused_read file trace before after halt r (λ fault. not (e ∙ ap halt_status fault)))
  library_well (both program told b d) not = read_well file trace before after (both_read file trace before after program told b)

-- ---- the disk

module _ (program : Program) (t : Trace) (disk later : DiskTold) (status : ℕ) (text : List ℕ) where
  files_rose : IsDueOfFiles program t disk later status text → status ≡ 9 → Rose disk.faults later.faults
  files_rose (disk_fault e x s) is = s.cause.1
  files_rose (long_file file e x s) is = absurd (omega (arith, e, is))
  files_rose (differs start file e x s o) is = absurd (omega (arith, e, is))
  files_rose (torn between e x s d) is = subst (λ n. Rose n later.faults) s.well d.failed_at.failed
  files_rose (repeated between s m d r) is = absurd (cores_not status 9 (subst IsOfCores (sym r.status_is) (of_cores r.ends)) is (omega arith))

  files_well : IsDueOfFiles program t disk later status text → status ≢ 9 → later.faults ≡ disk.faults
  files_well (disk_fault e x s) not = absurd (not e)
  files_well (long_file file e x s) not = s.cause
  files_well (differs start file e x s o) not = s.well
  files_well (torn between e x s d) not = absurd (not e)
  files_well (repeated between s m d r) not = d.well ∙ s.well

  run_rose : IsDueOfRun program t disk later status text → status ≡ 9 → Rose disk.faults later.faults
  run_rose (misfit entry e x m a) is = absurd (omega (arith, e, is))
  run_rose (other_end e x f n a) is = absurd (omega (arith, e, is))
  run_rose (run r d) is = files_rose d is

  run_well : IsDueOfRun program t disk later status text → status ≢ 9 → later.faults ≡ disk.faults
  run_well (misfit entry e x m a) not = ap (λ (d : DiskTold). d.faults) a
  run_well (other_end e x f n a) not = ap (λ (d : DiskTold). d.faults) a
  run_well (run r d) not = files_well d not

module _ (file trace : List ℕ) (before after : LibraryTold) (disk later : DiskTold) (status : ℕ) (text : List ℕ) where
  pub disk_rose : IsDueOfCall file trace before after disk later status text → status ≡ 9 → Rose disk.faults later.faults
  disk_rose (refused halt e x r a) is = absurd (halts_not_nine halt status e is)
  disk_rose (both program told b d) is = run_rose program told disk later status text d is

  pub disk_well : IsDueOfCall file trace before after disk later status text → status ≢ 9 → later.faults ≡ disk.faults
  disk_well (refused halt e x r a) not = ap (λ (d : DiskTold). d.faults) a
  disk_well (both program told b d) not = run_well program told disk later status text d not

-- nor has one where memory was refused
pub unwritten_well : (paths : List (List ℕ)) (disk later : DiskTold) → AreUnwritten paths disk later → later.faults ≡ disk.faults
unwritten_well paths disk later (untouched a) = ap (λ (d : DiskTold). d.faults) a
unwritten_well paths disk later (stopped s) = s.cause
unwritten_well paths disk later (left_long file s) = s.cause
unwritten_well paths disk later (started start s) = s.well

pub left_well : (told : Option (List ℕ)) (disk later : DiskTold) → IsLeft told disk later → later.faults ≡ disk.faults
left_well told disk later (alone a) = ap (λ (d : DiskTold). d.faults) a
left_well told disk later (of_program text program g k u) = unwritten_well (file_paths program.items) disk later u

-- ---- from an answer

eleven_or_not : (n : ℕ) → (n ≡ 11) ⊎ (n ≢ 11)
eleven_or_not n = elim (eqb_tells n 11) [ inl w ↦ inl w.1 | inr w ↦ inr w.1 ]

module _ (file trace : List ℕ) (before after : LibraryTold) (disk later : DiskTold) (sink written : SinkTold) (status : ℕ)
    (a : IsAnswered (IsDueOfCall file trace before after disk later) sink written status) where
  its_due : status ≢ 8 → status ≢ 11 → (text : List ℕ) × IsDueOfCall file trace before after disk later status text
  its_due well kept = let w = a.whole well kept in (w.text, w.due)

  pub tells_library : (status ≡ 11 → AreRead file trace before after) → TellsLibrary before after status
  tells_library read = record {
    told = λ is. let d = its_due (λ e. omega (arith, e, is)) (λ e. omega (arith, e, is)) in library_rose file trace before after disk later status d.0 d.1 is;
    only = λ not well. elim (eleven_or_not status) [
      | inl is ↦ read_well file trace before after (read is)
      | inr kept ↦ let d = its_due well kept in library_well file trace before after disk later status d.0 d.1 not
    ];
  }

  pub tells_disk : (status ≡ 11 → IsLeft (before.text_at file) disk later) → TellsDisk disk later status
  tells_disk left = record {
    told = λ is. let d = its_due (λ e. omega (arith, e, is)) (λ e. omega (arith, e, is)) in disk_rose file trace before after disk later status d.0 d.1 is;
    only = λ not well. elim (eleven_or_not status) [
      | inl is ↦ left_well (before.text_at file) disk later (left is)
      | inr kept ↦ let d = its_due well kept in disk_well file trace before after disk later status d.0 d.1 not
    ];
  }

  pub is_no_usage : status ≡ 1 → ⊥
  is_no_usage is = let d = its_due (λ e. omega (arith, e, is)) (λ e. omega (arith, e, is)) in
      not_one status (kind_of_call file trace before after disk later status d.0 d.1) is

  pub is_again : IsOfCores status → IfSome disk.held (λ held. 0 ≡ length held.files) → IsRunAgain file trace before disk later status sink written
  is_again cores none =
      let w = a.whole (λ e. cores_not status 8 cores e (omega arith)) (λ e. cores_not status 11 cores e (omega arith)) in
      run_again file trace before after disk later status w.text sink written cores none w.taken w.due

  pub is_each : IsToRunAgain file trace before disk → status ≢ 7 → status ≢ 8 → status ≢ 9 → status ≢ 11 → IsOfCores status
  is_each is read well done kept = let d = its_due well kept in is_of_cores file trace before after disk later status d.0 is read done d.1

-- Which statuses are due: those of ended cores are 0, 4, 5 and 6, those of what refuses two files 2, 3, 7, 10 and 14, and beside them there are 9,
-- 13 and 19. So a status tells of which kind an answer is.
use Rattle.std.proofs.Common.{◌≡◌, ◌≢◌, ℕ, ◌≤◌, ◌⊎◌, inl, inr, Bool, true, false, List, refl, sym, ◌∙◌, subst, arith, if◌then◌else◌}
use Rattle.std.proofs.lemmas.Bool.{cases_lt}
use Rattle.ac_base.specs.Report.{any_ends, is_trapped, is_out_of_steps, is_stalled, status_of}
use Rattle.ac_base.specs.declared.ends.MachineEnd.{MachineEnd}
use Rattle.ac_outside.specs.Disks.{DiskTold}
use Rattle.ac_outside.specs.Told.{LibraryTold}
use Rattle.ac_tree.specs.declared.item.Program.{Program}
use Rattle.program_reading.specs.TwoFiles.{halt_status}
use Rattle.program_reading.specs.declared.halt.Halt.{Halt}
use Rattle.program_reading.specs.declared.halt.Halt.TheVariants as h
use Rattle.program_reading.specs.declared.refusal.Refusal.{Refusal}
use Rattle.program_reading.specs.declared.refusal.Refusal.TheVariants as r
use Rattle.program_reading.specs.Lines.{refusal_status}
use Rattle.trace_text.specs.declared.trace.Trace.{Trace}
use Rattle.ac_replay.specs.Due.{IsDueOfCall, IsDueOfFiles, IsDueOfRun}
use Rattle.ac_replay.specs.Due.IsDueOfCall.{refused, both}
use Rattle.ac_replay.specs.Due.IsDueOfFiles.{disk_fault, long_file, differs, torn, repeated}
use Rattle.ac_replay.specs.Due.IsDueOfRun.{misfit, other_end, run}
use Rattle.ac_replay.specs.Headline.{IsOfCores}

-- ---- statuses of cores

chosen : (trapped out stalled : Bool) → IsOfCores (if trapped then 4 else (if out then 6 else (if stalled then 5 else 0)))
chosen true out stalled = inr (inl refl)
chosen false true stalled = inr (inr (inr refl))
chosen false false true = inr (inr (inl refl))
chosen false false false = inl refl

pub of_cores : (ends : List MachineEnd) → IsOfCores (status_of ends)
of_cores ends = chosen (any_ends is_trapped ends) (any_ends is_out_of_steps ends) (any_ends is_stalled ends)

-- ---- statuses of what refuses two files

abbrev pub IsOfHalt : ℕ → Type 0
IsOfHalt status = (status ≡ 2) ⊎ (status ≡ 3) ⊎ (status ≡ 7) ⊎ (status ≡ 10) ⊎ (status ≡ 14)

of_refusal : (refusal : Refusal) → IsOfHalt (refusal_status refusal)
of_refusal r.TooLong = inr (inr (inr (inl refl)))
of_refusal (r.BadByte at) = inl refl
of_refusal (r.NumberTooLarge at) = inl refl
of_refusal (r.OpenComment at) = inl refl
of_refusal (r.OpenText at) = inl refl
of_refusal (r.Unexpected at) = inl refl
of_refusal (r.TooDeep at) = inr (inr (inr (inl refl)))
of_refusal (r.Broken rule) = inr (inl refl)
of_refusal r.TooManySteps = inr (inr (inr (inl refl)))

of_halt : (halt : Halt) → IsOfHalt (halt_status halt)
of_halt h.LibraryFault = inr (inr (inl refl))
of_halt h.LongSource = inr (inr (inr (inl refl)))
of_halt (h.Source refusal) = of_refusal refusal
of_halt h.LongTrace = inr (inr (inr (inl refl)))
of_halt (h.WrongLine line) = inr (inr (inr (inr refl)))
of_halt h.TooManySteps = inr (inr (inr (inl refl)))

-- ---- which of them

pub data Kind (status : ℕ) : Type 0 where
  cores : IsOfCores status → Kind status
  halts : IsOfHalt status → Kind status
  fails : status ≡ 9 → Kind status
  misfits : status ≡ 13 → Kind status
  others : status ≡ 19 → Kind status

kind_of_files : (program : Program) (t : Trace) (disk later : DiskTold) (status : ℕ) (text : List ℕ) → IsDueOfFiles program t disk later status text → Kind status
kind_of_files program t disk later status text (disk_fault e x s) = fails e
kind_of_files program t disk later status text (long_file file e x s) = halts (inr (inr (inr (inl e))))
kind_of_files program t disk later status text (differs start file e x s o) = others e
kind_of_files program t disk later status text (torn between e x s d) = fails e
kind_of_files program t disk later status text (repeated between s m d r) = cores (subst IsOfCores (sym r.status_is) (of_cores r.ends))

pub kind_of_run : (program : Program) (t : Trace) (disk later : DiskTold) (status : ℕ) (text : List ℕ) → IsDueOfRun program t disk later status text → Kind status
kind_of_run program t disk later status text (misfit entry e x m a) = misfits e
kind_of_run program t disk later status text (other_end e x f n a) = misfits e
kind_of_run program t disk later status text (run is d) = kind_of_files program t disk later status text d

pub kind_of_call : (file trace : List ℕ) (before after : LibraryTold) (disk later : DiskTold) (status : ℕ) (text : List ℕ) → IsDueOfCall file trace before after disk later status text → Kind status
kind_of_call file trace before after disk later status text (refused halt e x r a) = halts (subst IsOfHalt (sym e) (of_halt halt))
kind_of_call file trace before after disk later status text (both program told b d) = kind_of_run program told disk later status text d

-- ---- none is the status of usage, of a failed sink, or of want of memory

module _ (status : ℕ) where
  of_no_cores : (n : ℕ) → IsOfCores status → status ≡ n → (n ≡ 0 → ⊥) → (n ≡ 4 → ⊥) → (n ≡ 5 → ⊥) → (n ≡ 6 → ⊥) → ⊥
  of_no_cores n (inl e) is a b c d = a (sym is ∙ e)
  of_no_cores n (inr (inl e)) is a b c d = b (sym is ∙ e)
  of_no_cores n (inr (inr (inl e))) is a b c d = c (sym is ∙ e)
  of_no_cores n (inr (inr (inr e))) is a b c d = d (sym is ∙ e)

  of_no_halt : (n : ℕ) → IsOfHalt status → status ≡ n → (n ≡ 2 → ⊥) → (n ≡ 3 → ⊥) → (n ≡ 7 → ⊥) → (n ≡ 10 → ⊥) → (n ≡ 14 → ⊥) → ⊥
  of_no_halt n (inl e) is a b c d f = a (sym is ∙ e)
  of_no_halt n (inr (inl e)) is a b c d f = b (sym is ∙ e)
  of_no_halt n (inr (inr (inl e))) is a b c d f = c (sym is ∙ e)
  of_no_halt n (inr (inr (inr (inl e)))) is a b c d f = d (sym is ∙ e)
  of_no_halt n (inr (inr (inr (inr e)))) is a b c d f = f (sym is ∙ e)

  pub not_one : Kind status → status ≡ 1 → ⊥
  not_one (cores c) is = of_no_cores 1 c is (λ e. omega (arith, e)) (λ e. omega (arith, e)) (λ e. omega (arith, e)) (λ e. omega (arith, e))
  not_one (halts c) is = of_no_halt 1 c is (λ e. omega (arith, e)) (λ e. omega (arith, e)) (λ e. omega (arith, e)) (λ e. omega (arith, e)) (λ e. omega (arith, e))
  not_one (fails e) is = omega (arith, e, is)
  not_one (misfits e) is = omega (arith, e, is)
  not_one (others e) is = omega (arith, e, is)

  pub not_eight : Kind status → status ≡ 8 → ⊥
  not_eight (cores c) is = of_no_cores 8 c is (λ e. omega (arith, e)) (λ e. omega (arith, e)) (λ e. omega (arith, e)) (λ e. omega (arith, e))
  not_eight (halts c) is = of_no_halt 8 c is (λ e. omega (arith, e)) (λ e. omega (arith, e)) (λ e. omega (arith, e)) (λ e. omega (arith, e)) (λ e. omega (arith, e))
  not_eight (fails e) is = omega (arith, e, is)
  not_eight (misfits e) is = omega (arith, e, is)
  not_eight (others e) is = omega (arith, e, is)

  pub not_eleven : Kind status → status ≡ 11 → ⊥
  not_eleven (cores c) is = of_no_cores 11 c is (λ e. omega (arith, e)) (λ e. omega (arith, e)) (λ e. omega (arith, e)) (λ e. omega (arith, e))
  not_eleven (halts c) is = of_no_halt 11 c is (λ e. omega (arith, e)) (λ e. omega (arith, e)) (λ e. omega (arith, e)) (λ e. omega (arith, e)) (λ e. omega (arith, e))
  not_eleven (fails e) is = omega (arith, e, is)
  not_eleven (misfits e) is = omega (arith, e, is)
  not_eleven (others e) is = omega (arith, e, is)

-- ---- what tells a failed library, a failed disk, and a report

pub cores_not : (status n : ℕ) → IsOfCores status → status ≡ n → 7 ≤ n → ⊥
cores_not status n (inl e) is le = omega (arith, e, is, le)
cores_not status n (inr (inl e)) is le = omega (arith, e, is, le)
cores_not status n (inr (inr (inl e))) is le = omega (arith, e, is, le)
cores_not status n (inr (inr (inr e))) is le = omega (arith, e, is, le)

pub halts_not_cores : (halt : Halt) (status : ℕ) → status ≡ halt_status halt → IsOfCores status → ⊥
halts_not_cores halt status is c = by (of_halt halt) where
  by : IsOfHalt (halt_status halt) → ⊥
  by (inl e) = of_no_cores status 2 c (is ∙ e) (λ n. omega (arith, n)) (λ n. omega (arith, n)) (λ n. omega (arith, n)) (λ n. omega (arith, n))
  by (inr (inl e)) = of_no_cores status 3 c (is ∙ e) (λ n. omega (arith, n)) (λ n. omega (arith, n)) (λ n. omega (arith, n)) (λ n. omega (arith, n))
  by (inr (inr (inl e))) = cores_not status 7 c (is ∙ e) (omega arith)
  by (inr (inr (inr (inl e)))) = cores_not status 10 c (is ∙ e) (omega arith)
  by (inr (inr (inr (inr e)))) = cores_not status 14 c (is ∙ e) (omega arith)

pub halts_not_nine : (halt : Halt) (status : ℕ) → status ≡ halt_status halt → status ≡ 9 → ⊥
halts_not_nine halt status is nine =
    of_no_halt (halt_status halt) 9 (of_halt halt) (sym is ∙ nine) (λ e. omega (arith, e)) (λ e. omega (arith, e)) (λ e. omega (arith, e)) (λ e. omega (arith, e)) (λ e. omega (arith, e))

seven_of_refusal : (refusal : Refusal) → refusal_status refusal ≡ 7 → ⊥
seven_of_refusal r.TooLong e = omega (arith, e)
seven_of_refusal (r.BadByte at) e = omega (arith, e)
seven_of_refusal (r.NumberTooLarge at) e = omega (arith, e)
seven_of_refusal (r.OpenComment at) e = omega (arith, e)
seven_of_refusal (r.OpenText at) e = omega (arith, e)
seven_of_refusal (r.Unexpected at) e = omega (arith, e)
seven_of_refusal (r.TooDeep at) e = omega (arith, e)
seven_of_refusal (r.Broken rule) e = omega (arith, e)
seven_of_refusal r.TooManySteps e = omega (arith, e)

-- 7 is that of a failed library alone
pub seven_is : (halt : Halt) → halt_status halt ≡ 7 → halt ≡ h.LibraryFault
seven_is h.LibraryFault e = refl
seven_is h.LongSource e = absurd (omega (arith, e))
seven_is (h.Source refusal) e = absurd (seven_of_refusal refusal e)
seven_is h.LongTrace e = absurd (omega (arith, e))
seven_is (h.WrongLine line) e = absurd (omega (arith, e))
seven_is h.TooManySteps e = absurd (omega (arith, e))

pub run_not_seven : (program : Program) (t : Trace) (disk later : DiskTold) (status : ℕ) (text : List ℕ) → IsDueOfRun program t disk later status text → status ≡ 7 → ⊥
run_not_seven program t disk later status text (misfit entry e x m a) is = omega (arith, e, is)
run_not_seven program t disk later status text (other_end e x f n a) is = omega (arith, e, is)
run_not_seven program t disk later status text (run r (disk_fault e x s)) is = omega (arith, e, is)
run_not_seven program t disk later status text (run r (long_file file e x s)) is = omega (arith, e, is)
run_not_seven program t disk later status text (run r (differs start file e x s o)) is = omega (arith, e, is)
run_not_seven program t disk later status text (run r (torn between e x s d)) is = omega (arith, e, is)
run_not_seven program t disk later status text (run r (repeated between s m d p)) is = cores_not status 7 (subst IsOfCores (sym p.status_is) (of_cores p.ends)) is (omega arith)

-- a status that is 1 unless it is 8
pub one_or_eight : (status : ℕ) → (status ≢ 8 → status ≡ 1) → (status ≡ 1) ⊎ (status ≡ 8)
one_or_eight status is =
    elim (cases_lt status 8) [
      | inl below ↦ inl (is (λ e. omega (arith, e, below)))
      | inr from ↦ elim (cases_lt 8 status) [
        | inl above ↦ inl (is (λ e. omega (arith, e, above)))
        | inr to ↦ inr (omega (arith, from, to))
      ]
    ]

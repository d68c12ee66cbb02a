-- Statuses of cores and of refusals: those of ended cores are 0, 4, 5 and 6, those of refusals 2, 3 and 10, and none is both.
-- So a status tells of which kind an answer is; each law goes through the few numbers that there are.
use Rattle.std.proofs.Common.{◌≢◌, ◌≡◌, ℕ, ◌≤◌, ◌⊎◌, inl, inr, Bool, true, false, List, refl, sym, ◌∙◌, subst, arith, if◌then◌else◌}
use Rattle.std.proofs.lemmas.Bool.{cases_lt}
use Rattle.ac_base.specs.Report.{any_ends, is_trapped, is_out_of_steps, is_stalled, status_of}
use Rattle.ac_base.specs.declared.ends.MachineEnd.{MachineEnd}
use Rattle.program_reading.specs.declared.refusal.Refusal.{Refusal}
use Rattle.program_reading.specs.declared.refusal.Refusal.TheVariants as r
use Rattle.ac_program.specs.declared.execute.Done.{Done}
use Rattle.program_reading.specs.Lines.{refusal_status}
use Rattle.ac_tree.specs.declared.item.Program.{Program}
use Rattle.ac_words.specs.declared.task.Task.{Task}
use Rattle.ac_words.specs.declared.task.Task.TheVariants as t
use Rattle.ac_outside.specs.Disks.{DiskTold}
use Rattle.ac_words.specs.declared.task.Telling.{Telling}
use Rattle.ac_words.specs.declared.task.Telling.TheVariants as w
use Rattle.program_run.specs.declared.ended.Ended.{Ended}
use Rattle.ac_program.specs.Making.{Makes, Tells, whole, long_trace}
use Rattle.ac_program.specs.Headline.{IsOfCores}

-- ---- statuses of cores

pub chosen : (trapped out stalled : Bool) → IsOfCores (if trapped then 4 else (if out then 6 else (if stalled then 5 else 0)))
chosen true out stalled = inr (inl refl)
chosen false true stalled = inr (inr (inr refl))
chosen false false true = inr (inr (inl refl))
chosen false false false = inl refl

pub of_cores : (ends : List MachineEnd) → IsOfCores (status_of ends)
of_cores ends = chosen (any_ends is_trapped ends) (any_ends is_out_of_steps ends) (any_ends is_stalled ends)

-- that of what is made, which may be a trace that is too long
abbrev pub IsOfMade : ℕ → Type 0
IsOfMade status = IsOfCores status ⊎ (status ≡ 10)

pub told_status : (telling : Telling) (program : Program) (ended : Ended) (status : ℕ) (text : List ℕ) → Tells telling program ended status text → IsOfMade status
told_status w.Report program ended status text h = inl (subst IsOfCores (sym h.0) (of_cores ended.cores))
told_status (w.Summary turns) program ended status text h = inl (subst IsOfCores (sym h.0) (of_cores ended.cores))
told_status w.Trace program ended status text (whole e s l) = inl (subst IsOfCores (sym e) (of_cores ended.cores))
told_status w.Trace program ended status text (long_trace e x l) = inr e

pub made_status : (task : Task) (program : Program) (disk later : DiskTold) (status : ℕ) (done : Done) → status ≡ done.status.number → Makes task program disk later done → IsOfMade status
made_status (t.Run steps telling) program disk later status done e d =
    subst IsOfMade (sym e) (told_status telling program d.ended done.status.number done.text d.tells)
made_status t.Check program disk later status done e d = inl (inl (e ∙ d.status))
made_status t.Code program disk later status done e d = inl (inl (e ∙ d.status))

pub small : (status : ℕ) → IsOfCores status → status ≤ 6
small status (inl e) = omega (arith, e)
small status (inr (inl e)) = omega (arith, e)
small status (inr (inr (inl e))) = omega (arith, e)
small status (inr (inr (inr e))) = omega (arith, e)

pub not_above : (status other : ℕ) → IsOfCores status → status ≡ other → 7 ≤ other → ⊥
not_above status other h e l = omega (arith, small status h, e, l)

pub not_one : (status : ℕ) → IsOfCores status → status ≡ 1 → ⊥
not_one status (inl e) h = omega (arith, e, h)
not_one status (inr (inl e)) h = omega (arith, e, h)
not_one status (inr (inr (inl e))) h = omega (arith, e, h)
not_one status (inr (inr (inr e))) h = omega (arith, e, h)

-- none of these but 10 is of a refusal, of usage or of a failure
pub not_made : (status other : ℕ) → IsOfMade status → status ≡ other → 7 ≤ other → other ≢ 10 → ⊥
not_made status other (inl h) e l n = not_above status other h e l
not_made status other (inr t) e l n = n (sym e ∙ t)

pub not_made_one : (status : ℕ) → IsOfMade status → status ≡ 1 → ⊥
not_made_one status (inl h) e = not_one status h e
not_made_one status (inr t) e = omega (arith, t, e)

-- ---- statuses of refusals

abbrev pub IsOfRefusal : ℕ → Type 0
IsOfRefusal status = (status ≡ 2) ⊎ (status ≡ 3) ⊎ (status ≡ 10)

pub of_refusal : (refusal : Refusal) → IsOfRefusal (refusal_status refusal)
of_refusal r.TooLong = inr (inr refl)
of_refusal (r.BadByte at) = inl refl
of_refusal (r.NumberTooLarge at) = inl refl
of_refusal (r.OpenComment at) = inl refl
of_refusal (r.OpenText at) = inl refl
of_refusal (r.Unexpected at) = inl refl
of_refusal (r.TooDeep at) = inr (inr refl)
of_refusal (r.Broken rule) = inr (inl refl)
of_refusal r.TooManySteps = inr (inr refl)

pub other_cores : (status : ℕ) → IsOfCores status → (status ≡ 2 → ⊥) × ((status ≡ 3 → ⊥) × (status ≤ 6))
other_cores status (inl e) = ((λ h. omega (arith, e, h)), ((λ h. omega (arith, e, h)), omega (arith, e)))
other_cores status (inr (inl e)) = ((λ h. omega (arith, e, h)), ((λ h. omega (arith, e, h)), omega (arith, e)))
other_cores status (inr (inr (inl e))) = ((λ h. omega (arith, e, h)), ((λ h. omega (arith, e, h)), omega (arith, e)))
other_cores status (inr (inr (inr e))) = ((λ h. omega (arith, e, h)), ((λ h. omega (arith, e, h)), omega (arith, e)))

-- no status is of both
pub apart : (status : ℕ) → IsOfRefusal status → IsOfCores status → ⊥
apart status (inl e) h = (other_cores status h).0 e
apart status (inr (inl e)) h = (other_cores status h).1.0 e
apart status (inr (inr e)) h = omega (arith, (other_cores status h).1.1, e)

pub apart_made : (status : ℕ) → IsOfRefusal status → status ≢ 10 → IsOfMade status → ⊥
apart_made status k n (inl h) = apart status k h
apart_made status k n (inr t) = n t

-- and none is that of the usage line, or of a failure
pub one : (status : ℕ) → IsOfRefusal status → status ≡ 1 → ⊥
one status (inl e) h = omega (arith, e, h)
one status (inr (inl e)) h = omega (arith, e, h)
one status (inr (inr e)) h = omega (arith, e, h)

pub seven : (status : ℕ) → IsOfRefusal status → status ≡ 7 → ⊥
seven status (inl e) h = omega (arith, e, h)
seven status (inr (inl e)) h = omega (arith, e, h)
seven status (inr (inr e)) h = omega (arith, e, h)

pub eight : (status : ℕ) → IsOfRefusal status → status ≡ 8 → ⊥
eight status (inl e) h = omega (arith, e, h)
eight status (inr (inl e)) h = omega (arith, e, h)
eight status (inr (inr e)) h = omega (arith, e, h)

pub nine : (status : ℕ) → IsOfRefusal status → status ≡ 9 → ⊥
nine status (inl e) h = omega (arith, e, h)
nine status (inr (inl e)) h = omega (arith, e, h)
nine status (inr (inr e)) h = omega (arith, e, h)

pub eleven : (status : ℕ) → IsOfRefusal status → status ≡ 11 → ⊥
eleven status (inl e) h = omega (arith, e, h)
eleven status (inr (inl e)) h = omega (arith, e, h)
eleven status (inr (inr e)) h = omega (arith, e, h)

-- a status that is 1 unless it is 8
pub one_or_eight : (status : ℕ) → (status ≢ 8 → status ≡ 1) → (status ≡ 1) ⊎ (status ≡ 8)
one_or_eight status is =
    elim (cases_lt status 8) [
      | inl below ↦ inl (is (λ e. omega (arith, e, below)))
      | inr from ↦ elim (cases_lt 8 status) [
        | inl above ↦ inl (is (λ e. omega (arith, e, above)))
        | inr to ↦ inr (omega (arith, from, to))
      ]
    ]

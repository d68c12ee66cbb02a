-- What a run leaves of a disk, by the run of the other examples, in which nothing was asked of it.
use Rattle.std.proofs.Common.{◌≡◌, ℕ, List, [], ◌∷◌, pos, Some, None, true, false, refl, ap, arith, codes}
use Rattle.std.proofs.lemmas.List.Elements.{All-from_recursion}
use Rattle.ac_base.specs.declared.entry.Answer.TheVariants.{Bytes}
use Rattle.ac_base.specs.declared.entry.Payload.TheVariants.{Int, Read}
use Rattle.stack_code.specs.declared.instr.Instr.{Instr}
use Rattle.stack_code.specs.declared.instr.Instr.TheVariants as i
use Rattle.ac_outside.specs.Disks.{Held, DiskTold}
use Rattle.ac_semantics.proofs.OperationExamples.{two_cores}
use Rattle.program_run.specs.DiskLeft.{deeds_of, LeavesFiles, LeavesDisk}
use Rattle.program_run.specs.Naming.{names_below, IsNamed, AreNamed, NamesFilesBelow, RunsNameFiles}
use Rattle.program_run.specs.Run.{IsRunOf}
use Rattle.ac_commands.specs.declared.program.Resolved.{Resolved}
use Rattle.ac_translation.specs.Translation.{code_of}
use Rattle.run_laws.proofs.CoreExamples.{crossing}
use Rattle.run_laws.proofs.RunExamples.{their_run}

abbrev empty : Held
empty = record { files = []; found = λ path. None; calls = 0 }

abbrev told : Held → DiskTold
told held = record { held = Some held; bound = 0; is_ready = true; binds = None; faults = 0; earlier = 0 }

pub nothing_was_done : deeds_of two_cores their_run.journals ≡ []
nothing_was_done = refl

pub its_files_are_left : LeavesFiles two_cores [] their_run.journals empty empty
its_files_are_left = record { served = tt; files = refl; as_many = refl; paths = refl; others = refl }

pub its_disk_is_left : LeavesDisk two_cores [] their_run.journals (told empty) (told empty)
its_disk_is_left = record {
  counted = record { calls = refl; failures = omega arith; none = λ e. refl };
  held = (empty, refl, its_files_are_left);
}

-- a call that nothing asked for
pub not_with_a_stray_call : LeavesDisk two_cores [] their_run.journals (told empty) (told (record empty { calls = 1 })) → ⊥
not_with_a_stray_call d = let e = d.counted.calls in omega (arith, e)

-- one that failed
pub nor_with_a_stray_fault : LeavesDisk two_cores [] their_run.journals (told empty) (record (told empty) { faults = 1 }) → ⊥
nor_with_a_stray_fault d = let e = d.counted.none refl in omega (arith, e)

-- one that tells no longer
pub nor_where_it_is_silent : LeavesDisk two_cores [] their_run.journals (told empty) (record (told empty) { held = None }) → ⊥
nor_where_it_is_silent d = let e = d.held.1 in cc

-- a file that was not there
pub not_with_another_file : LeavesFiles two_cores [] their_run.journals empty (record empty { files = record { name = codes "p"; bytes = [] } ∷ [] }) → ⊥
not_with_another_file f = let e = f.as_many in omega (arith, e)

abbrev first_byte : List (List ℕ) → ℕ
first_byte ((b ∷ name) ∷ names) = b
first_byte _ = 0

-- another path for the bound one
pub not_under_another_path : LeavesFiles two_cores ([] ∷ []) their_run.journals (record empty { files = record { name = codes "p"; bytes = [] } ∷ [] })
    (record empty { files = record { name = codes "q"; bytes = [] } ∷ [] }) → ⊥
not_under_another_path f = let e : ◌≡◌ {A = ℕ} 113 112 = ap first_byte f.paths in omega (arith, e)

-- bytes that nothing has written
pub not_with_other_bytes : LeavesFiles two_cores ([] ∷ []) their_run.journals (record empty { files = record { name = codes "p"; bytes = [] } ∷ [] })
    (record empty { files = record { name = codes "p"; bytes = 7 ∷ [] } ∷ [] }) → ⊥
not_with_other_bytes f = let e = f.files in cc

-- ---- the files that are named

pub what_instructions_name : names_below 1 (i.Read 0) ∷ names_below 1 (i.Write 1) ∷ names_below 0 i.Ret ∷ [] ≡ true ∷ false ∷ true ∷ []
what_instructions_name = refl

pub its_code_names_none : NamesFilesBelow crossing 0
its_code_names_none = All-from_recursion (λ (instr : Instr). names_below 0 instr ≡ true) crossing.instrs
    (refl, (refl, (refl, (refl, (refl, (refl, (refl, (refl, (refl, (refl, (refl, (refl, tt))))))))))))

pub a_read_of_the_first_file : AreNamed 1 (record { payload = Read 0 4 2; answer = Bytes [] } ∷ [])
a_read_of_the_first_file = (omega arith, tt)

pub no_read_of_a_second : AreNamed 1 (record { payload = Read 1 4 2; answer = Bytes [] } ∷ []) → ⊥
no_read_of_a_second h = let less = h.0 in omega (arith, less)

pub no_message : IsNamed 1 (Int (pos 5 ∷ [])) → ⊥
no_message h = h

pub what_its_run_names : RunsNameFiles → (program : Resolved) → IsRunOf program 9 [] their_run → NamesFilesBelow (code_of program) 0 → AreNamed 0 (deeds_of program their_run.journals)
what_its_run_names law program run names = law program 9 [] their_run 0 run names

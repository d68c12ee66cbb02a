-- What a run leaves of a disk, by the journals of a run in which the first core has read a byte of a file, and then the second has written
-- it: the read was given the byte that stood there, and the file holds what was written.
use Rattle.std.proofs.Common.{◌≡◌, ℕ, List, [], ◌∷◌, pos, Option, Some, None, true, false, refl, ap, arith, codes}
use Rattle.std.proofs.lemmas.List.Elements.{All-from_recursion}
use Rattle.ac_base.specs.Log.{Log}
use Rattle.ac_base.specs.declared.entry.Answer.{Answer}
use Rattle.ac_base.specs.declared.entry.Answer.TheVariants.{Bytes, Count}
use Rattle.ac_base.specs.declared.entry.Entry.{Entry}
use Rattle.ac_base.specs.declared.entry.Event.{Event}
use Rattle.ac_base.specs.declared.entry.Event.TheVariants.{Offer, Did}
use Rattle.ac_base.specs.declared.entry.Payload.TheVariants.{Int, Read, Write}
use Rattle.ac_commands.specs.declared.program.Resolved.{Resolved}
use Rattle.ac_outside.specs.Disks.{Held, DiskTold}
use Rattle.ac_semantics.proofs.OperationExamples.{two_cores}
use Rattle.ac_translation.specs.Translation.{code_of}
use Rattle.stack_code.specs.declared.instr.Instr.{Instr}
use Rattle.stack_code.specs.declared.instr.Instr.TheVariants as i
use Rattle.program_run.specs.DiskLeft.{deeds_of, LeavesFiles, LeavesDisk}
use Rattle.program_run.specs.Naming.{names_below, IsNamed, AreNamed, NamesFilesBelow, RunsNameFiles}
use Rattle.program_run.specs.Run.{IsRunOf}
use Rattle.program_run.proofs.RunExamples.{its_parts, its_run, log, entry}

-- ---- the journals

abbrev done_at : ℕ → Event → Entry
done_at stamp event = record { stamp = stamp; turn = 0; event = event }

-- links 1 and 2 are those of the requests of the two cores; the read is answered so
abbrev journals : Answer → List Log
journals answer = log (entry 1 (Offer 1 0 (Read 0 1 1)) ∷ []) ∷ log (entry 1 (Offer 2 0 (Write 0 1 (codes "b"))) ∷ [])
    ∷ log (done_at 2 (Did 1 0 answer) ∷ done_at 3 (Did 2 0 (Count 1)) ∷ []) ∷ []

abbrev well : List Log
well = journals (Bytes (codes "y"))

pub what_was_done : deeds_of two_cores well ≡ record { payload = Read 0 1 1; answer = Bytes (codes "y") } ∷ record { payload = Write 0 1 (codes "b"); answer = Count 1 } ∷ []
what_was_done = refl

pub nothing_was_done : deeds_of two_cores its_run.journals ≡ []
nothing_was_done = refl

-- ---- the files

abbrev start : List (List ℕ)
start = codes "xy" ∷ []

-- one bind was the first call
abbrev before : Held
before = record { files = record { name = codes "p"; bytes = codes "xy" } ∷ []; found = λ path. None; calls = 1 }

abbrev left : Held
left = record before { files = record { name = codes "p"; bytes = codes "xb" } ∷ []; calls = 3 }

pub its_files_are_left : LeavesFiles two_cores start well before left
its_files_are_left = record { served = (refl, (refl, tt)); files = refl; as_many = refl; paths = refl; others = refl }

-- the byte that stands there only after the write
pub not_where_a_read_was_given_another_byte : LeavesFiles two_cores start (journals (Bytes (codes "b"))) before left → ⊥
not_where_a_read_was_given_another_byte f = let e = f.served.0 in cc

abbrev second_byte : List (List ℕ) → ℕ
second_byte ((a ∷ b ∷ file) ∷ files) = b
second_byte _ = 0

pub not_without_what_was_written : LeavesFiles two_cores start well before (record left { files = before.files }) → ⊥
not_without_what_was_written f = let e : ◌≡◌ {A = ℕ} 121 98 = ap second_byte f.files in omega (arith, e)

-- a file that was not there
pub not_with_another_file : LeavesFiles two_cores start well before (record left { files = record { name = codes "p"; bytes = codes "xb" } ∷ record { name = codes "q"; bytes = [] } ∷ [] }) → ⊥
not_with_another_file f = let e = f.as_many in omega (arith, e)

abbrev first_byte : List (List ℕ) → ℕ
first_byte ((b ∷ name) ∷ names) = b
first_byte _ = 0

-- another path for the bound one
pub not_under_another_path : LeavesFiles two_cores start well before (record left { files = record { name = codes "q"; bytes = codes "xb" } ∷ [] }) → ⊥
not_under_another_path f = let e : ◌≡◌ {A = ℕ} 113 112 = ap first_byte f.paths in omega (arith, e)

-- a file under a path that is not bound
pub not_where_another_file_was_made : LeavesFiles two_cores start well before (record left { found = λ path. Some [] }) → ⊥
not_where_another_file_was_made f = let e : Some [] ≡ None = ap (λ (found : List ℕ → Option (List ℕ)). found (codes "q")) f.others in cc

-- ---- the disk

abbrev told : Held → DiskTold
told held = record { held = Some held; bound = 1; is_ready = true; binds = None; faults = 0; earlier = 0 }

pub its_disk_is_left : LeavesDisk two_cores start well (told before) (told left)
its_disk_is_left = record {
  counted = record { calls = refl; failures = omega arith; none = λ e. refl };
  held = (left, refl, its_files_are_left);
}

-- a call that nothing asked for
pub not_with_a_stray_call : LeavesDisk two_cores start well (told before) (told (record left { calls = 4 })) → ⊥
not_with_a_stray_call d = let e = d.counted.calls in omega (arith, e)

-- one that failed
pub nor_with_a_stray_fault : LeavesDisk two_cores start well (told before) (record (told left) { faults = 1 }) → ⊥
nor_with_a_stray_fault d = let e = d.counted.none refl in omega (arith, e)

-- one that tells no longer
pub nor_where_it_is_silent : LeavesDisk two_cores start well (told before) (record (told left) { held = None }) → ⊥
nor_where_it_is_silent d = let e = d.held.1 in cc

-- ---- the files that are named

pub what_instructions_name : names_below 1 (i.Read 0) ∷ names_below 1 (i.Write 1) ∷ names_below 0 i.Ret ∷ [] ≡ true ∷ false ∷ true ∷ []
what_instructions_name = refl

pub its_code_names_none : NamesFilesBelow its_parts 0
its_code_names_none = All-from_recursion (λ (instr : Instr). names_below 0 instr ≡ true) its_parts.instrs
    (refl, (refl, (refl, (refl, (refl, (refl, (refl, (refl, tt))))))))

pub its_requests_are_of_the_first_file : AreNamed 1 (deeds_of two_cores well)
its_requests_are_of_the_first_file = (omega arith, (omega arith, tt))

pub no_read_of_a_second : AreNamed 1 (record { payload = Read 1 4 2; answer = Bytes [] } ∷ []) → ⊥
no_read_of_a_second h = let less = h.0 in omega (arith, less)

pub no_message : IsNamed 1 (Int (pos 5 ∷ [])) → ⊥
no_message h = h

pub what_its_run_names : RunsNameFiles → (program : Resolved) → IsRunOf program 9 [] its_run → NamesFilesBelow (code_of program) 0 → AreNamed 0 (deeds_of program its_run.journals)
what_its_run_names law program run names = law program 9 [] its_run 0 run names

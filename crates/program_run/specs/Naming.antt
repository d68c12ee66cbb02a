-- The files that code names, and the requests that are done in a run of it.
use Rattle.std.specs.Prelude.{◌≡◌, ℕ, ◌<◌, List, All, Bool, true, nat_lt}
use Rattle.std.specs.List.{AllByRecursion}
use Rattle.ac_base.specs.declared.entry.Payload.{Payload}
use Rattle.ac_base.specs.declared.entry.Payload.TheVariants.{Int, Read, Write}
use Rattle.ac_commands.specs.declared.program.Resolved.{Resolved}
use Rattle.ac_history.specs.Files.{Deed}
use Rattle.ac_translation.specs.Translation.{code_of}
use Rattle.stack_code.specs.declared.instr.Instr.{Instr}
use Rattle.stack_code.specs.declared.instr.Instr.TheVariants as i
use Rattle.stack_code.specs.Parts.{Parts}
use Rattle.program_run.specs.declared.ended.Ended.{Ended}
use Rattle.program_run.specs.DiskLeft.{deeds_of}
use Rattle.program_run.specs.Run.{IsRunOf}

-- a read or a write is of a file below this number
abbrev pub names_below : ℕ → Instr → Bool
names_below n (i.Read file) = nat_lt file n
names_below n (i.Write file) = nat_lt file n
names_below n _ = true

abbrev pub NamesFilesBelow : Parts → ℕ → Type 0
NamesFilesBelow code n = All (λ instr. names_below n instr ≡ true) code.instrs

-- it is a request, of a file below this number
abbrev pub IsNamed : ℕ → Payload → Type 0
IsNamed n (Int v) = ⊥
IsNamed n (Read file from len) = file < n
IsNamed n (Write file from bytes) = file < n

abbrev pub AreNamed : ℕ → List Deed → Type 0
AreNamed n ds = AllByRecursion (λ d. IsNamed n d.payload) ds

-- where the code of a program names files below a number alone, so does each request that is done in a run of it
abbrev pub RunsNameFiles : Type 0
RunsNameFiles = (program : Resolved) (bound : ℕ) (files : List (List ℕ)) (ended : Ended) (n : ℕ) → IsRunOf program bound files ended
    → NamesFilesBelow (code_of program) n → AreNamed n (deeds_of program ended.journals)

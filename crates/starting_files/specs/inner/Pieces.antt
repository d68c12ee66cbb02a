-- What the reads of a bound file give.
use Rattle.std.specs.Prelude.{◌≡◌, ℕ, ◌≤◌, List, ◌++◌, length, Some, Ok, Err}
use Rattle.std.specs.declared.option.Option.{Option}
use Rattle.std.specs.declared.result.Result.{Result}
use Rattle.ac_outside.specs.Files.{file_of, part}
use Rattle.ac_outside.specs.Disks.{Held, called}
use Rattle.starting_files.specs.declared.fault.StartFault.{StartFault}
use Rattle.starting_files.specs.declared.fault.StartFault.TheVariants.{Failed, TooLong, NoMemory}
use Rattle.starting_files.specs.Starting.{more_calls, reads_of}

-- what stands there was appended; the read was made, also where it failed
abbrev pub ReadsPiece : {T : Type 0} → Held → Option Held → ℕ → ℕ → ℕ → List ℕ → List ℕ → Result T StartFault → Type 0
ReadsPiece held after file from len bytes bytes_after (Ok done) =
    (bytes_after ≡ bytes ++ part (file_of held.files file).bytes from len) × (after ≡ Some (called held))
ReadsPiece held after file from len bytes bytes_after (Err fault) = after ≡ Some (called held)

-- so many calls were made, and no file changed
abbrev pub with_calls : Held → ℕ → Held
with_calls held n = record held { calls = more_calls held.calls n }

-- so many reads were made, at least these and at most all that the length takes
pub record MadeReads (held : Held) (after : Option Held) (len least : ℕ) : Type 0 where
  pub reads : ℕ
  pub some : least ≤ reads
  pub most : reads ≤ reads_of len
  pub left : after ≡ Some (with_calls held reads)

-- a file of this length was read whole, by all reads that it takes; or some were made, one at least where one failed
abbrev pub ReadsWhole : Held → Option Held → ℕ → ℕ → Result (List ℕ) StartFault → Type 0
ReadsWhole held after file len (Ok bytes) =
    (length (file_of held.files file).bytes ≡ len → bytes ≡ (file_of held.files file).bytes)
    × (after ≡ Some (with_calls held (reads_of len)))
ReadsWhole held after file len (Err Failed) = MadeReads held after len 1
ReadsWhole held after file len (Err (TooLong number)) = ⊥
ReadsWhole held after file len (Err NoMemory) = MadeReads held after len 0

-- What is told of a disk on which files are bound and read whole, one after the other.
use Rattle.std.specs.Prelude.{◌≡◌, ◌⊎◌, ℕ, zero, suc, ◌<◌, ◌≤◌, List, ◌++◌, length}
use Rattle.std.specs.Prelude.{map, take, sum_by, slice_get, All, IsTrue, IfSome, None, Some, Ok, Err, ⊤}
use Rattle.std.specs.Int.{div_ceil}
use Rattle.std.specs.declared.option.Option.{Option}
use Rattle.std.specs.declared.result.Result.{Result}
use Rattle.ac_outside.specs.declared.failed.BindFault.{BindFault}
use Rattle.ac_outside.specs.declared.failed.BindFault.TheVariants as b
use Rattle.ac_outside.specs.Causes.{Rose}
use Rattle.ac_outside.specs.Told.{one_more, AddsNames}
use Rattle.ac_outside.specs.Files.{file_at}
use Rattle.ac_outside.specs.Disks.{DiskTold, Held, with_bound, BindLeaves}
use Rattle.starting_files.specs.declared.fault.StartFault.{StartFault}
use Rattle.starting_files.specs.declared.fault.StartFault.TheVariants.{Failed, TooLong, NoMemory}

-- how many bytes a file may have
abbrev pub most_bytes : ℕ
most_bytes = 1048576

-- so many calls more
abbrev pub more_calls : ℕ → ℕ → ℕ
more_calls calls zero = calls
more_calls calls (suc n) = one_more (more_calls calls n)

-- how many reads a file of this length takes: one for each piece of 65,536 bytes, whole or begun
abbrev pub reads_of : ℕ → ℕ
reads_of len = div_ceil len 65536

-- the bytes that a file has as it is bound
abbrev pub bytes_at : Held → List ℕ → List ℕ
bytes_at held path = (file_at held.found path).bytes

-- the file of this path is bound, and so many reads of it were made
abbrev pub with_read : Held → List ℕ → ℕ → Held
with_read held path reads = record (with_bound held path) { calls = more_calls (with_bound held path).calls reads }

-- the calls that a file takes: its bind and its reads
abbrev pub calls_of : Held → List ℕ → ℕ
calls_of held path = suc (reads_of (length (bytes_at held path)))

-- the files of these paths are bound, in order, and each was read whole
abbrev pub with_started : Held → List (List ℕ) → Held
with_started held paths = record held {
  files = held.files ++ map (file_at held.found) paths;
  calls = more_calls held.calls (sum_by (calls_of held) paths);
}

-- The file is bound, and so many reads of it were made, at least these and at most all that it takes.
pub record LeavesBound (held : Held) (after : Option Held) (path : List ℕ) (least : ℕ) : Type 0 where
  pub reads : ℕ
  pub some : least ≤ reads
  pub most : reads ≤ reads_of (length (bytes_at held path))
  pub left : after ≡ Some (with_read held path reads)

-- that a bind failed, as its answer
abbrev pub bind_failed : Result ℕ BindFault
bind_failed = Err b.Failed

-- What the file of this number and path comes to: it is bound and read whole; or its bind or a read failed; or it is bound and too long;
-- or memory was refused, by the bind or later.
abbrev pub StartsFile : Held → Option Held → ℕ → List ℕ → Result (List ℕ) StartFault → Type 0
StartsFile held after number path (Ok bytes) =
    (bytes ≡ bytes_at held path) × (after ≡ Some (with_read held path (reads_of (length (bytes_at held path)))))
StartsFile held after number path (Err Failed) = BindLeaves held after path bind_failed ⊎ LeavesBound held after path 1
StartsFile held after number path (Err (TooLong file)) =
    (file ≡ number) × (most_bytes < length (bytes_at held path)) × (after ≡ Some (with_bound held path))
StartsFile held after number path (Err NoMemory) = (after ≡ None) ⊎ LeavesBound held after path 0

-- that a file stops a start, as the answer of what it gives
abbrev pub stopped : StartFault → Result (List ℕ) StartFault
stopped fault = Err fault

-- The files before this number are bound, none of them is too long, and each was read whole; that of this number stops the start.
pub record StopsAtFile (held : Held) (after : Option Held) (paths : List (List ℕ)) (number : ℕ) (fault : StartFault) : Type 0 where
  pub path : List ℕ
  pub here : slice_get paths number ≡ Some path
  pub short : All (λ before. length (bytes_at held before) ≤ most_bytes) (take number paths)
  pub stops : StartsFile (with_started held (take number paths)) after number path (stopped fault)

-- why there are no bytes of each file, as an answer
abbrev pub not_given : StartFault → Result (List (List ℕ)) StartFault
not_given fault = Err fault

-- each file of these paths is given as it was, and was bound and read whole
abbrev pub StartsFiles : Held → Option Held → List (List ℕ) → List (List ℕ) → Type 0
StartsFiles held after paths start = (start ≡ map (bytes_at held) paths) × (after ≡ Some (with_started held paths))

-- the count of faults rose where a call of the disk failed, and stayed where none did
abbrev pub StartHasCause : {T : Type 0} → ℕ → ℕ → Result T StartFault → Type 0
StartHasCause before after (Ok given) = after ≡ before
StartHasCause before after (Err Failed) = (before ≤ after) × Rose before after
StartHasCause before after (Err (TooLong file)) = after ≡ before
StartHasCause before after (Err NoMemory) = after ≡ before

-- where a call of the disk failed, none had failed before the latest one
abbrev pub IsLatest : {T : Type 0} → ℕ → ℕ → Result T StartFault → Type 0
IsLatest before earlier (Ok given) = ⊤
IsLatest before earlier (Err Failed) = earlier ≡ before
IsLatest before earlier (Err (TooLong file)) = ⊤
IsLatest before earlier (Err NoMemory) = ⊤

-- a file that is too long has this number
abbrev pub IsNumber : ℕ → StartFault → Type 0
IsNumber number Failed = ⊤
IsNumber number (TooLong file) = file ≡ number
IsNumber number NoMemory = ⊤

-- a file that is too long is one of so many
abbrev pub IsNumberBelow : ℕ → StartFault → Type 0
IsNumberBelow count Failed = ⊤
IsNumberBelow count (TooLong file) = file < count
IsNumberBelow count NoMemory = ⊤

-- The files of these paths were bound, in order, and read whole, no call failed, and the disk may be called again. Where it tells its
-- files, these are the bytes that they held, and it holds them still.
pub record AreStarted (paths start : List (List ℕ)) (disk later : DiskTold) : Type 0 where
  pub well : later.faults ≡ disk.faults
  pub bound : later.bound ≡ length paths
  pub is_ready : IsTrue later.is_ready
  pub asked : AddsNames disk.binds later.binds paths
  pub count : length start ≡ length paths
  pub short : All (λ bytes. length bytes ≤ most_bytes) start
  pub told : IfSome disk.held (λ held. StartsFiles held later.held paths start)

-- One of the files of these paths was not bound and read whole, those before it were, and no later one was to be bound: where a call
-- failed, it was one for this file, and the first that did.
pub record AreStopped (paths : List (List ℕ)) (fault : StartFault) (disk later : DiskTold) : Type 0 where
  pub number : ℕ
  pub within : number < length paths
  pub is_number : IsNumber number fault
  pub asked : AddsNames disk.binds later.binds (take (suc number) paths)
  pub cause : StartHasCause disk.faults later.faults (not_given fault)
  pub latest : IsLatest disk.faults later.earlier (not_given fault)
  pub told : IfSome disk.held (λ held. StopsAtFile held later.held paths number fault)

-- What a disk tells at a time, and what its calls make of that.
use Rattle.std.specs.Prelude.{◌≡◌, ◌⊎◌, ◌+◌, ℕ, Bool, true, false, List, [], ◌∷◌, ◌++◌, None, Some, Ok, Err, unwrap_or, if◌then◌else◌}
use Rattle.std.specs.Str.{bytes_eq}
use Rattle.std.specs.declared.result.Result.{Result}
use Rattle.std.specs.declared.option.Option.{Option}
use Rattle.ac_outside.specs.declared.failed.BindFault.{BindFault}
use Rattle.ac_outside.specs.declared.failed.BindFault.TheVariants.{Failed, NoMemory}
use Rattle.ac_outside.specs.declared.shelf.NamedBytes.{NamedBytes}
use Rattle.ac_outside.specs.Told.{one_more}
use Rattle.ac_outside.specs.Texts.{text_of}
use Rattle.ac_outside.specs.Files.{file_at, told_length, written}

-- what a disk holds
pub record Held : Type 0 where
  -- the bound files, each under its path, in the order in which they were bound
  pub files : List NamedBytes
  -- what stands under each path that is not bound; for one that is, what stood there as it was bound
  pub found : List ℕ → Option (List ℕ)
  -- the number of binds, reads and writes
  pub calls : ℕ

-- what a disk tells
pub record DiskTold : Type 0 where
  pub held : Option Held
  -- the number of bound files
  pub bound : ℕ
  -- whether memory was given at every bind, so that it may be called
  pub is_ready : Bool
  -- the paths that `bind` was given, in order, also where it failed
  pub binds : Option (List (List ℕ))
  -- how often a call has failed, and how often one had as the latest call began
  pub faults : ℕ
  pub earlier : ℕ

-- no file is bound under this path
abbrev pub IsFresh : Held → List ℕ → Type 0
IsFresh held path = text_of held.files path ≡ None

-- one call more, which changed no file
abbrev pub called : Held → Held
called held = record held { calls = one_more held.calls }

-- the file under this path is bound, an empty one where there was none
abbrev pub with_bound : Held → List ℕ → Held
with_bound held path = record held { files = held.files ++ file_at held.found path ∷ []; calls = one_more held.calls }

-- no file more is bound, and under this path there is a file, an empty one where there was none
abbrev pub with_made : Held → List ℕ → Held
with_made held path = record held {
  found = λ other. if bytes_eq other path then Some (unwrap_or (held.found path) []) else held.found other;
  calls = one_more held.calls;
}

-- these bytes were written at a place of a bound file
abbrev pub with_written : Held → ℕ → ℕ → List ℕ → Held
with_written held file from bytes = record held { files = written held.files file from bytes; calls = one_more held.calls }

-- What a bind leaves to tell. One that failed may have made its empty file, and no more.
abbrev pub BindLeaves : Held → Option Held → List ℕ → Result ℕ BindFault → Type 0
BindLeaves before after path (Ok len) = (len ≡ told_length (file_at before.found path).bytes) × (after ≡ Some (with_bound before path))
BindLeaves before after path (Err Failed) = (after ≡ Some (called before)) ⊎ (after ≡ Some (with_made before path))
BindLeaves before after path (Err NoMemory) = after ≡ None

-- the number of bound files after a bind
abbrev pub bound_by : ℕ → Result ℕ BindFault → ℕ
bound_by bound (Ok len) = bound + 1
bound_by bound (Err fault) = bound

-- whether a disk may be called again after a bind
abbrev pub stays_ready : Result ℕ BindFault → Bool
stays_ready (Ok len) = true
stays_ready (Err Failed) = true
stays_ready (Err NoMemory) = false

-- No file was to be bound: the number of bound files stayed, and so did whether the disk may be called.
pub record BindsNone (before after : DiskTold) : Type 0 where
  pub bound : after.bound ≡ before.bound
  pub is_ready : after.is_ready ≡ before.is_ready
  pub binds : after.binds ≡ before.binds

-- What contracts see of the objects in memory.
use Rattle.std.specs.Prelude.{◌≡◌, ℕ, Bool, true, false, ⊤, min, length, find, nat_eq, List, [], ◌∷◌, ◌++◌, None, Some, Ok, Err}
use Rattle.std.specs.Prelude.{is_some, unwrap_or, if◌then◌else◌, IfSome, refl}
use Rattle.std.specs.declared.option.Option.{Option}
use Rattle.std.specs.declared.result.Result.{Result}
use Rattle.ac_outside.specs.declared.failed.BindFault.{BindFault}
use Rattle.ac_outside.specs.declared.failed.BindFault.TheVariants.{Failed, NoMemory}
use Rattle.ac_outside.specs.declared.failed.Torn.{Torn}
use Rattle.ac_outside.specs.declared.memory_disk.DiskFail.{DiskFail}
use Rattle.ac_outside.specs.declared.shelf.NamedBytes.{NamedBytes}
use Rattle.ac_outside.specs.Told.{LibraryTold, SinkTold}
use Rattle.ac_outside.specs.Disks.{DiskTold, Held}
use Rattle.ac_outside.specs.Files.{file_at, written}
use Rattle.ac_outside.specs.Texts.{text_of}

-- texts by name, and what is left of the open one, where one was opened
pub record OpenTexts : Type 0 where
  pub texts : List NamedBytes
  pub left : Option (List ℕ)

-- A library that fails in the listed calls, which are numbered from 0, opens and reads together.
pub record FailingTexts : Type 0 where
  pub texts : List NamedBytes
  pub left : Option (List ℕ)
  pub fails : List ℕ
  pub calls : ℕ
  pub opens : ℕ
  pub reads : ℕ
  pub names : Option (List (List ℕ))
  pub faults : ℕ

abbrev pub told_by_failing : FailingTexts → LibraryTold
told_by_failing s = record {
  text_at = text_of s.texts;
  is_open = is_some s.left;
  left = s.left;
  opens = Some s.opens;
  reads = Some s.reads;
  names = s.names;
  faults = s.faults;
}

-- a library that does not fail
pub record SafeTexts : Type 0 where
  pub texts : List NamedBytes
  pub left : Option (List ℕ)
  pub opens : ℕ
  pub reads : ℕ
  pub names : Option (List (List ℕ))

-- the text of a name that it does not hold is empty
abbrev pub told_by_safe : SafeTexts → LibraryTold
told_by_safe s = record {
  text_at = λ name. Some (unwrap_or (text_of s.texts name) []);
  is_open = is_some s.left;
  left = s.left;
  opens = Some s.opens;
  reads = Some s.reads;
  names = s.names;
  faults = 0;
}

-- a sink that has room for so many bytes in all
pub record RoomyBytes : Type 0 where
  pub taken : List ℕ
  pub room : ℕ
  pub faults : ℕ

abbrev pub told_by_roomy : RoomyBytes → SinkTold
told_by_roomy s = record { held = Some s.taken; faults = s.faults }

-- a sink that keeps its first bytes, and whether it was given more than it keeps
pub record KeptBytes : Type 0 where
  pub taken : List ℕ
  pub is_over : Bool

abbrev pub told_by_kept : KeptBytes → SinkTold
told_by_kept s = record { held = (if s.is_over then None else Some s.taken); faults = 0 }

-- The files of a disk in memory: those that are bound, those that it was made of, and whether memory was
-- given at every bind.
pub record StoredFiles : Type 0 where
  pub files : List NamedBytes
  pub given : List NamedBytes
  pub is_ready : Bool

abbrev pub held_by : StoredFiles → ℕ → Held
held_by s calls = record { files = s.files; found = text_of s.given; calls = calls }

-- with the number of its calls, the paths that were to be bound, and how often a call has failed and had before the latest one
abbrev pub told_by_stored : StoredFiles → ℕ → Option (List (List ℕ)) → ℕ → ℕ → DiskTold
told_by_stored s calls binds faults earlier = record {
  held = (if s.is_ready then Some (held_by s calls) else None);
  bound = length s.files;
  is_ready = s.is_ready;
  binds = binds;
  faults = faults;
  earlier = earlier;
}

-- a disk in memory that tells its files has as many bound as it tells
pub bound-told : (s : StoredFiles) (calls : ℕ)
    → IfSome (if s.is_ready then Some (held_by s calls) else None) (λ held. length s.files ≡ length held.files)
bound-told s calls =
    elim s.is_ready as (λ ready. IfSome (if ready then Some (held_by s calls) else None) (λ held. length s.files ≡ length held.files)) [
      | true ↦ refl
      | false ↦ tt
    ]

-- the files after a bind
abbrev pub stored_bind : StoredFiles → List ℕ → Result ℕ BindFault → StoredFiles
stored_bind s path (Ok len) = record s { files = s.files ++ file_at (text_of s.given) path ∷ [] }
stored_bind s path (Err Failed) = s
stored_bind s path (Err NoMemory) = record s { is_ready = false }

-- the files after these bytes were written at a place of one of them
abbrev pub stored_write : StoredFiles → ℕ → ℕ → List ℕ → StoredFiles
stored_write s file from bytes = record s { files = written s.files file from bytes }

-- a disk that does not fail
pub record SafeFiles : Type 0 where
  pub stored : StoredFiles
  pub calls : ℕ
  pub binds : Option (List (List ℕ))

abbrev pub told_by_safe_disk : SafeFiles → DiskTold
told_by_safe_disk s = told_by_stored s.stored s.calls s.binds 0 0

-- A disk that fails in the listed calls, which are numbered from 0, binds, reads and writes together.
pub record FailingFiles : Type 0 where
  pub stored : StoredFiles
  pub calls : ℕ
  pub fails : List DiskFail
  pub binds : Option (List (List ℕ))
  pub faults : ℕ
  pub earlier : ℕ

abbrev pub told_by_failing_disk : FailingFiles → DiskTold
told_by_failing_disk s = told_by_stored s.stored s.calls s.binds s.faults s.earlier

-- how the call of this number fails, where it does
abbrev pub fail_at : List DiskFail → ℕ → Option DiskFail
fail_at fails call = find (λ fail. nat_eq fail.call call) fails

-- what a write of these bytes answers that fails so, if at all
abbrev pub torn_by : Option DiskFail → List ℕ → Result ⊤ Torn
torn_by None bytes = Ok tt
torn_by (Some fail) bytes = Err (record { taken = min (length bytes) fail.taken })

-- What binds and writes make of the files of a disk, and what reads give.
use Rattle.std.specs.Prelude.{ℕ, ◌-◌, ◌^◌, min, List, [], length, take, drop}
use Rattle.std.specs.Prelude.{slice_set, slice_index_or, unwrap_or, Ok, Err}
use Rattle.std.specs.declared.result.Result.{Result}
use Rattle.std.specs.declared.option.Option.{Option}
use Rattle.file_bytes.specs.Overwritten.{overwritten}
use Rattle.ac_outside.specs.declared.failed.Torn.{Torn}
use Rattle.ac_outside.specs.declared.shelf.NamedBytes.{NamedBytes}

-- the file that a bind of this path finds, or the empty one that it makes
abbrev pub file_at : (List ℕ → Option (List ℕ)) → List ℕ → NamedBytes
file_at found path = record { name = path; bytes = unwrap_or (found path) [] }

-- the length that a bind tells: it has 32 bits
abbrev pub told_length : List ℕ → ℕ
told_length bytes = min (length bytes) (2 ^ 32 - 1)

-- a bound file; one that there is not is empty
abbrev pub file_of : List NamedBytes → ℕ → NamedBytes
file_of files file = slice_index_or files file (record { name = []; bytes = [] })

-- what stands from a place on, up to so many bytes
abbrev pub part : List ℕ → ℕ → ℕ → List ℕ
part bytes from len = take len (drop from bytes)

-- the files where these bytes have been written at a place of one of them
abbrev pub written : List NamedBytes → ℕ → ℕ → List ℕ → List NamedBytes
written files file from bytes =
    slice_set files file (record { name = (file_of files file).name; bytes = overwritten (file_of files file).bytes from bytes })

-- the bytes of a write that went in: all of them, or so many as it failed after
abbrev pub bytes_in : {T : Type 0} → Result T Torn → List ℕ → List ℕ
bytes_in (Ok done) bytes = bytes
bytes_in (Err torn) bytes = take torn.taken bytes

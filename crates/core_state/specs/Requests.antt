-- What a read and a write of a file ask for, and what their answers give.
use Rattle.std.specs.Prelude.{ℕ, zero, suc, ◌+◌, ℤ, pos, negsuc, List, [], ◌∷◌, length, take}
use Rattle.std.specs.Prelude.{Option, Bool, ◌&&◌, nat_le, Result, Ok, Err, if◌then◌else◌}
use Rattle.ac_base.specs.declared.ends.Trap.{Trap}
use Rattle.ac_base.specs.declared.ends.Trap.TheVariants.{FileRange}
use Rattle.ac_base.specs.declared.entry.Answer.{Answer}
use Rattle.ac_base.specs.declared.entry.Answer.TheVariants as answer
use Rattle.work_item.specs.declared.ids.FrameId.{FrameId}
use Rattle.work_item.specs.declared.cell.Place.{Place}
use Rattle.work_item.specs.Store.{Store, int_from, with_int_from}
use Rattle.cancel_scope.specs.declared.operation.Asked.{Asked}
use Rattle.cancel_scope.specs.declared.operation.Asked.TheVariants as asked
use Rattle.core_state.specs.Arithmetic.{low_byte}

-- ---- limits

-- of one request, and of a file
abbrev pub request_limit : ℕ
request_limit = 256

abbrev pub file_limit : ℕ
file_limit = 1048576

-- ---- bytes in ints

-- the low 8 bits of so many ints, from that slot on
abbrev pub bytes_from : Store → Option FrameId → ℕ → ℕ → List ℕ
bytes_from store home slot zero = []
bytes_from store home slot (suc len) = low_byte (int_from store home slot) ∷ bytes_from store home (slot + 1) len

abbrev pub bytes_at : Store → Place → List ℕ
bytes_at store place = bytes_from store place.home place.start place.len

-- one byte per int, from that slot on
abbrev pub with_bytes_from : Store → Option FrameId → ℕ → List ℕ → Store
with_bytes_from store home slot [] = store
with_bytes_from store home slot (b ∷ bytes) = with_bytes_from (with_int_from store home slot (pos b)) home (slot + 1) bytes

abbrev pub with_bytes_at : Store → Place → List ℕ → Store
with_bytes_at store place bytes = with_bytes_from store place.home place.start bytes

-- ---- what is asked for

-- the first elements of an array, so many
abbrev pub first_of : Place → ℕ → Place
first_of place len = record place { len = len }

-- so many bytes from that place of a file on, into or out of that array
abbrev pub is_in_range : Place → ℕ → ℕ → Bool
is_in_range array from len = nat_le len request_limit && (nat_le len array.len && nat_le (from + len) file_limit)

-- what asks for it is made of the place in the file and of the elements
abbrev pub if_in_range : Place → ℤ → ℤ → (ℕ → Place → Asked) → Result Asked Trap
if_in_range array (pos from) (pos len) ask = if is_in_range array from len then Ok (ask from (first_of array len)) else Err FileRange
if_in_range array _ _ ask = Err FileRange

abbrev pub read_of : ℕ → ℤ → ℤ → Place → Result Asked Trap
read_of file from len array = if_in_range array from len (λ at elements. asked.Read file at elements)

-- a write takes its bytes as it starts
abbrev pub write_of : Store → ℕ → ℤ → ℤ → Place → Result Asked Trap
write_of store file from len array = if_in_range array from len (λ at elements. asked.Write file at (bytes_at store elements))

-- ---- what an answer gives

-- the third of the named results of the language
abbrev pub fault : ℤ
fault = negsuc 1

-- of the bytes that were read, as many as were asked for
abbrev pub bytes_for : Place → List ℕ → List ℕ
bytes_for into bytes = take into.len bytes

-- the value of the request: a count of bytes, or that the disk failed
abbrev pub value_of : Asked → Answer → ℤ
value_of (asked.Read file from into) (answer.Bytes bytes) = pos (length (bytes_for into bytes))
value_of (asked.Write file from bytes) (answer.Count count) = pos count
value_of _ _ = fault

-- a read has put its bytes into its elements
abbrev pub with_answer : Store → Asked → Answer → Store
with_answer store (asked.Read file from into) (answer.Bytes bytes) = with_bytes_at store into (bytes_for into bytes)
with_answer store _ _ = store

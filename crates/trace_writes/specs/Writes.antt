-- The writes among the requests that were done.
use Rattle.std.specs.Prelude.{List, [], ◌∷◌, ◌++◌}
use Rattle.ac_base.specs.declared.entry.Payload.{Payload}
use Rattle.ac_base.specs.declared.entry.Payload.TheVariants.{Int, Read, Write}
use Rattle.ac_base.specs.declared.entry.Answer.{Answer}
use Rattle.ac_history.specs.Files.{Deed, bytes_in}
use Rattle.trace_writes.specs.declared.write.FileWrite.{FileWrite}

-- a write that had this answer, with the bytes that went in; another request writes nothing
abbrev pub write_of : Payload → Answer → List FileWrite
write_of (Int v) answer = []
write_of (Read f from n) answer = []
write_of (Write f from bytes) answer = record { file = f; from = from; bytes = bytes_in answer bytes } ∷ []

-- the writes among these deeds, in their order
abbrev pub writes_of : List Deed → List FileWrite
writes_of [] = []
writes_of (d ∷ ds) = write_of d.payload d.answer ++ writes_of ds

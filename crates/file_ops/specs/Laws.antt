-- What one request makes of the counts of a disk's calls, and of its files.
use Rattle.std.specs.Prelude.{◌≡◌, ◌<◌, List, [], ◌∷◌, ◌++◌, length}
use Rattle.ac_base.specs.declared.entry.Payload.{Payload}
use Rattle.ac_base.specs.declared.entry.Answer.{Answer}
use Rattle.ac_history.specs.Files.{Deed, files_done}
use Rattle.ac_outside.specs.Disks.{Held, DiskTold}
use Rattle.file_ops.specs.Agreement.{files_of}
use Rattle.file_ops.specs.Asked.{Asked, file_of, held_after}
use Rattle.file_ops.specs.Counting.{AreCounted}

-- a disk that was called as these deeds say, and is then asked for one more, was called as all of them say
abbrev pub RequestsAreCounted : Type 0
RequestsAreCounted = (begun before after : DiskTold) (ds : List Deed) (payload : Payload) (answer : Answer) → before.bound ≡ begun.bound
    → AreCounted begun before ds → Asked before after payload answer
    → AreCounted begun after (ds ++ record { payload = payload; answer = answer } ∷ [])

-- after the call by which a request of a bound file had this answer the disk holds what the deed makes of its files
abbrev pub FilesAreDone : Type 0
FilesAreDone = (held : Held) (payload : Payload) (answer : Answer) → file_of payload < length held.files
    → files_of (held_after held payload answer) ≡ files_done (files_of held) payload answer

-- What the requests that were done make of the files, and whether reads gave what stood there.
use Rattle.std.specs.Prelude.{◌≡◌, ℕ, ◌-◌, List, [], ◌∷◌, length, replicate, Option, Bool, true, slice_set, ◌++◌, Some, None, take}
use Rattle.std.specs.Prelude.{drop, slice_index_or, bytes_eq}
use Rattle.ac_base.specs.declared.entry.Payload.{Payload}
use Rattle.ac_base.specs.declared.entry.Answer.{Answer}
use Rattle.ac_base.specs.declared.entry.Event.{Event}
use Rattle.ac_base.specs.declared.entry.Stamped.{Stamped}
use Rattle.ac_base.specs.declared.entry.Payload.TheVariants.{Int, Read, Write}
use Rattle.ac_base.specs.declared.entry.Answer.TheVariants.{Bytes, Count, Fault}
use Rattle.ac_base.specs.declared.entry.Event.TheVariants.{Offer, Withdraw, Know, Room, Got, Pass, Did, Reply}
use Rattle.file_bytes.specs.Overwritten.{overwritten}
use Rattle.ac_links.specs.Link.{asked, link_of}
use Rattle.ac_history.specs.History.{Past, link_at, after}

abbrev pub file_of : List (List ℕ) → ℕ → List ℕ
file_of files f = slice_index_or files f []

-- all sixteen files; those past the end are empty at first
abbrev pub padded : List (List ℕ) → List (List ℕ)
padded files = files ++ replicate (16 - length files) []

-- the bytes of a write that went in
abbrev pub bytes_in : Answer → List ℕ → List ℕ
bytes_in (Bytes b) bytes = []
bytes_in (Count n) bytes = bytes
bytes_in (Fault j) bytes = take j bytes

-- the files where these bytes have been written at a place of one of them
abbrev pub written : List (List ℕ) → ℕ → ℕ → List ℕ → List (List ℕ)
written files f from bytes = slice_set files f (overwritten (file_of files f) from bytes)

-- the files after a request that had this answer
abbrev pub files_done : List (List ℕ) → Payload → Answer → List (List ℕ)
files_done files (Int v) answer = files
files_done files (Read f from n) answer = files
files_done files (Write f from bytes) answer = written files f from (bytes_in answer bytes)

abbrev pub reads : List ℕ → ℕ → ℕ → Answer → Bool
reads file from n (Bytes bs) = bytes_eq bs (take n (drop from file))
reads file from n (Count c) = true
reads file from n (Fault j) = true

-- a read was given what stands there, as much as there is of it
abbrev pub serves : List (List ℕ) → Payload → Answer → Bool
serves files (Int v) answer = true
serves files (Read f from n) answer = reads (file_of files f) from n answer
serves files (Write f from bytes) answer = true

-- a request that was done, with its answer
pub record Deed : Type 0 where
  pub payload : Payload
  pub answer : Answer

-- the files after these deeds, in their order
abbrev pub contents : List (List ℕ) → List Deed → List (List ℕ)
contents files [] = files
contents files (d ∷ ds) = contents (files_done files d.payload d.answer) ds

-- each read was given what stood there when it was done
abbrev pub IsServed : List (List ℕ) → List Deed → Type 0
IsServed files [] = Unit {0}
IsServed files (d ∷ ds) = (serves files d.payload d.answer ≡ true) × IsServed (files_done files d.payload d.answer) ds

-- what a `Did` has done, where this is the request
abbrev pub deed_of : Option Payload → Event → List Deed
deed_of None e = []
deed_of (Some p) (Offer l n payload) = []
deed_of (Some p) (Withdraw l n) = []
deed_of (Some p) (Know l n) = []
deed_of (Some p) (Room l n) = []
deed_of (Some p) (Got l n value) = []
deed_of (Some p) (Pass l n) = []
deed_of (Some p) (Did l n answer) = record { payload = p; answer = answer } ∷ []
deed_of (Some p) (Reply l n answer) = []

-- what is done by an entry: nothing, or the request that was offered under its number, with its answer
abbrev pub deeds_at : Past → Stamped → List Deed
deeds_at past e = deed_of (asked (link_at past (link_of e.entry.event)) e.entry.event) e.entry.event

-- the deeds of a history, in its order, each with the request that was offered under its number
abbrev pub deeds : Past → List Stamped → List Deed
deeds past [] = []
deeds past (e ∷ es) = deeds_at past e ++ deeds (after past e) es

-- the deeds of a list of entries, where `asks` tells the request that each answers
abbrev pub deeds_by : (Event → Option Payload) → List Stamped → List Deed
deeds_by asks [] = []
deeds_by asks (e ∷ es) = deed_of (asks e.entry.event) e.entry.event ++ deeds_by asks es

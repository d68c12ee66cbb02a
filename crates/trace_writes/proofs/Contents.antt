-- A disk on which the writes of a history are done holds what the history has made of its files, and nothing else of it changes.
use Rattle.std.proofs.Common.{◌≡◌, ℕ, zero, suc, ◌<◌, List, [], ◌∷◌, ◌++◌, Some, refl, sym, ap, ◌∙◌, subst, length}
use Rattle.std.specs.Prelude.{map, slice_get, slice_set}
use Rattle.std.specs.List.{AllByRecursion}
use Rattle.std.proofs.lemmas.List.{length-set}
use Rattle.std.proofs.lemmas.Option.{get_or_from_slice_get}
use Rattle.ac_base.specs.declared.entry.Payload.{Payload}
use Rattle.ac_base.specs.declared.entry.Payload.TheVariants.{Int, Read, Write}
use Rattle.ac_history.specs.Files.{Deed, bytes_in, contents, files_done}
use Rattle.ac_outside.specs.declared.shelf.NamedBytes.{NamedBytes}
use Rattle.ac_outside.specs.Disks.{Held, with_written}
use Rattle.file_ops.specs.Agreement.{files_of}
use Rattle.file_ops.specs.Asked.{file_of}
use Rattle.file_ops.proofs.Filing.{same_files}
use Rattle.trace_writes.specs.declared.write.FileWrite.{FileWrite}
use Rattle.trace_writes.specs.Doing.{with_writes}
use Rattle.trace_writes.specs.Writes.{write_of, writes_of}

-- each of these deeds is of one of so many files
abbrev pub AreWithin : ℕ → List Deed → Type 0
AreWithin n ds = AllByRecursion (λ d. file_of d.payload < n) ds

written_count : (held : Held) (f from : ℕ) (bytes : List ℕ) → length (with_written held f from bytes).files ≡ length held.files
written_count held f from bytes = length-set held.files f _

contents_more : (d : Deed) (ds : List Deed) → ((held : Held) → AreWithin (length held.files) ds → files_of (with_writes held (writes_of ds)) ≡ contents (files_of held) ds) → (held : Held)
    → file_of d.payload < length held.files → AreWithin (length held.files) ds
    → files_of (with_writes held (write_of d.payload d.answer ++ writes_of ds)) ≡ contents (files_done (files_of held) d.payload d.answer) ds
contents_more d ds again held here rest = by d.payload here
  where
    by : (p : Payload) → file_of p < length held.files → files_of (with_writes held (write_of p d.answer ++ writes_of ds)) ≡ contents (files_done (files_of held) p d.answer) ds
    by (Int v) lt = again held rest
    by (Read f from n) lt = again held rest
    by (Write f from bytes) lt =
        let next = with_written held f from (bytes_in d.answer bytes) in
        again next (subst (λ n. AreWithin n ds) (sym (written_count held f from (bytes_in d.answer bytes))) rest)
        ∙ ap (λ files. contents files ds) (same_files held (Write f from bytes) d.answer lt)

pub contents_are : (ds : List Deed) (held : Held) → AreWithin (length held.files) ds → files_of (with_writes held (writes_of ds)) ≡ contents (files_of held) ds
contents_are [] held h = refl
contents_are (d ∷ ds) held h = contents_more d ds (λ it within. contents_are ds it within) held h.0 h.1

-- ---- what stays

abbrev name_of : NamedBytes → List ℕ
name_of f = f.name

set_keeps : (files : List NamedBytes) (n : ℕ) (x : NamedBytes) → ((y : NamedBytes) → slice_get files n ≡ Some y → x.name ≡ y.name) → map name_of (slice_set files n x) ≡ map name_of files
set_keeps [] n x h = refl
set_keeps (y ∷ ys) zero x h = ap (λ r. r ∷ map name_of ys) (h y refl)
set_keeps (y ∷ ys) (suc n) x h = ap (λ r. y.name ∷ r) (set_keeps ys n x h)

pub paths_stay : (ws : List FileWrite) (held : Held) → map name_of (with_writes held ws).files ≡ map name_of held.files
paths_stay [] held = refl
paths_stay (w ∷ ws) held = paths_stay ws (with_written held w.file w.from w.bytes) ∙ set_keeps held.files w.file _ (λ y there. ap name_of (get_or_from_slice_get held.files w.file y _ there))

pub count_stays : (ws : List FileWrite) (held : Held) → length (with_writes held ws).files ≡ length held.files
count_stays [] held = refl
count_stays (w ∷ ws) held = count_stays ws (with_written held w.file w.from w.bytes) ∙ written_count held w.file w.from w.bytes

pub others_stay : (ws : List FileWrite) (held : Held) → (with_writes held ws).found ≡ held.found
others_stay [] held = refl
others_stay (w ∷ ws) held = others_stay ws (with_written held w.file w.from w.bytes)

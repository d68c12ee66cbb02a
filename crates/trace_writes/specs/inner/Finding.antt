-- The writes of a history, found entry by entry: what the links hold is all of the past that they rest on.
use Rattle.std.specs.Prelude.{List, [], ◌∷◌, ◌++◌, slice_index_or, slice_set}
use Rattle.ac_base.specs.declared.entry.Stamped.{Stamped}
use Rattle.ac_links.specs.declared.offer.LinkOffer.{LinkOffer}
use Rattle.ac_links.specs.Link.{asked, link_after, link_of}
use Rattle.ac_history.specs.Files.{deed_of}
use Rattle.trace_writes.specs.declared.write.FileWrite.{FileWrite}
use Rattle.trace_writes.specs.Writes.{writes_of}

-- the offers on the link of this entry
abbrev pub its_offers : List (List LinkOffer) → Stamped → List LinkOffer
its_offers links e = slice_index_or links (link_of e.entry.event) []

-- the links after the entry
abbrev pub entered : List (List LinkOffer) → Stamped → List (List LinkOffer)
entered links e = slice_set links (link_of e.entry.event) (link_after (its_offers links e) e.entry.stamp e.entry.event)

-- the write that the entry does, if it does one
abbrev pub writes_at : List (List LinkOffer) → Stamped → List FileWrite
writes_at links e = writes_of (deed_of (asked (its_offers links e) e.entry.event) e.entry.event)

-- the writes that these entries do
abbrev pub writes_from : List (List LinkOffer) → List Stamped → List FileWrite
writes_from links [] = []
writes_from links (e ∷ es) = writes_at links e ++ writes_from (entered links e) es

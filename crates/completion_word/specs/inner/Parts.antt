-- What two seats know after one has parted from the other, and one after both have met.
use Rattle.std.specs.Prelude.{None}
use Rattle.completion_word.specs.declared.views.View.{View}

-- the two sides part as the words are made
abbrev pub owner_part : View → View
owner_part v = record { owner = v.owner; peer = None; owner_note = None; peer_note = None }

abbrev pub peer_part : View → View
peer_part v = record { owner = None; peer = v.peer; owner_note = None; peer_note = None }

-- and meet in one seat as they are closed
abbrev pub both_parts : View → View → View
both_parts v w = record { owner = v.owner; peer = w.peer; owner_note = None; peer_note = None }

-- a seat keeps what it knows as a note is copied off it
abbrev pub same_view : View → View
same_view v = v

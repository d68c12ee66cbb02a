-- The words and the seats as callers see them.
use Rattle.std.specs.Prelude.{◌≡◌, ℕ}
use Rattle.completion_word.specs.declared.seats.OwnerSeat.{OwnerSeat}
use Rattle.completion_word.specs.declared.seats.PeerSeat.{PeerSeat}
use Rattle.completion_word.specs.declared.words.Words.{Words}
use Rattle.completion_word.specs.declared.views.Owner.{Owner}
use Rattle.completion_word.specs.declared.views.Peer.{Peer}
use Rattle.completion_word.specs.Link.{owner_in, peer_in}

-- the view of a seat
abbrev pub owner_of : OwnerSeat → Owner
owner_of s = owner_in s.seat.me.0

abbrev pub peer_of : PeerSeat → Peer
peer_of s = peer_in s.seat.me.0

-- the seat is one of these words
abbrev pub IsOwnerOf : OwnerSeat → Words → Type 0
IsOwnerOf s w = s.seat.table_id ≡ w.table.shared.table_id

abbrev pub IsPeerOf : PeerSeat → Words → Type 0
IsPeerOf s w = s.seat.table_id ≡ w.table.shared.table_id

-- how many words there are
abbrev pub places_of : Words → ℕ
places_of w = w.places

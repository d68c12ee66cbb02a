-- The words of links on which nothing was done, with the seats of their two sides.
use Rattle.std.specs.Prelude.{◌≡◌, ℕ, ◌++◌, List, length, Some, slice_get}
use Rattle.completion_word.specs.declared.words.Words.{Words}
use Rattle.completion_word.specs.Link.{new_owner, new_peer}
use Rattle.completion_word.specs.Seats.{owner_of, peer_of, IsOwnerOf, IsPeerOf, places_of}
use Rattle.run_ends.specs.declared.words.Seats.{Seats}
use Rattle.run_ends.specs.declared.words.AllSeats.{AllSeats}

-- words of this many places, and their own seats
pub record IsUnused (capacity : ℕ) (words : Words) (seats : Seats) : Type 0 where
  pub places : places_of words ≡ capacity
  pub owner_seat : IsOwnerOf seats.owner words
  pub peer_seat : IsPeerOf seats.peer words
  pub owner : owner_of seats.owner ≡ new_owner
  pub peer : peer_of seats.peer ≡ new_peer

-- those of link l stand at place l of each list
abbrev pub AreUnusedAt : List ℕ → List Words → List Seats → Type 0
AreUnusedAt capacities words seats = (l c : ℕ) (w : Words) (s : Seats)
    → slice_get capacities l ≡ Some c → slice_get words l ≡ Some w → slice_get seats l ≡ Some s → IsUnused c w s

-- words and seats for each capacity
pub record AreUnused (capacities : List ℕ) (words : List Words) (seats : List Seats) : Type 0 where
  pub words_count : length words ≡ length capacities
  pub seats_count : length seats ≡ length capacities
  pub each : AreUnusedAt capacities words seats

-- the seats of the channels, and then those of the requests
abbrev pub seats_of : AllSeats → List Seats
seats_of s = s.channels.items ++ s.requests.items

-- The seats of a pair that is closed.
use Rattle.std.specs.Prelude.{◌≡◌, length}
use Rattle.completion_word.specs.declared.seats.OwnerSeat.{OwnerSeat}
use Rattle.completion_word.specs.Seats.{owner_of}
use Rattle.channel_ends.specs.Sending.{OwnerNotes}

-- it is the seat of the same words, with as many offers
pub record IsSeatOf (seat : OwnerSeat) (notes : OwnerNotes) : Type 0 where
  pub table : seat.seat.table_id ≡ notes.table
  pub offers : length (owner_of seat).offers ≡ length notes.offers

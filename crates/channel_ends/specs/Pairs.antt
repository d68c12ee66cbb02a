-- Ends as `pair` makes them, and what `settle` leaves of them as it was.
use Rattle.std.specs.Prelude.{◌≡◌, ℕ, ◌≤◌, []}
use mathlib.Core.List.{IsPrefix}
use Rattle.completion_word.specs.declared.seats.OwnerSeat.{OwnerSeat}
use Rattle.completion_word.specs.declared.seats.PeerSeat.{PeerSeat}
use Rattle.completion_word.specs.Seats.{peer_of}
use Rattle.channel_ends.specs.Sending.{Sending}
use Rattle.channel_ends.specs.Receiving.{Receiving}

module _ {M : Type 0} where
  -- nothing was offered, and every slot is free
  pub record IsNewSend (seat : OwnerSeat) (capacity : ℕ) (e : Sending M) : Type 0 where
    pub table : e.notes.table ≡ seat.seat.table_id
    pub offers : e.notes.offers ≡ []
    pub heard : e.notes.heard ≡ []
    pub payloads : e.payloads ≡ []
    pub free : e.free ≡ capacity

  -- nothing was decided, and no item is known
  pub record IsNewRecv (seat : PeerSeat) (e : Receiving M) : Type 0 where
    pub table : e.table ≡ seat.seat.table_id
    pub peer : e.peer ≡ peer_of seat
    pub popped : e.popped ≡ []
    pub items : e.items ≡ []

  -- it is still an end of that pair: of the same words and the same ring
  pub record IsSameSend (old new : Sending M) : Type 0 where
    pub table : new.notes.table ≡ old.notes.table
    pub ring : new.ring ≡ old.ring

  pub record IsSameRecv (old new : Receiving M) : Type 0 where
    pub table : new.table ≡ old.table
    pub ring : new.ring ≡ old.ring

  -- the offers are as they were, with all that was heard of them
  pub record IsSettledSend (old new : Sending M) : Type 0 where
    pub ring : new.ring ≡ old.ring
    pub payloads : new.payloads ≡ old.payloads
    pub free : old.free ≤ new.free
    pub notes : new.notes ≡ record old.notes { told = new.notes.told }

  -- and so are the decisions
  pub record IsSettledRecv (old new : Receiving M) : Type 0 where
    pub table : new.table ≡ old.table
    pub ring : new.ring ≡ old.ring
    pub peer : new.peer ≡ record old.peer { told_offers = new.peer.told_offers }
    pub popped : new.popped ≡ old.popped
    pub items : IsPrefix old.items new.items

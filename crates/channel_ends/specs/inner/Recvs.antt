-- A receiving end, from its fields.
use Rattle.std.specs.Prelude.{◌≡◌, length}
use Rattle.rtrb.specs.Ring.{received, known_items}
use Rattle.completion_word.specs.Seats.{peer_of}
use Rattle.channel_ends.specs.declared.receiving.RecvEnd.TheInside.{Inside}
use Rattle.channel_ends.specs.Receiving.{Receiving}

module _ {M P : Type 0} where
  abbrev pub receiving_of : Inside M P → Receiving M
  receiving_of it = record {
    table = it.peer.seat.table_id;
    ring = record { words = it.ring.end.words; slots = it.ring.end.slots; names = it.ring.end.names };
    peer = peer_of it.peer;
    popped = received it.ring;
    items = known_items it.ring;
  }

  -- the seat is of these words, and one item was taken out of the ring for each decision
  pub record IsReceiving (it : Inside M P) : Type 0 where
    pub words : it.peer.seat.table_id ≡ it.words.now.table.shared.table_id
    pub one_each : length (received it.ring) ≡ length (peer_of it.peer).decisions

-- A sending end, from its fields.
use Rattle.std.specs.Prelude.{◌≡◌, length}
use Rattle.rtrb.specs.Ring.{sent, known_free, producer_capacity}
use Rattle.channel_ends.specs.declared.sending.SendEnd.TheInside.{Inside}
use Rattle.channel_ends.specs.Sending.{Sending, capacity_of}

module _ {M P : Type 0} where
  abbrev pub sending_of : Inside M P → Sending M
  sending_of it = record {
    ring = record { words = it.ring.end.words; slots = it.ring.end.slots; names = it.ring.end.names };
    notes = it.side;
    payloads = sent it.ring;
    free = known_free it.ring;
  }

  -- the side and the ring are of these words' link
  pub record IsSending (it : Inside M P) : Type 0 where
    pub words : it.side.table ≡ it.words.now.table.shared.table_id
    pub size : producer_capacity it.ring ≡ capacity_of it.side
    pub one_each : length (sent it.ring) ≡ length it.side.offers

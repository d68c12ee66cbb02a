-- The two ends of a ring of replies, from their fields.
use Rattle.std.specs.Prelude.{◌≡◌, map}
use Rattle.rtrb.specs.declared.end.End.{End}
use Rattle.rtrb.specs.Ring.{sent, received, known_items, known_free, producer_capacity}
use Rattle.channel_ends.specs.Rings.{RingName}
use Rattle.request_ends.specs.declared.replying.ReplyEnd.TheInside as put
use Rattle.request_ends.specs.declared.replying.ReplySide.TheInside as taken
use Rattle.request_ends.specs.Replying.{Replying, ReplyRing, response_of}

abbrev pub ring_of : {T A P : Type 0} → End T A P → RingName
ring_of e = record { words = e.words; slots = e.slots; names = e.names }

abbrev pub replying_of : put.Inside → Replying
replying_of it = record { ring = ring_of it.ring.end; replies = map response_of (sent it.ring); free = known_free it.ring }

-- it has sixteen places
abbrev pub HasPlaces : put.Inside → Type 0
HasPlaces it = producer_capacity it.ring ≡ 16

abbrev pub side_of : taken.Inside → ReplyRing
side_of it = record { ring = ring_of it.ring.end; taken = received it.ring; items = known_items it.ring }

-- The end of a core's requests, from its fields.
use Rattle.std.specs.Prelude.{◌≡◌, ◌<◌, length, true}
use Rattle.channel_ends.specs.Sending.{has_room}
use Rattle.end_ports.specs.declared.ask_at.AskAt.TheInside.{Inside}
use Rattle.end_ports.specs.Held.{AskingAt}

abbrev pub asking_at_of : Inside → AskingAt
asking_at_of it = record { link = it.link; end = it.end; polls = it.polls; tries = it.tries; settled = it.settled }

-- each request has what it carries, and what was heard of it; and after a settling one more has a slot and a place
pub record IsAskingAt (it : Inside) : Type 0 where
  pub carries : length it.end.send.payloads ≡ length it.end.send.notes.offers
  pub hears : length it.end.send.notes.heard ≡ length it.end.send.notes.offers
  pub ready : it.settled ≡ true → has_room it.end.send.notes ≡ true → (0 < it.end.send.free) × (0 < it.end.places)

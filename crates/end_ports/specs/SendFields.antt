-- An end on which a core sends, from its fields.
use Rattle.std.specs.Prelude.{◌≡◌, length}
use Rattle.end_ports.specs.declared.send_at.SendAt.TheInside.{Inside}
use Rattle.end_ports.specs.Held.{SendingAt}

abbrev pub sending_at_of : Inside → SendingAt
sending_at_of it = record { link = it.link; end = it.end; polls = it.polls; tries = it.tries }

-- each offer has what it carries, and what was heard of it
pub record IsSendingAt (it : Inside) : Type 0 where
  pub carries : length it.end.payloads ≡ length it.end.notes.offers
  pub hears : length it.end.notes.heard ≡ length it.end.notes.offers

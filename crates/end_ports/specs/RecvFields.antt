-- An end on which a core receives, from its fields.
use Rattle.std.specs.Prelude.{◌≡◌, ◌+◌, ◌≤◌, length}
use Rattle.end_ports.specs.declared.recv_at.RecvAt.TheInside.{Inside}
use Rattle.end_ports.specs.Held.{ReceivingAt}

abbrev pub receiving_at_of : Inside → ReceivingAt
receiving_at_of it = record { link = it.link; end = it.end; polls = it.polls }

-- one item was taken for each decision, and of the offers that a settling told of each that is not decided is known to be in the ring
pub record IsReceivingAt (it : Inside) : Type 0 where
  pub one_each : length it.end.popped ≡ length it.end.peer.decisions
  pub known : it.end.peer.told_offers ≤ length it.end.peer.decisions + length it.end.items

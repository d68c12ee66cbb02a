-- The ports of a core, from their fields.
use Rattle.end_ports.specs.declared.ports.CorePorts.TheInside.{Inside}
use Rattle.end_ports.specs.Held.{Held}

abbrev pub held_of : Inside → Held
held_of it = record { sends = it.ends.sends; recvs = it.ends.recvs; ask = it.ends.ask; full = it.full }

use Rattle.std.proofs.Common.{ap, subst}
use Rattle.channel_ends.specs.Sending.{OwnerNotes}
use Rattle.end_ports.specs.Held.{Held}
use Rattle.end_ports.specs.SettledLinks.{SettlesRequests}
use Rattle.end_ports.specs.PortFields.{held_of}
use Rattle.end_ports.proofs.Pairing.{settles_requests}
use Rattle.end_ports.proofs.ports.CorePorts.settle_requests.Goals as goal

pub returns-clause-ports : goal.returns-clause-ports
returns-clause-ports c =
    let h = held_of c.self.inside in
    let e = c.settle.ensures in
    subst (λ (v : Held). SettlesRequests v (record h { ask = c.settle.new.self })) c.self.view_is
    (settles_requests h c.settle.new.self (record { link = e.calls.0; end = e.same }) (ap (λ (v : OwnerNotes). v.table) e.send.notes) e.list e.calls.1 e.calls.2 e.heard)

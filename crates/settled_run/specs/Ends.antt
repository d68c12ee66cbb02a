-- The two ends of each link of a run, where each party holds its own.
use Rattle.std.specs.Prelude.{ℕ, List, [], length, if◌then◌else◌, nat_le}
use Rattle.stack_code.specs.Parts.{Parts}
use Rattle.ac_links.specs.Views.{PeerDecision}
use Rattle.ac_links.specs.Party.{LinkEnd}
use Rattle.ac_links.specs.Party.LinkEnd.{Owns, Decides, Absent}
use Rattle.core_ports.specs.PortsTold.{PortsTold}
use Rattle.core_ports.specs.declared.side.Side.{Side}
use Rattle.core_ports.specs.declared.side.Side.TheVariants.{Owner, Peer, Neither}
use Rattle.core_ports.specs.Sides.{side_of}
use Rattle.core_ports.specs.Ends.{greatest, last_stamp_of}
use Rattle.program_run.specs.Parties.{owner_of, peer_of}

-- what a party has decided on the link
abbrev pub decisions_of : LinkEnd → List PeerDecision
decisions_of (Owns os) = []
decisions_of (Decides ds) = ds
decisions_of Absent = []

-- the greatest stamp of what was offered, withdrawn or decided at an end
abbrev pub greatest_at : LinkEnd → ℕ
greatest_at (Owns os) = greatest last_stamp_of os
greatest_at (Decides ds) = greatest (λ (d : PeerDecision). d.stamp) ds
greatest_at Absent = 0

-- the end of link l that its sending core tells
abbrev pub owner_end : Parts → (ℕ → PortsTold) → ℕ → LinkEnd
owner_end code ports l = (ports (owner_of code.ends l)).ends l

-- the other end: after the channels that of the worker, and before that of the receiving core
abbrev pub peer_end : Parts → (ℕ → PortsTold) → (ℕ → LinkEnd) → ℕ → LinkEnd
peer_end code ports worker l =
    if nat_le (length code.ends) l then worker l else (ports (peer_of code.ends (length code.entries) l)).ends l

-- of two ends the one that is not this side's
abbrev pub facing : Side → LinkEnd → LinkEnd → LinkEnd
facing Owner owner peer = peer
facing Peer owner peer = owner
facing Neither owner peer = Absent

-- on each link of a core the end of the other party
abbrev pub other_ends : Parts → (ℕ → PortsTold) → (ℕ → LinkEnd) → ℕ → ℕ → LinkEnd
other_ends code ports worker core l = facing (side_of code.ends core l) (owner_end code ports l) (peer_end code ports worker l)

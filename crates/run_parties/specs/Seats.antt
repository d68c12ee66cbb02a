-- What contracts see of the parties of a run: a core with its ports, and what the worker has of one link.
use Rattle.std.specs.Prelude.{ℕ, ◌-◌, List, [], length, Option, Some, None, false, true, nat_lt, nat_le, slice_get, if◌then◌else◌}
use Rattle.ac_base.specs.declared.entry.Payload.{Payload}
use Rattle.completion_word.specs.Steps.{stamp_seen}
use Rattle.core_driver.specs.Driven.{Driven}
use Rattle.core_ports.specs.PortsTold.{PortsTold}
use Rattle.run_laws.specs.Cores.{CoreView}
use Rattle.run_laws.specs.Seen.{view_of}
use Rattle.end_ports.specs.Held.{Held}
use Rattle.end_ports.specs.OnLinks.{OnLink, not_held}
use Rattle.end_ports.specs.PortsTold.{told_of}
use Rattle.file_worker.specs.Ends.{CoreEnds, AtDesk, end_of}

-- a core with the ends of its links
pub record CoreSeat : Type 0 where
  pub driven : Driven
  pub ports : Held

abbrev pub core_of : CoreSeat → CoreView
core_of s = view_of s.driven

abbrev pub ports_of : CoreSeat → PortsTold
ports_of s = told_of s.ports

-- the worker's end of the link of a core: a request is at hand where the last settling told of more than are decided
abbrev pub on_request : CoreEnds → OnLink
on_request e = record {
  terms = record { capacity = e.ask.table.words; requests = true };
  end = end_of e;
  hand = record { decision = false; front = nat_lt (length e.ask.peer.decisions) e.ask.peer.told_offers; reply = false; slot = false };
  heard = stamp_seen e.ask.peer.look;
  polls = 0;
  tries = 0;
}

abbrev pub or_not_held : Option CoreEnds → OnLink
or_not_held None = not_held
or_not_held (Some e) = on_request e

-- what it has of link l
abbrev pub on_desk : AtDesk → ℕ → OnLink
on_desk w l = if nat_le w.first l then or_not_held (slice_get w.ends (l - w.first)) else not_held

-- the requests of link l that it has taken, the first one first
abbrev pub popped_by : Option CoreEnds → List Payload
popped_by None = []
popped_by (Some e) = e.ask.popped

abbrev pub popped_at : AtDesk → ℕ → List Payload
popped_at w l = if nat_le w.first l then popped_by (slice_get w.ends (l - w.first)) else []

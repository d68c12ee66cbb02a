-- A core with its ports, from its fields.
use Rattle.std.specs.Prelude.{◌≡◌, true}
use Rattle.ac_links.specs.Party.{PartyAgrees}
use Rattle.code_safety.specs.KeptEnds.{KeepsEnds}
use Rattle.core_driver.specs.Sides.{ArePortsOf}
use Rattle.run_laws.specs.Cores.{HasNoStamp}
use Rattle.run_parties.specs.declared.core_party.CoreParty.TheInside.{Inside}
use Rattle.run_parties.specs.Seats.{CoreSeat, core_of, ports_of}

abbrev pub seat_of : Inside → CoreSeat
seat_of it = record { driven = it.driver; ports = it.ports }

-- the ports are those of the core and agree with its journal; and where all stamps are used none is left after one that was heard
pub record HasItsPorts (s : CoreSeat) : Type 0 where
  pub ports : ArePortsOf s.driven.machine.code s.driven.machine.core (ports_of s).terms (ports_of s).ends
  pub agrees : PartyAgrees (ports_of s).terms s.driven.machine.core (ports_of s).ends s.driven.machine.journal
  pub keeps : KeepsEnds s.driven.machine.code
  pub full : s.driven.full ≡ true → HasNoStamp (core_of s) (ports_of s).heard

abbrev pub IsSeated : Inside → Type 0
IsSeated it = HasItsPorts (seat_of it)

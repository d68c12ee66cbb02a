-- When a party has done its part of a round.
use Rattle.std.specs.Prelude.{◌≡◌, ◌⊎◌, ◌+◌, ◌≤◌, ℕ, true}
use Rattle.ac_links.specs.Journals.{last_of}
use Rattle.core_driver.specs.Idle.{RoseBy}
use Rattle.core_machine.specs.Machine.{has_ended}
use Rattle.core_ports.specs.declared.side.Side.TheVariants.{Neither}
use Rattle.core_ports.specs.Sides.{side_of}
use Rattle.file_worker.specs.Ends.{CoreEnds, AtDesk, AtEach, AtOne}
use Rattle.file_worker.specs.Rounds.{LacksStamp}
use Rattle.file_worker.specs.Workers.{desk_of}
use Rattle.run_parties.specs.declared.run_party.RunParty.{RunParty}
use Rattle.run_parties.specs.declared.run_party.RunParty.TheVariants.{Core, Disk}
use Rattle.run_parties.specs.Seats.{CoreSeat, ports_of}

-- ---- a core

-- it has ended, or no stamp is left to it
abbrev pub IsOver : CoreSeat → Type 0
IsOver s = (has_ended s.driven.machine.state ≡ true) ⊎ (s.driven.full ≡ true)

-- each of its links was polled so often
abbrev pub HavePolled : ℕ → CoreSeat → CoreSeat → Type 0
HavePolled times old new = (l : ℕ) → (side_of new.driven.machine.code.ends new.driven.machine.core l ≡ Neither → ⊥)
    → RoseBy times ((ports_of old).polls l) ((ports_of new).polls l)

abbrev pub SeatWorked : ℕ → CoreSeat → CoreSeat → Type 0
SeatWorked times old new = IsOver new ⊎ HavePolled times old new

-- ---- the worker

-- it has looked so often for a request of this core
abbrev pub HasLookedFor : ℕ → CoreEnds → CoreEnds → Type 0
HasLookedFor times old new = old.ask.peer.looks + times ≤ new.ask.peer.looks

-- it has looked so often for one of each core, or no stamp is left to it
abbrev pub DeskWorked : ℕ → AtDesk → AtDesk → Type 0
DeskWorked times old new = AtEach (HasLookedFor times) old.ends new.ends
    ⊎ AtOne (LacksStamp (last_of 0 new.entries)) old.ends new.ends

module _ {D : Type 0} where
  abbrev pub PartyWorked : RunParty D → RunParty D → Type 0
  PartyWorked (Core s) (Core t) = SeatWorked 10000 s t
  PartyWorked (Core s) (Disk w) = ⊥
  PartyWorked (Disk v) (Core t) = ⊥
  PartyWorked (Disk v) (Disk w) = DeskWorked 10000 (desk_of v) (desk_of w)

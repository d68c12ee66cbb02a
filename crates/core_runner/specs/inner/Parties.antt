-- The parties of a run before its first step, and the ways between them.
use Rattle.std.specs.Prelude.{◌≡◌, ℕ, ◌+◌, List, [], ◌∷◌, length, Some, slice_get}
use Rattle.stack_code.specs.declared.parts.ChannelEnds.{ChannelEnds}
use Rattle.stack_code.specs.Parts.{Parts}
use Rattle.end_ports.specs.Held.{Held}
use Rattle.program_run.specs.Parties.{owner_of, peer_of}
use Rattle.run_laws.specs.Cores.{IsCoreOf}
use Rattle.run_parties.specs.declared.run_party.RunParty.{RunParty}
use Rattle.run_parties.specs.declared.run_party.RunParty.TheVariants.{Core, Disk}
use Rattle.run_parties.specs.Seats.{CoreSeat, core_of}
use Rattle.settled_rounds.specs.declared.party.Way.{Way}

-- this way goes from the core that sends on link l to the party that receives
pub record IsWayAt (channels : List ChannelEnds) (cores l : ℕ) (w : Way) : Type 0 where
  pub from : w.from ≡ owner_of channels l
  pub to : w.to ≡ peer_of channels cores l

-- there is one for each link
pub record AreWaysOf (channels : List ChannelEnds) (cores : ℕ) (ways : List Way) : Type 0 where
  pub count : length ways ≡ length channels + cores
  pub each : (l : ℕ) (w : Way) → slice_get ways l ≡ Some w → IsWayAt channels cores l w

-- core k of the code, which has made no entry, with these ports
pub record IsNewCore (code : Parts) (bound k : ℕ) (h : Held) (s : CoreSeat) : Type 0 where
  pub core : IsCoreOf code bound k (core_of s)
  pub journal : s.driven.machine.journal ≡ []
  pub ports : s.ports ≡ h

module _ {D : Type 0} where
  -- at each place the core of that number, with the ports that stand there
  pub record AreNewCores (code : Parts) (bound : ℕ) (ports : List Held) (parties : List (RunParty D)) : Type 0 where
    pub count : length parties ≡ length ports
    pub each : (k : ℕ) (h : Held) → slice_get ports k ≡ Some h
        → (s : CoreSeat) × (slice_get parties k ≡ Some (Core s)) × IsNewCore code bound k h s

  -- the cores among parties
  abbrev pub seats_in : List (RunParty D) → List CoreSeat
  seats_in [] = []
  seats_in (Core s ∷ ps) = s ∷ seats_in ps
  seats_in (Disk w ∷ ps) = seats_in ps

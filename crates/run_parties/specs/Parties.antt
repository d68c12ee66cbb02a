-- What is so of the parties of a run: each is a core with its ports, or the worker.
use Rattle.std.specs.Prelude.{◌≡◌, ℕ, ◌+◌, ◌<◌, length, IsTrue, true, false}
use mathlib.Core.List.{IsPrefix}
use Rattle.ac_links.specs.Journals.{last_of}
use Rattle.ac_outside.specs.Disks.{DiskTold}
use Rattle.end_ports.specs.OnLinks.{on_link}
use Rattle.end_ports.specs.SettledLinks.{HavePair}
use Rattle.file_worker.specs.Ends.{AtDesk}
use Rattle.file_worker.specs.Rounds.{GoesOn}
use Rattle.file_worker.specs.Settling.{MaySettle}
use Rattle.file_worker.specs.Workers.{desk_of, loan_of, seen_of, told_of}
use Rattle.settled_run.specs.Disk.{payloads_at}
use Rattle.settled_run.specs.Parties.{CanGoNoFurther}
use Rattle.run_parties.specs.declared.run_party.RunParty.{RunParty}
use Rattle.run_parties.specs.declared.run_party.RunParty.TheVariants.{Core, Disk}
use Rattle.run_parties.specs.Seats.{CoreSeat, core_of, ports_of, on_desk, popped_at}
use Rattle.run_parties.specs.Settling.{IsKnownOn, IsSettledOn}
use Rattle.run_parties.specs.Moving.{IsLaterSeat, SeatStays, SeatButAt, DeskStays, DeskButAt, DeskStops}

-- link l is that of the core's requests, and the ends that the worker has for this core are of the same words and rings
pub record HasRequests (l : ℕ) (s : CoreSeat) (w : AtDesk) : Type 0 where
  pub asked : s.ports.ask.link ≡ l
  pub link : w.first + s.driven.machine.core ≡ l
  pub core : s.driven.machine.core < length w.ends
  pub pair : MaySettle s.driven.machine.core w s.ports.ask.end

module _ {D : Type 0} where
  -- the stamp of its last entry
  abbrev pub clock_of : RunParty D → ℕ
  clock_of (Core s) = last_of 0 s.driven.machine.journal
  clock_of (Disk w) = last_of 0 (desk_of w).entries

  -- it is the same party after some calls; the worker's disk is the one that was lent
  abbrev pub IsLaterParty : (D → DiskTold) → RunParty D → RunParty D → Type 0
  IsLaterParty told (Core s) (Core t) = IsLaterSeat s t
  IsLaterParty told (Core s) (Disk w) = ⊥
  IsLaterParty told (Disk v) (Core t) = ⊥
  IsLaterParty told (Disk v) (Disk w) = GoesOn (seen_of told v) (seen_of told w) × (loan_of w ≡ loan_of v)

  -- the worker goes on where its disk may be called
  abbrev pub MayGoOn : (D → DiskTold) → RunParty D → Type 0
  MayGoOn told (Core s) = Unit {0}
  MayGoOn told (Disk w) = IsTrue (told_of told w).is_ready

  -- ---- two parties, of which the first sends on link l

  -- they have the two ends of it
  abbrev pub HaveEnds : ℕ → RunParty D → RunParty D → Type 0
  HaveEnds l (Core s) (Core t) = HavePair s.ports t.ports l
  HaveEnds l (Core s) (Disk w) = HasRequests l s (desk_of w)
  HaveEnds l (Disk v) q = ⊥

  -- all that there is is at hand
  abbrev pub AreKnownAt : ℕ → RunParty D → RunParty D → Type 0
  AreKnownAt l (Core s) (Core t) = IsKnownOn false (on_link s.ports l) (on_link t.ports l)
  AreKnownAt l (Core s) (Disk w) = IsKnownOn true (on_link s.ports l) (on_desk (desk_of w) l)
  AreKnownAt l (Disk v) q = ⊥

  -- and each stamp that was heard of is one of the other's; and what the worker has taken are the first requests, in order
  abbrev pub AreSettledAt : ℕ → RunParty D → RunParty D → Type 0
  AreSettledAt l (Core s) (Core t) = IsSettledOn false (on_link s.ports l) (on_link t.ports l)
  AreSettledAt l (Core s) (Disk w) = IsSettledOn true (on_link s.ports l) (on_desk (desk_of w) l)
      × IsPrefix (popped_at (desk_of w) l) (payloads_at (on_link s.ports l).end)
  AreSettledAt l (Disk v) q = ⊥

  -- ---- one party

  -- its ends and what is at hand are as they were
  abbrev pub PartyStays : RunParty D → RunParty D → Type 0
  PartyStays (Core s) (Core t) = SeatStays s t
  PartyStays (Core s) (Disk w) = ⊥
  PartyStays (Disk v) (Core t) = ⊥
  PartyStays (Disk v) (Disk w) = DeskStays (desk_of v) (desk_of w)

  -- all is as it was but what is at hand on link l
  abbrev pub PartyButAt : ℕ → RunParty D → RunParty D → Type 0
  PartyButAt l (Core s) (Core t) = SeatButAt l s t
  PartyButAt l (Core s) (Disk w) = ⊥
  PartyButAt l (Disk v) (Core t) = ⊥
  PartyButAt l (Disk v) (Disk w) = DeskButAt l (desk_of v) (desk_of w)

  -- it can go no further
  abbrev pub PartyStops : RunParty D → Type 0
  PartyStops (Core s) = CanGoNoFurther (core_of s) (ports_of s)
  PartyStops (Disk w) = DeskStops (desk_of w)

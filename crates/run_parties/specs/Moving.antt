-- What a core and the worker are after some calls, and what settling leaves of them.
use Rattle.std.specs.Prelude.{◌≡◌, ◌⊎◌, ℕ, None, false}
use Rattle.ac_base.specs.Stamps.{stamp_after}
use Rattle.ac_links.specs.Journals.{last_of}
use Rattle.core_driver.specs.Idle.{IsLater}
use Rattle.end_ports.specs.OnLinks.{on_link}
use Rattle.end_ports.specs.PortsTold.{Stays}
use Rattle.file_worker.specs.Ends.{AtDesk}
use Rattle.run_parties.specs.Seats.{CoreSeat, on_desk, popped_at}
use Rattle.run_parties.specs.Settling.{StaysOn, IsQuietOn}

-- ---- a core

-- after some calls
pub record IsLaterSeat (old new : CoreSeat) : Type 0 where
  pub machine : IsLater old.driven.machine new.driven.machine
  pub ports : Stays old.ports new.ports

-- on each link all is as it was
abbrev pub SeatStays : CoreSeat → CoreSeat → Type 0
SeatStays old new = (l : ℕ) → StaysOn (on_link old.ports l) (on_link new.ports l)

-- all is as it was but what is at hand on link k
pub record SeatButAt (k : ℕ) (old new : CoreSeat) : Type 0 where
  pub driven : new.driven ≡ old.driven
  pub here : IsQuietOn (on_link old.ports k) (on_link new.ports k)
  pub others : (l : ℕ) → (l ≡ k → ⊥) → on_link new.ports l ≡ on_link old.ports l

-- ---- the worker

abbrev pub DeskStays : AtDesk → AtDesk → Type 0
DeskStays old new = (l : ℕ) → StaysOn (on_desk old l) (on_desk new l)

pub record DeskButAt (k : ℕ) (old new : AtDesk) : Type 0 where
  pub entries : new.entries ≡ old.entries
  pub popped : (l : ℕ) → popped_at new l ≡ popped_at old l
  pub here : IsQuietOn (on_desk old k) (on_desk new k)
  pub others : (l : ℕ) → (l ≡ k → ⊥) → on_desk new l ≡ on_desk old l

-- each request that a settling told of is decided, or no stamp is left after one that was seen
abbrev pub DeskStops : AtDesk → Type 0
DeskStops w = ((l : ℕ) → (on_desk w l).hand.front ≡ false)
    ⊎ ((l : ℕ) × (stamp_after (last_of 0 w.entries) (on_desk w l).heard ≡ None))

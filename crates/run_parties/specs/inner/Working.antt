-- What the worker says of a round, where it stands after some, and where a party stands in its part of a round.
use Rattle.std.specs.Prelude.{◌≡◌, ◌⊎◌, ◌<◌, ◌≤◌, ℕ, Bool, true, false}
use Rattle.ac_links.specs.Journals.{last_of}
use Rattle.file_worker.specs.declared.turns.Round.{Round}
use Rattle.file_worker.specs.declared.turns.Round.TheVariants.{Did, Quiet, NotYet, ClockFull}
use Rattle.file_worker.specs.Agreement.{Seen}
use Rattle.file_worker.specs.Ends.{AtEach}
use Rattle.file_worker.specs.Rounds.{GoesOn}
use Rattle.run_parties.specs.Seats.{CoreSeat}
use Rattle.run_parties.specs.Moving.{IsLaterSeat}
use Rattle.run_parties.specs.Working.{HavePolled, IsOver, HasLookedFor}

-- whether it made an entry
abbrev pub has_done : Round → Bool
has_done Did = true
has_done Quiet = false
has_done NotYet = false
has_done ClockFull = false

-- after rounds of which each made an entry: a stamp was used, or there was none and all at the desk is as it was
pub record HasWorked (s t : Seen) : Type 0 where
  pub goes_on : GoesOn s t
  pub moved : (last_of 0 s.desk.entries < last_of 0 t.desk.entries) ⊎ (t.desk ≡ s.desk)

-- ---- in its part of a round

-- a core that has made so many calls in vain since its last entry, by the last of which its part may be over
pub record IsTrying (in_vain : ℕ) (is_over : Bool) (s t : CoreSeat) : Type 0 where
  pub later : IsLaterSeat s t
  pub clock : last_of 0 s.driven.machine.journal ≤ last_of 0 t.driven.machine.journal
  pub few : in_vain ≤ 10000
  pub polled : is_over ≡ false → HavePolled in_vain s t
  pub over : is_over ≡ true → IsOver t

-- a worker that has done so many rounds in vain since its last entry
pub record IsLooking (in_vain : ℕ) (s t : Seen) : Type 0 where
  pub goes_on : GoesOn s t
  pub few : in_vain ≤ 10000
  pub looked : AtEach (HasLookedFor in_vain) s.desk.ends t.desk.ends

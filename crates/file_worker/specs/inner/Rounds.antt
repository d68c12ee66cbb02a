-- How far a round has come.
use Rattle.std.specs.Prelude.{◌≡◌, ◌≤◌, ◌<◌, ℕ, ◌+◌, List, [], ◌∷◌, ◌++◌, length, Some, slice_get, slice_set, IsTrue}
use Rattle.ac_base.specs.declared.entry.Entry.{Entry}
use Rattle.ac_links.specs.Journals.{last_of}
use Rattle.ac_outside.specs.Disks.{DiskTold}
use Rattle.file_worker.specs.declared.turns.Round.{Round}
use Rattle.file_worker.specs.declared.turns.Round.TheVariants.{Did, Quiet, NotYet, ClockFull}
use Rattle.file_worker.specs.declared.turns.Turned.TheVariants as turned
use Rattle.file_worker.specs.Ends.{CoreEnds, AtDesk}
use Rattle.file_worker.specs.Agreement.{Seen}
use Rattle.file_worker.specs.Rounds.{GoesOn, LooksOnce, SawNothing, LacksRoom, LacksStamp, Waits, Stops, Rests}
use Rattle.file_worker.specs.inner.Turns.{Turns}

abbrev pub seen : AtDesk → DiskTold → Seen
seen desk told = record { desk = desk; told = told }

-- what is said of two parts of a round: the first of these that one of them says
abbrev pub joined : Round → Round → Round
joined Quiet b = b
joined NotYet Quiet = NotYet
joined NotYet NotYet = NotYet
joined NotYet ClockFull = ClockFull
joined NotYet Did = Did
joined ClockFull Quiet = ClockFull
joined ClockFull NotYet = ClockFull
joined ClockFull ClockFull = ClockFull
joined ClockFull Did = Did
joined Did b = Did

-- ---- one core

-- what a core's turn makes of its own ends and of the journal, by what it says
abbrev pub TurnsBy : Round → ℕ → Seen → CoreEnds → CoreEnds → Seen → Type 0
TurnsBy Did l s a b t = (e : Entry) × (t.desk.entries ≡ s.desk.entries ++ e ∷ [])
    × Turns l (last_of 0 s.desk.entries) a s.told (turned.Made e) b t.told
TurnsBy Quiet l s a b t = (t.desk.entries ≡ s.desk.entries) × Turns l (last_of 0 s.desk.entries) a s.told turned.Nothing b t.told
TurnsBy NotYet l s a b t = (t.desk.entries ≡ s.desk.entries) × Turns l (last_of 0 s.desk.entries) a s.told turned.NotYet b t.told
TurnsBy ClockFull l s a b t = (t.desk.entries ≡ s.desk.entries) × Turns l (last_of 0 s.desk.entries) a s.told turned.ClockFull b t.told

-- only the ends of this core change
pub record TurnsAt (core : ℕ) (s : Seen) (r : Round) (t : Seen) : Type 0 where
  pub before : CoreEnds
  pub after : CoreEnds
  pub was : slice_get s.desk.ends core ≡ Some before
  pub is : t.desk.ends ≡ slice_set s.desk.ends core after
  pub first : t.desk.first ≡ s.desk.first
  pub one_each : length before.ask.popped ≡ length before.ask.peer.decisions
  pub turns : TurnsBy r (s.desk.first + core) s before after t

-- ---- the cores below n

-- each of them, or one
abbrev pub AtBelow : ℕ → (CoreEnds → CoreEnds → Type 0) → List CoreEnds → List CoreEnds → Type 0
AtBelow n R before after = (c : ℕ) (a b : CoreEnds) → c < n → slice_get before c ≡ Some a → slice_get after c ≡ Some b → R a b

pub record OneBelow (n : ℕ) (R : CoreEnds → CoreEnds → Type 0) (before after : List CoreEnds) : Type 0 where
  pub core : ℕ
  pub below : core < n
  pub old : CoreEnds
  pub new : CoreEnds
  pub before' : slice_get before core ≡ Some old
  pub after' : slice_get after core ≡ Some new
  pub holds : R old new

pub record NoneBelow (n : ℕ) (s t : Seen) : Type 0 where
  pub entries : t.desk.entries ≡ s.desk.entries
  pub told : t.told ≡ s.told
  pub rests : AtBelow n Rests s.desk.ends t.desk.ends

abbrev pub SaysBelow : ℕ → Round → Seen → Seen → Type 0
SaysBelow n Did s t = length s.desk.entries < length t.desk.entries
SaysBelow n Quiet s t = NoneBelow n s t × AtBelow n SawNothing s.desk.ends t.desk.ends
SaysBelow n NotYet s t = NoneBelow n s t × AtBelow n Waits s.desk.ends t.desk.ends × OneBelow n LacksRoom s.desk.ends t.desk.ends
SaysBelow n ClockFull s t = NoneBelow n s t × AtBelow n (Stops (last_of 0 s.desk.entries)) s.desk.ends t.desk.ends
    × OneBelow n (LacksStamp (last_of 0 s.desk.entries)) s.desk.ends t.desk.ends

-- they have had their turn, and the others not yet
pub record HaveTurned (n : ℕ) (s t : Seen) (found : Round) : Type 0 where
  pub goes : GoesOn s t
  pub says : SaysBelow n found s t
  pub looked : AtBelow n LooksOnce s.desk.ends t.desk.ends
  pub others : (c : ℕ) → n ≤ c → slice_get t.desk.ends c ≡ slice_get s.desk.ends c
  pub ready : IsTrue t.told.is_ready

-- What becomes of an entry of a journal that is given.
use Rattle.std.specs.Prelude.{◌≡◌, ℕ, ◌≤◌, [], ◌∷◌, ◌++◌, Bool, true, false, Some, None, ◌||◌, is_some}
use Rattle.ac_base.specs.declared.entry.Entry.{Entry}
use Rattle.ac_base.specs.declared.entry.Event.{Event}
use Rattle.core_state.specs.Arrivals.{arrives}
use Rattle.core_state.specs.Moves.{Move, On}
use Rattle.stack_code.specs.Parts.{Parts}
use Rattle.code_meaning.specs.Machine.{Flat, FlatEnd}
use Rattle.core_machine.specs.Machine.{Machine, has_stopped, is_idle}
use Rattle.core_machine.specs.Points.{HasCome, IsOfTurn, is_at_point}
use Rattle.core_machine.specs.Tried.{tried_of}
use Rattle.replay_laws.specs.Given.{HasComeTo, HasRun, passes_first}
use Rattle.core_replay.specs.Standing.{StandsAt}
use Rattle.core_replay.specs.declared.prospects.Prospect.{Prospect}
use Rattle.core_replay.specs.declared.prospects.Prospect.TheVariants.{Asks, Here, Never, Later}

-- ---- an entry

-- it has not ended, all of its journal has come in, and it is not past this turn
pub record Awaits (m : Machine) (turn : ℕ) : Type 0 where
  pub flat : Flat
  pub is : m.state ≡ On flat
  pub come : HasComeTo m.code m.core m.bound m.journal flat
  pub le : flat.shared.turn ≤ turn

-- What comes next of an entry of this turn, where the machine is not past it: it asks for an outcome, is at a dispatch point of the
-- turn, is idle in another one, or goes on, and no such entry comes in before
abbrev pub IsProspect : Machine → ℕ → Prospect → Type 0
IsProspect m turn (Asks tried) = tried_of m.code m.state ≡ Some tried
IsProspect m turn Here = (is_at_point m.state ≡ true) × IsOfTurn m turn
IsProspect m turn Never = (is_idle m.state ≡ true) × (passes_first m.code turn m.state ≡ true)
IsProspect m turn Later = (is_idle m.state ≡ false) × (tried_of m.code m.state ≡ None) × (passes_first m.code turn m.state ≡ true)

-- the event has come in at the point at which the machine stands, or it does not fit there, and then all is as before
pub record ComesIn (before : Machine) (event : Event) (stamp : ℕ) (came : Bool) (after : Machine) : Type 0 where
  pub has_come : came ≡ true → HasCome before event stamp after
  pub stays : came ≡ false → after ≡ before
  pub misfit : came ≡ false → (flat : Flat) → before.state ≡ On flat → arrives before.journal flat.store flat.operations event ≡ None

-- all but the entries stays
pub record IsSameOne (before after : Machine) : Type 0 where
  pub code : after.code ≡ before.code
  pub core : after.core ≡ before.core
  pub bound : after.bound ≡ before.bound

-- the entry has come in, and the machine has gone no further; or no run goes on with it
pub record Takes (before : Machine) (e : Entry) (took : Bool) (after : Machine) : Type 0 where
  pub entered : took ≡ true → after.journal ≡ before.journal ++ e ∷ []
  pub stands : took ≡ true → StandsAt after after.state
  pub stays : took ≡ false → after.journal ≡ before.journal
  pub misfit : took ≡ false → HasRun before.code before.core before.bound (before.journal ++ e ∷ []) → ⊥

-- ---- the end

-- with no entry to come it goes no further
abbrev pub has_rested : Parts → Move Flat FlatEnd → Bool
has_rested code state = has_stopped state || is_some (tried_of code state)

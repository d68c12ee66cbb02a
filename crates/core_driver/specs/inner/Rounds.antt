-- What holds while a core runs and looks at its links.
use Rattle.std.specs.Prelude.{◌≡◌, ℕ, ◌+◌, ◌-◌, ◌*◌, ◌^◌, ◌<◌, List, Bool, true, false}
use Rattle.core_machine.specs.Machine.{Machine, has_ended, is_idle}
use Rattle.core_machine.specs.Points.{work_left}
use Rattle.core_driver.specs.declared.seen.Seen.{Seen}
use Rattle.core_driver.specs.declared.seen.Seen.TheVariants.{WentOn, Nothing, Full}
use Rattle.core_driver.specs.inner.InStep.{IsLookedAt}
use Rattle.core_driver.specs.inner.Outside.{IsFull, Outside}
use Rattle.core_driver.specs.Sides.{links_of}

-- what is left to do, and the stamps that are left
abbrev pub left_over : List ℕ → Machine → ℕ → ℕ
left_over ranks m last = work_left ranks m + (2 ^ 60 - last)

-- and the dispatch points that may still bring nothing
abbrev pub left_with : List ℕ → ℕ → Machine → ℕ → ℕ → ℕ
left_with ranks polls m last quiet = left_over ranks m last * (polls + 1) + (polls - quiet)

-- a dispatch point of an idle core that brought nothing
pub record RestsOnce (m : Machine) (o : Outside) (n : Machine) (p : Outside) : Type 0 where
  pub idle : is_idle n.state ≡ true
  pub state : n.state ≡ m.state
  pub clock : p.last ≡ o.last
  pub looked : (l : ℕ) → l < links_of n.code → IsLookedAt o n p l

-- all stamps are used, and the core has not ended
pub record StopsFull (n : Machine) (p : Outside) : Type 0 where
  pub going : has_ended n.state ≡ false
  pub full : IsFull p

-- what has come of a part of a run
abbrev pub Came : List ℕ → Seen → Machine → Outside → Machine → Outside → Type 0
Came ranks WentOn m o n p = left_over ranks n p.last < left_over ranks m o.last
Came ranks Nothing m o n p = RestsOnce m o n p
Came ranks Full m o n p = StopsFull n p

-- a call has answered that all stamps are used
abbrev pub is_seen_full : Seen → Bool
is_seen_full Full = true
is_seen_full _ = false

-- What contracts see of a driver.
use Rattle.std.specs.Prelude.{◌≡◌, ℕ, Bool, true, false}
use Rattle.ac_links.specs.Journals.{last_of}
use Rattle.core_machine.specs.Machine.{Machine, IsOnItsWay, has_ended}

-- its core, and whether it has found that all stamps are used
pub record Driven : Type 0 where
  pub machine : Machine
  pub full : Bool

-- the clock has the last stamp of the core's journal
pub record IsDriven (machine : Machine) (last : ℕ) (full : Bool) : Type 0 where
  pub clock : last ≡ last_of 0 machine.journal
  pub run : IsOnItsWay machine
  pub going : full ≡ true → has_ended machine.state ≡ false

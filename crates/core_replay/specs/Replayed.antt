-- A core under a journal that is given.
use Rattle.std.specs.Prelude.{◌≡◌, ℕ, List, Bool}
use Rattle.ac_base.specs.declared.entry.Entry.{Entry}
use Rattle.stack_code.specs.Parts.{Parts}

-- which core of which code, with this bound on its steps, the entries that it has taken so far, and whether it took each that it was given
pub record Replayed : Type 0 where
  pub code : Parts
  pub core : ℕ
  pub bound : ℕ
  pub journal : List Entry
  pub took_all : Bool

-- all but the entries stays
pub record IsSameCore (before after : Replayed) : Type 0 where
  pub code : after.code ≡ before.code
  pub core : after.core ≡ before.core
  pub bound : after.bound ≡ before.bound

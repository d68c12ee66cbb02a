-- What contracts see of a disk over files.
use Rattle.std.specs.Prelude.{ℕ, Bool, List}
use Rattle.std.specs.declared.option.Option.{Option}

-- the number of bound files, whether memory was given at every bind, the paths that were to be bound, and the count of faults, now and as
-- the latest call began
pub record Binding : Type 0 where
  pub bound : ℕ
  pub is_ready : Bool
  pub binds : Option (List (List ℕ))
  pub faults : ℕ
  pub earlier : ℕ

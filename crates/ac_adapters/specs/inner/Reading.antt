-- What contracts see of a library over files.
use Rattle.std.specs.Prelude.{ℕ, Bool, List}
use Rattle.std.specs.declared.option.Option.{Option}

-- whether a file is open, what is left of it where its reader tells that, and the count of faults
pub record Reading : Type 0 where
  pub is_open : Bool
  pub left : Option (List ℕ)
  pub faults : ℕ

-- What contracts see of the operations of a core.
use Rattle.std.specs.Prelude.{ℕ, List}
use Rattle.cancel_scope.specs.declared.operation.Operation.{Operation}

-- the spare is for how many more there is room
pub record Roomy : Type 0 where
  pub operations : List Operation
  pub spare : ℕ

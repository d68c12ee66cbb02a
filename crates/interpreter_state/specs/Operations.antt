-- What the interpreter keeps of operations, and the oldest for which a test holds.
use Rattle.std.specs.Prelude.{◌≡◌, ℕ, List, Bool, Some, find, position}
use Rattle.cancel_scope.specs.declared.operation.Asked as a
use Rattle.cancel_scope.specs.declared.operation.Asked.TheVariants as s
use Rattle.cancel_scope.specs.declared.operation.Operation.{Operation}
use Rattle.interpreter_state.specs.declared.operation.Asked.{Asked}
use Rattle.interpreter_state.specs.declared.operation.Asked.TheVariants as k

abbrev pub asked_of : Asked → a.Asked
asked_of (k.Send value) = s.Send value
asked_of (k.Recv place) = s.Recv place
asked_of (k.Read file from into) = s.Read file from into
asked_of (k.Write file from bytes) = s.Write file from bytes

-- the oldest for which the test holds stands at this place
abbrev pub IsOldest : (Operation → Bool) → List Operation → ℕ → Operation → Type 0
IsOldest test os place o = (position test os ≡ Some place) × (find test os ≡ Some o)

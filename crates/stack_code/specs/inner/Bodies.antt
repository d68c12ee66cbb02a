-- Whose bodies stand in the shapes of a code.
use Rattle.std.specs.Prelude.{◌≡◌, ℕ, Some, slice_get}
use Rattle.stack_code.specs.declared.instr.Instr.TheVariants as i
use Rattle.stack_code.specs.declared.parts.Entered.{Entered}
use Rattle.stack_code.specs.declared.shape.Home.{Home}
use Rattle.stack_code.specs.declared.shape.Home.TheVariants as home
use Rattle.stack_code.specs.declared.shape.Body.{Body}
use Rattle.stack_code.specs.Parts.{Parts}

-- a function of the code, or an `Async` that stands in it, with so many slots
abbrev pub IsHome : Parts → Home → ℕ → Type 0
IsHome code (home.Function number) slots = (function : Entered)
    × ((slice_get code.functions number ≡ Some function) × (function.words ≡ slots))
IsHome code (home.Async at) slots = (to : ℕ) × (slice_get code.instrs at ≡ Some (i.Async slots to))

abbrev pub IsBody : Parts → Body → Type 0
IsBody code body = IsHome code body.home body.slots

-- The run of one core of a program under a journal and a bound on steps.
use Rattle.std.specs.Prelude.{◌≡◌, ℕ, List, Option, Some, slice_get}
use Rattle.ac_base.specs.declared.ends.CoreEnd.{CoreEnd}
use Rattle.ac_base.specs.declared.entry.Entry.{Entry}
use Rattle.core_state.specs.Moves.{ComesTo}
use Rattle.ac_commands.specs.declared.program.Function.{Function}
use Rattle.ac_commands.specs.declared.program.Core.{Core}
use Rattle.ac_commands.specs.declared.program.Resolved.{Resolved}
use Rattle.ac_semantics.specs.Threads.{step, first_state}

-- the core enters this function
pub record Enters (program : Resolved) (core : ℕ) (function : Function) : Type 0 where
  pub here : Core
  pub core_is : slice_get program.cores core ≡ Some here
  pub function_is : slice_get program.functions here.entry ≡ Some function

-- the core, with at most so many steps, comes to this end under this journal; none where the journal does not fit
pub record Replays (program : Resolved) (core bound : ℕ) (journal : List Entry) (end : Option CoreEnd) : Type 0 where
  pub function : Function
  pub enters : Enters program core function
  pub ends : ComesTo (step program bound) (first_state program core function journal) end

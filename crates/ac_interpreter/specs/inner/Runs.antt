-- What is known of a run that is over.
use Rattle.std.specs.Prelude.{ℕ, Option, None, IsSome}
use Rattle.ac_base.specs.declared.ends.CoreEnd.{CoreEnd}
use Rattle.core_state.specs.Moves.{GoesOn}
use Rattle.ac_semantics.specs.Threads.{CoreState, step, first_state}
use Rattle.ac_interpreter.specs.Unfit.{RunEnds, IsUnfit}
use Rattle.ac_interpreter.specs.inner.Cores.{state_of}
use Rattle.ac_interpreter.specs.declared.ending.Ending.{Ending}
use Rattle.ac_interpreter.specs.declared.running.InterpretedCore.{InterpretedCore}

-- all entries have come in, and the core has ended
pub record IsOver (ending : Ending) (core : InterpretedCore) : Type 0 where
  pub ended : IsSome core.ended
  pub comes :
      GoesOn {S = CoreState} {E = Option CoreEnd} (step ending.program.now ending.bound)
      (first_state ending.program.now ending.core ending.function.now ending.journal.now) (state_of core)

-- nothing is seen of the end, for the entry at this place
pub record IsStopped (ending : Ending) (place : ℕ) : Type 0 where
  pub unfit : IsUnfit ending.program.now ending.core ending.function.now ending.bound ending.journal.now place
  pub none : RunEnds ending.program.now ending.core ending.function.now ending.bound ending.journal.now None

-- Why a driver has come back, and what is seen of it then.
use Rattle.std.specs.Prelude.{◌≡◌, Bool, true, false}
use Rattle.core_state.specs.Moves.{Move}
use Rattle.code_meaning.specs.Machine.{Flat, FlatEnd}
use Rattle.core_machine.specs.declared.ending.Ending.{Ending}
use Rattle.core_machine.specs.declared.ending.Ending.TheVariants as ending
use Rattle.core_machine.specs.Machine.{HasEnded, has_ended, is_idle}
use Rattle.core_driver.specs.declared.pause.Pause.{Pause}
use Rattle.core_driver.specs.declared.pause.Pause.TheVariants.{Finished, Trapped, OutOfSteps, Idle, ClockFull}

abbrev pub pause_of : Ending → Pause
pause_of ending.Finished = Finished
pause_of (ending.Trapped trap) = Trapped trap
pause_of ending.OutOfSteps = OutOfSteps

-- what is so of the core's state where its driver has come back
abbrev pub IsPaused : Move Flat FlatEnd → Pause → Type 0
IsPaused state Finished = HasEnded state ending.Finished
IsPaused state (Trapped trap) = HasEnded state (ending.Trapped trap)
IsPaused state OutOfSteps = HasEnded state ending.OutOfSteps
IsPaused state Idle = is_idle state ≡ true
IsPaused state ClockFull = has_ended state ≡ false

abbrev pub is_clock_full : Pause → Bool
is_clock_full ClockFull = true
is_clock_full _ = false

-- The state of a core for which the interpreter's fields stand.
use Rattle.std.specs.Prelude.{◌≡◌, Option, Some, None}
use Rattle.ac_base.specs.declared.ends.CoreEnd.{CoreEnd}
use Rattle.core_state.specs.Moves.{Move, On, Over}
use Rattle.ac_semantics.specs.Held.{seen_of}
use Rattle.ac_semantics.specs.Threads.{CoreState}
use Rattle.interpreter_state.specs.State.{held_of}
use Rattle.ac_interpreter.specs.declared.running.CoreStop.{CoreStop}
use Rattle.ac_interpreter.specs.declared.running.InterpretedCore.{InterpretedCore}

abbrev pub core_of : InterpretedCore → CoreState
core_of c = record { held = held_of c.held; running = c.running; work = c.work; ready = c.ready.items; threads = c.threads }

abbrev pub end_or : CoreState → Option CoreStop → Move CoreState (Option CoreEnd)
end_or c None = On c
end_or c (Some halt) = Over (seen_of halt.word halt.idle c.held)

abbrev pub state_of : InterpretedCore → Move CoreState (Option CoreEnd)
state_of c = end_or (core_of c) c.ended

-- the program and the bound on its steps stay
pub record IsSameCore (before after : InterpretedCore) : Type 0 where
  pub program : after.program.now ≡ before.program.now
  pub bound : after.bound ≡ before.bound

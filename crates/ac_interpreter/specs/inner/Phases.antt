-- What the interpreter keeps of the phases of threads.
use Rattle.ac_semantics.specs.Threads as t
use Rattle.ac_interpreter.specs.declared.threads.Phase.{Phase}
use Rattle.ac_interpreter.specs.declared.threads.Phase.TheVariants as p

abbrev pub phase_of : Phase → t.Phase
phase_of p.Active = t.Active
phase_of (p.AtFinish block) = t.AtFinish block
phase_of p.Ended = t.Ended

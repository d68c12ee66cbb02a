-- What becomes of an operation that a cancel tries.
use Rattle.core_state.specs.Cancelling as s
use Rattle.ac_interpreter.specs.declared.cancelling.Fate.{Fate}
use Rattle.ac_interpreter.specs.declared.cancelling.Fate.TheVariants as f

abbrev pub outcome_of : Fate → s.Fate
outcome_of f.NeverHappens = s.NeverHappens
outcome_of f.IsTaken = s.IsTaken

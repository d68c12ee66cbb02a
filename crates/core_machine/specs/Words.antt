-- What is said of a core that has ended.
use Rattle.std.specs.Prelude.{Option, Some, None}
use Rattle.ac_base.specs.declared.ends.EndWord.{EndWord}
use Rattle.ac_base.specs.declared.ends.EndWord.TheVariants as word
use Rattle.core_machine.specs.declared.ending.Ending.{Ending}
use Rattle.core_machine.specs.declared.ending.Ending.TheVariants.{Finished, Trapped, OutOfSteps}

abbrev pub word_of : Ending → EndWord
word_of Finished = word.Finished
word_of (Trapped trap) = word.Trapped trap
word_of OutOfSteps = word.OutOfSteps

-- one that has not ended is stalled
abbrev pub word_now : Option Ending → EndWord
word_now None = word.Stalled
word_now (Some ending) = word_of ending

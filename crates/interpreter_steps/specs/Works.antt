-- What the interpreter keeps of the work of threads.
use Rattle.std.specs.Prelude.{List, [], ◌∷◌}
use Rattle.ac_semantics.specs.Work as w
use Rattle.interpreter_steps.specs.declared.work.Work.{Work}
use Rattle.interpreter_steps.specs.declared.work.Work.TheVariants as k

abbrev pub work_of : Work → w.Work
work_of (k.Do frame command) = w.Do frame command.now
work_of (k.Pend frame command around) = w.Pend frame command.now around
work_of (k.Given value frame command around) = w.Given value frame command.now around
work_of (k.CallOff frame level slot) = w.CallOff frame level slot
work_of (k.Turn frame turned) = w.Turn frame turned.now
work_of (k.Close block) = w.Close block
work_of (k.Back frame) = w.Back frame
work_of k.Leave = w.Leave
work_of (k.End frame) = w.End frame

-- behind what a thread has to do first
abbrev pub past_first : List w.Work → List w.Work
past_first [] = []
past_first (x ∷ xs) = xs

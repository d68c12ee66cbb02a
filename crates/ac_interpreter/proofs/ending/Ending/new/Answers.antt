use Rattle.ac_semantics.specs.Threads.{step, first_state}
use Rattle.ac_interpreter.proofs.Ends.{has_count}
use Rattle.ac_interpreter.proofs.ending.Ending.new.Goals as goal

pub invariant_of-result : goal.invariant_of-result
invariant_of-result c =
    record {
      count = has_count (step c.args.program.now c.args.bound)
          (first_state c.args.program.now c.args.core c.args.function.now c.args.journal.now) c.requires.ends.0 c.requires.ends.1;
      link = c.requires.link;
    }

use Rattle.std.proofs.Common.{◌≡◌, ◌++◌, drop}
use Rattle.ac_program.specs.Summary.{outputs_of}
use Rattle.ac_program.proofs.summary.add_outputs.Given as goal

abbrev pub invariant-loop-end : goal.invariant-loop-end
invariant-loop-end l = l.text.items ++ outputs_of (drop l.end-index l.ends) ≡ l.fn.text.items ++ outputs_of l.ends

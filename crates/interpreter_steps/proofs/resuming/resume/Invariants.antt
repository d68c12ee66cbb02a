use Rattle.std.proofs.Common.{◌≡◌, length}
use Rattle.ac_semantics.specs.Evaluation.{resumes}
use Rattle.interpreter_steps.proofs.resuming.resume.Given as goal

abbrev pub invariant-contexts : goal.invariant-contexts
invariant-contexts l = resumes l.memory l.frame l.around l.cell ≡ resumes l.memory l.frame l.fn.around l.fn.cell

abbrev pub decreases-contexts : goal.decreases-contexts
decreases-contexts l = length l.around

use Rattle.std.proofs.Common.{◌≡◌, ◌≤◌, length}
use Rattle.ac_semantics.specs.Threads.{step}
use Rattle.ac_interpreter.specs.inner.Left.{left_by}
use Rattle.ac_interpreter.specs.inner.Cores.{state_of}
use Rattle.ac_interpreter.proofs.Moving.{Goes, under}
use Rattle.ac_interpreter.proofs.replay.run_through.Given as goal

abbrev pub invariant-turns : goal.invariant-turns
invariant-turns l = record {
  goes : Goes l.ending.program.now l.ending.bound l.ending.count.0 l.ending.core l.ending.function.now l.ending.journal.now l.taken (state_of l.core);
  within : l.taken ≤ length l.ending.journal.now;
  program : l.core.program.now ≡ l.ending.program.now;
  bound : l.core.bound ≡ l.ending.bound;
}

abbrev pub decreases-turns : goal.decreases-turns
decreases-turns l =
    left_by (step l.ending.program.now l.ending.bound) l.ending.count.0
    (under l.ending.program.now l.ending.bound l.ending.count.0 l.ending.core l.ending.function.now l.ending.journal.now l.taken (state_of l.core))

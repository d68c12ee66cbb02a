use Rattle.std.proofs.Common.{◌≡◌, drop}
use Rattle.ac_semantics.specs.Threads.{with_starts}
use Rattle.ac_interpreter.proofs.running.set_starts.Given as goal

abbrev pub invariant-loop-start : goal.invariant-loop-start
invariant-loop-start l = record {
  globals : with_starts (drop l.start-index l.starts) l.memory.globals ≡ with_starts l.starts l.fn.memory.globals;
  frames : l.memory.frames ≡ l.fn.memory.frames;
}

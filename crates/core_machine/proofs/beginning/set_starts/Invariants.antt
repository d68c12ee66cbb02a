use Rattle.std.proofs.Common.{◌≡◌, length, drop}
use Rattle.code_meaning.specs.Machine.{with_starts}
use Rattle.core_machine.proofs.beginning.set_starts.Given as goal

abbrev pub invariant-loop-start : goal.invariant-loop-start
invariant-loop-start l = record {
  globals : with_starts (drop l.start-index l.starts) l.frames.globals ≡ with_starts l.starts l.fn.frames.globals;
  frames : l.frames.frames ≡ l.fn.frames.frames;
  many : length l.frames.globals ≡ length l.fn.frames.globals;
}

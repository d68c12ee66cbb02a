use Rattle.std.proofs.Common.{◌≡◌, ◌≤◌, length}
use Rattle.interpreter_state.specs.inner.Released.{kept_from}
use Rattle.interpreter_state.proofs.memory.Memory.release.Given as goal

abbrev pub invariant-loop-index : goal.invariant-loop-index
invariant-loop-index l = record {
  globals : l.self.globals ≡ l.initial.self.globals;
  frames : l.self.frames ≡ kept_from l.index 0 l.initial.self.frames;
  inside : l.index ≤ length l.initial.self.frames;
}

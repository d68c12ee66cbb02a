use Rattle.std.proofs.Common.{◌≡◌, drop}
use Rattle.work_item.specs.Store.{any_in}
use Rattle.interpreter_state.proofs.memory.Memory.any_in.Given as goal

abbrev pub invariant-loop-index : goal.invariant-loop-index
invariant-loop-index l = any_in l.number (drop l.index l.self.frames) ≡ any_in l.number (drop l.from l.self.frames)

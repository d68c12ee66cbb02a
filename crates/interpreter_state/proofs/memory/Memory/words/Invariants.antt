use Rattle.std.proofs.Common.{◌≡◌, ◌+◌, ◌-◌, ◌^◌, ◌<◌, drop, min, length}
use Rattle.work_item.specs.Store.{all_words}
use Rattle.interpreter_state.proofs.memory.Memory.words.Given as goal

abbrev pub invariant-loop-frame : goal.invariant-loop-frame
invariant-loop-frame l =
    (min (l.words + all_words (drop l.frame-index l.self.frames)) (2 ^ 64 - 1)
    ≡ min (length l.self.globals + all_words l.self.frames) (2 ^ 64 - 1))
    × (l.words < 2 ^ 64)

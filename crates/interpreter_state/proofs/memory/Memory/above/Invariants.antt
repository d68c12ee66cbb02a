use Rattle.std.proofs.Common.{◌≡◌, ◌-◌}
use Rattle.work_item.specs.Store.{above}
use Rattle.interpreter_state.proofs.memory.Memory.above.Given as goal

abbrev pub invariant-loop : goal.invariant-loop
invariant-loop l = above l.self l.current (l.level - l.counter) ≡ above l.self l.fn.frame l.level

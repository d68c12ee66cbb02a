use Rattle.std.proofs.Common.{◌≡◌}
use Rattle.work_item.specs.Store.{cleared}
use Rattle.interpreter_state.proofs.memory.clear_cells.Given as goal

abbrev pub invariant-loop-index : goal.invariant-loop-index
invariant-loop-index l = l.cells.items ≡ cleared l.slot l.index l.fn.cells.items

use Rattle.std.proofs.Common.{◌≡◌, ◌++◌, drop}
use Rattle.core_state.specs.Frames.{arguments}
use Rattle.interpreter_steps.proofs.statements.cells_of_call.Given as goal

abbrev pub invariant-loop-index : goal.invariant-loop-index
invariant-loop-index l = l.cells.items ++ arguments (drop l.index l.params) (drop l.index l.operands) ≡ arguments l.params l.operands

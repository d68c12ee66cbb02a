use Rattle.std.proofs.Common.{◌≡◌, length}
use Rattle.ac_semantics.specs.Statements.{returns}
use Rattle.work_item.specs.Store.{int_in}
use Rattle.interpreter_state.specs.State.{held_of}
use Rattle.interpreter_steps.proofs.statements.return_value.Given as goal

abbrev pub invariant-work : goal.invariant-work
invariant-work l = returns (int_in l.value) l.work (held_of l.held) ≡ returns (int_in l.value) l.fn.work (held_of l.fn.held)

abbrev pub decreases-work : goal.decreases-work
decreases-work l = length l.work

use Rattle.std.proofs.Common.{◌≡◌, ◌++◌, drop, map}
use Rattle.work_item.specs.Store.{int_in}
use Rattle.interpreter_state.proofs.held.ints_of.Given as goal

abbrev pub invariant-loop-value : goal.invariant-loop-value
invariant-loop-value l = l.ints.items ++ map int_in (drop l.value-index l.values) ≡ map int_in l.values

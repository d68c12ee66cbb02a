use Rattle.std.proofs.Common.{◌≡◌, ◌++◌, map, drop}
use Rattle.cancel_scope.specs.Outstanding.{waiting_as}
use Rattle.ac_interpreter.proofs.running.seen_operations.Given as goal

abbrev pub invariant-loop-operation : goal.invariant-loop-operation
invariant-loop-operation l = l.waiting.items ++ map waiting_as (drop l.operation-index l.operations) ≡ map waiting_as l.operations

use Rattle.std.proofs.Common.{◌≡◌, ◌++◌, replicate}
use Rattle.ac_translation.specs.Translation.{request_capacity}
use Rattle.ac_compile.proofs.whole.add_requests.Given as goal

abbrev pub invariant-loop-made : goal.invariant-loop-made
invariant-loop-made l = l.capacities.items ≡ l.fn.capacities.items ++ replicate l._made request_capacity

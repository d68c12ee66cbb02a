use Rattle.std.proofs.Common.{◌≡◌, [], map, take, replicate}
use Rattle.stack_code.specs.inner.Reserve.{arrays_in}
use Rattle.stack_code.proofs.uses.Reserved.new.Given as goal

abbrev pub invariant-loop-function : goal.invariant-loop-function
invariant-loop-function l = l.functions.items ≡ map arrays_in (take l.function-index l.function-items)

abbrev pub invariant-loop : goal.invariant-loop
invariant-loop l = l.asyncs.items ≡ replicate l.counter []

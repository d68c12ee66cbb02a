use Rattle.stack_code.specs.inner.Reserve.{Reserves}
use Rattle.stack_code.proofs.uses.reserve.Given as goal

abbrev pub invariant-loop-at : goal.invariant-loop-at
invariant-loop-at l = Reserves l.code l.table l.reserved l.at

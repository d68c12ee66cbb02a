use Rattle.std.proofs.Common.{◌≡◌, ◌++◌, drop}
use Rattle.stack_code.specs.inner.Reserve.{arrays_from}
use Rattle.stack_code.proofs.uses.arrays_of.Given as goal

abbrev pub invariant-loop-at : goal.invariant-loop-at
invariant-loop-at l = l.row ++ arrays_from l.at (drop l.at l.params) ≡ arrays_from 0 l.params

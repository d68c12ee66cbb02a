use Rattle.std.proofs.Common.{ℕ, ◌<◌}
use Rattle.stack_code.specs.inner.Reserve.{IsFree}
use Rattle.stack_code.proofs.uses.has_one_use.Given as goal

abbrev pub invariant-loop-at : goal.invariant-loop-at
invariant-loop-at l = (k : ℕ) → k < l.at → IsFree l.code l.table l.reserved k

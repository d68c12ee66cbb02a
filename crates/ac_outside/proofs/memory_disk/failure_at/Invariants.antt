use Rattle.std.proofs.Common.{◌≡◌, drop}
use Rattle.ac_outside.specs.Views.{fail_at}
use Rattle.ac_outside.proofs.memory_disk.failure_at.Given as goal

abbrev pub invariant-loop-fail : goal.invariant-loop-fail
invariant-loop-fail l = fail_at (drop l.fail-index l.fails) l.call ≡ fail_at l.fails l.call

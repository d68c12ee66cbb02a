use Rattle.std.proofs.Common.{◌≡◌, ◌++◌, drop, map}
use Rattle.cancel_scope.specs.Outstanding.{waiting_as}
use Rattle.cancel_scope.proofs.outstanding.Outstanding.seen.Given as goal

abbrev pub invariant-loop-place : goal.invariant-loop-place
invariant-loop-place l = l.seen ++ map waiting_as (drop l.place l.self.operations) ≡ map waiting_as l.self.operations

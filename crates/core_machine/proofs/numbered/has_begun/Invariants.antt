use Rattle.cancel_scope.specs.Outstanding.{is_begun}
use Rattle.core_machine.proofs.Rounds.{Seeks}
use Rattle.core_machine.proofs.numbered.has_begun.Given as goal

abbrev pub invariant-loop-place : goal.invariant-loop-place
invariant-loop-place l = Seeks (is_begun l.link l.number) l.outstanding.operations l.place

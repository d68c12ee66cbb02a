-- Which operations of a running core wait, as callers see them. For `waits`.
-- By whether the core has ended: a state that goes on and an end both show the operations that the core keeps.
use Rattle.std.proofs.Common.{◌≡◌, Option, Some, None, ap}
use Rattle.std.specs.Prelude.{map}
use Rattle.cancel_scope.specs.Outstanding.{waiting_as}
use Rattle.core_machine.specs.declared.ending.Ending.{Ending}
use Rattle.core_machine.specs.declared.running.Running.{Running}
use Rattle.core_machine.specs.Machine.{waiting_of}
use Rattle.core_machine.specs.State.{flat_of, end_or, state_of}

module _ (m : Running) where
  pub waiting_is : (o : Option Ending) → m.ended ≡ o → waiting_of (state_of m) ≡ map waiting_as m.outstanding.operations
  waiting_is None e = ap (λ p. waiting_of (end_or (flat_of m) p)) e
  waiting_is (Some ending) e = ap (λ p. waiting_of (end_or (flat_of m) p)) e

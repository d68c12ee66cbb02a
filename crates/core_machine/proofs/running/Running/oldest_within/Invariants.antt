use Rattle.std.proofs.Common.{◌-◌, length}
use Rattle.core_state.specs.Cancelling.{is_to_try}
use Rattle.code_meaning.specs.Machine.{is_inside}
use Rattle.core_machine.specs.State.{flat_of}
use Rattle.core_machine.proofs.Rounds.{Seeks}
use Rattle.core_machine.proofs.running.Running.oldest_within.Given as goal

abbrev pub invariant-loop-place : goal.invariant-loop-place
invariant-loop-place l = Seeks (is_to_try (is_inside (flat_of l.self) l.block)) l.self.outstanding.operations l.place

abbrev pub decreases-loop-place : goal.decreases-loop-place
decreases-loop-place l = length l.self.outstanding.operations - l.place

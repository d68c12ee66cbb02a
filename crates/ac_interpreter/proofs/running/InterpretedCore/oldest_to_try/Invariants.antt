use Rattle.std.proofs.Common.{◌≡◌, drop}
use Rattle.std.specs.List.{position_from}
use Rattle.core_state.specs.Cancelling.{is_to_try}
use Rattle.ac_semantics.specs.Threads.{is_inside}
use Rattle.ac_interpreter.proofs.running.InterpretedCore.oldest_to_try.Given as goal

abbrev pub invariant-loop-index : goal.invariant-loop-index
invariant-loop-index l = position_from (is_to_try (is_inside l.self.threads l.block)) l.index (drop l.index l.operations) ≡ position_from (is_to_try (is_inside l.self.threads l.block)) 0 l.operations

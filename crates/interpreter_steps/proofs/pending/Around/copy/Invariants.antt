use Rattle.std.proofs.Common.{◌≡◌, ◌++◌, drop, map}
use Rattle.interpreter_steps.specs.inner.Pending.{context_of}
use Rattle.interpreter_steps.proofs.pending.Around.copy.Given as goal

abbrev pub invariant-loop-context : goal.invariant-loop-context
invariant-loop-context l = map context_of l.contexts.items ++ map context_of (drop l.context-index l.context-items) ≡ map context_of l.context-items

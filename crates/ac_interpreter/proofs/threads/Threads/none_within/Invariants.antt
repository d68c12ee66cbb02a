use Rattle.std.proofs.Common.{◌≡◌, drop}
use Rattle.ac_semantics.specs.Threads.{none_within}
use Rattle.ac_interpreter.proofs.threads.Threads.none_within.Given as goal

abbrev pub invariant-loop-thread : goal.invariant-loop-thread
invariant-loop-thread l = none_within l.block (drop l.thread-index l.thread-items) ≡ none_within l.block l.thread-items

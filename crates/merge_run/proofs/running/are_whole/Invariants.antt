use Rattle.merge_run.specs.inner.Counting.{AreWhole}
use Rattle.merge_run.proofs.running.are_whole.Given as goal

abbrev pub invariant-loop-tag : goal.invariant-loop-tag
invariant-loop-tag l = AreWhole l.tag l.count l.messages

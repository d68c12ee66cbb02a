use Rattle.merge_run.proofs.Made.{AreWaysBelow}
use Rattle.merge_run.proofs.making.ways_of.Given as goal

abbrev pub invariant-loop-tag : goal.invariant-loop-tag
invariant-loop-tag l = AreWaysBelow l.width l.tag l.ways.items

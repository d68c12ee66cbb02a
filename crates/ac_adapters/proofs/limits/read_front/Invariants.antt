-- How much of the text has been read; the room that is left goes down, since a turn that reads nothing is the last.
use Rattle.std.proofs.Common.{◌≤◌, ◌-◌, length}
use Rattle.ac_adapters.proofs.limits.read_front.Given as goal

abbrev pub invariant-loop-at : goal.invariant-loop-at
invariant-loop-at g l = l.at ≤ length l.into

abbrev pub decreases-loop-at : goal.decreases-loop-at
decreases-loop-at g l = length l.initial.into - l.at

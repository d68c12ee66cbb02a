-- How many bytes were read, at most as many as fit; a turn that reads none ends the loop, so the room that is left goes down.
use Rattle.std.proofs.Common.{◌≤◌, ◌-◌, length}
use Rattle.ac_adapters.proofs.disk.read_all.Given as goal

abbrev pub invariant-loop-at : goal.invariant-loop-at
invariant-loop-at g l = l.at ≤ length l.into

abbrev pub decreases-loop-at : goal.decreases-loop-at
decreases-loop-at g l = length l.initial.into - l.at

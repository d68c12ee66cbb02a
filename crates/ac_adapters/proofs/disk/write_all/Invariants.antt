-- How many bytes have gone in, at most all; a turn in which none does ends the loop, so what is left goes down.
use Rattle.std.proofs.Common.{◌≤◌, ◌-◌, length}
use Rattle.ac_adapters.proofs.disk.write_all.Given as goal

abbrev pub invariant-loop-at : goal.invariant-loop-at
invariant-loop-at g l = l.at ≤ length l.bytes

abbrev pub decreases-loop-at : goal.decreases-loop-at
decreases-loop-at g l = length l.bytes - l.at

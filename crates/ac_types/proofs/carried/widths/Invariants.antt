use Rattle.std.proofs.Common.{◌≡◌, ◌≤◌, drop, length}
use Rattle.ac_types.specs.Widths.{widths_in}
use Rattle.ac_types.proofs.carried.widths.Given as goal

abbrev pub invariant-loop-left : goal.invariant-loop-left
invariant-loop-left l = (l.left ≤ length l.carried) × (l.list.items ≡ widths_in (drop l.left l.carried) 0 l.count)

abbrev pub decreases-loop-left : goal.decreases-loop-left
decreases-loop-left l = l.left

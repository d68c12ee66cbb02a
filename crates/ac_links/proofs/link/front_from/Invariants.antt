use Rattle.std.proofs.Common.{◌≤◌, ◌-◌, length}
use Rattle.ac_links.specs.Link.{front_of}
use Rattle.ac_links.proofs.link.front_from.Given as goal

abbrev pub invariant-loop-n : goal.invariant-loop-n
invariant-loop-n l = l.n ≤ front_of l.offers

abbrev pub decreases-loop-n : goal.decreases-loop-n
decreases-loop-n l = length l.offers - l.n

use Rattle.std.proofs.Common.{◌≤◌, ◌-◌, length}
use Rattle.ac_links.specs.Link.{known_lead}
use Rattle.ac_links.proofs.link.lead_from.Given as goal

abbrev pub invariant-loop-n : goal.invariant-loop-n
invariant-loop-n l = l.n ≤ known_lead l.offers

abbrev pub decreases-loop-n : goal.decreases-loop-n
decreases-loop-n l = length l.offers - l.n

use Rattle.std.proofs.Common.{◌≤◌, ◌-◌, length}
use Rattle.ac_links.specs.Views.{owner_lead}
use Rattle.core_channels.proofs.kept_link.lead_from.Given as goal

abbrev pub invariant-loop-n : goal.invariant-loop-n
invariant-loop-n l = l.n ≤ owner_lead l.offers

abbrev pub decreases-loop-n : goal.decreases-loop-n
decreases-loop-n l = length l.offers - l.n

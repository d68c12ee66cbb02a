use Rattle.std.proofs.Common.{◌≤◌, ◌-◌, length}
use Rattle.ac_links.specs.Replies.{least_open}
use Rattle.core_channels.proofs.kept_link.open_from.Given as goal

abbrev pub invariant-loop-n : goal.invariant-loop-n
invariant-loop-n l = l.n ≤ least_open l.offers

abbrev pub decreases-loop-n : goal.decreases-loop-n
decreases-loop-n l = length l.offers - l.n

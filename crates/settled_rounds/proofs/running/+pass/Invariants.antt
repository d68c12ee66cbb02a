use Rattle.std.proofs.Common.{length}
use Rattle.settled_rounds.proofs.running.+pass.Given as goal

abbrev pub decreases-pass : goal.decreases-pass
decreases-pass g l = length l.parties.now

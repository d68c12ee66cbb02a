use Rattle.std.proofs.Common.{length}
use Rattle.settled_rounds.proofs.running.+fn-round-join_mut+arg2+fn-round-join_mut+arg3+round.Given as goal

abbrev pub decreases-join_mut+arg2 : goal.decreases-join_mut+arg2
decreases-join_mut+arg2 g l = length l.front.now

abbrev pub decreases-join_mut+arg3 : goal.decreases-join_mut+arg3
decreases-join_mut+arg3 g l = length l.back.now

abbrev pub decreases-round : goal.decreases-round
decreases-round g l = length l.parties.now

use Rattle.settled_rounds.specs.Linked.{Pointwise}
use Rattle.settled_rounds.specs.inner.Passing.{left}
use Rattle.settled_rounds.proofs.running.run.Given as goal

abbrev pub invariant-loop-moved : goal.invariant-loop-moved
invariant-loop-moved g l = Pointwise g.P.Party.later l.fn.parties l.parties

-- each step after which there is another one has used up a stamp
abbrev pub decreases-loop-moved : goal.decreases-loop-moved
decreases-loop-moved g l = left g.P.Party.clock l.parties

use Rattle.settled_rounds.proofs.EachLink.{SettledBelow}
use Rattle.settled_rounds.proofs.settling.settle_all.Given as goal

abbrev pub invariant-loop-link : goal.invariant-loop-link
invariant-loop-link g l =
    let t = g.P.Party in
    SettledBelow t.clock t.later t.known t.still t.apart t.settled t.pair t.stopped l.ways l.link l.fn.parties l.parties

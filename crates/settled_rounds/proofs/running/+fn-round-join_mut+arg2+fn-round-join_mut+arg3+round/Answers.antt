-- What holds of the two halves, which come back from their threads, holds of all: the list was cut in two, and is put together.
use Rattle.std.proofs.Common.{rules}
use Rattle.settled_rounds.proofs.Pointwise.{each_joined}
use Rattle.settled_rounds.proofs.EachTurn.{works_first, works_second}
use Rattle.settled_rounds.proofs.running.+fn-round-join_mut+arg2+fn-round-join_mut+arg3+round.Goals as goal

pub returns-in_err-one-clause-later : goal.returns-in_err-one-clause-later
returns-in_err-one-clause-later g t c =
    each_joined g.P.Party.later c.args.parties.now c.split_at_mut-front.result.0.now c.split_at_mut-front.result.1.now c.front-1.given.0 c.back-1.given.0 (search rules) (search rules) (search rules)

pub returns-in_err-more-clause-later : goal.returns-in_err-more-clause-later
returns-in_err-more-clause-later g t c =
    each_joined g.P.Party.later c.args.parties.now c.split_at_mut-front.result.0.now c.split_at_mut-front.result.1.now c.front-1.given.0 c.back-1.given.0 (search rules) (search rules) (search rules)

pub returns-then-one-clause-later : goal.returns-then-one-clause-later
returns-then-one-clause-later g t c =
    each_joined g.P.Party.later c.args.parties.now c.split_at_mut-front.result.0.now c.split_at_mut-front.result.1.now c.front-1.given.0 c.back-1.given.0 (search rules) (search rules) (search rules)

pub returns-else-one-clause-later : goal.returns-else-one-clause-later
returns-else-one-clause-later g t c =
    each_joined g.P.Party.later c.args.parties.now c.split_at_mut-front.result.0.now c.split_at_mut-front.result.1.now c.front-1.given.0 c.back-1.given.0 (search rules) (search rules) (search rules)

pub returns-then-one-clause-moved : goal.returns-then-one-clause-moved
returns-then-one-clause-moved g t c =
    works_first g.P.Party.clock g.P.Party.worked c.args.parties.now c.split_at_mut-front.result.0.now c.split_at_mut-front.result.1.now c.front-1.given.0 c.back-1.given.0
    c.join_mut-a.result.0 c.join_mut-a.result.1 c.in_ok-one.one c.in_ok-more.more (search rules) (search rules) (search rules) (search rules) (search rules) (search rules)

pub returns-else-one-clause-moved : goal.returns-else-one-clause-moved
returns-else-one-clause-moved g t c =
    works_second g.P.Party.clock g.P.Party.worked c.args.parties.now c.split_at_mut-front.result.0.now c.split_at_mut-front.result.1.now c.front-1.given.0 c.back-1.given.0
    c.join_mut-a.result.0 c.join_mut-a.result.1 c.in_ok-one.one c.in_ok-more.more (search rules) (search rules) (search rules) (search rules) (search rules) (search rules)

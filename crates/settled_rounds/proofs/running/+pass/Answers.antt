use Rattle.settled_rounds.proofs.EachTurn.{one_later}
use Rattle.settled_rounds.proofs.running.+pass.Goals as goal

pub returns-in_err-first-clause-later : goal.returns-in_err-first-clause-later
returns-in_err-first-clause-later g t c = one_later g.P.Party.later g.met.P.Party.later_self c.args.parties.now _ _ _ c.advance.new.self c.split_at_mut-front.ensures.value
    c.split_at_mut-front.ensures.front_len c.advance.ensures.later

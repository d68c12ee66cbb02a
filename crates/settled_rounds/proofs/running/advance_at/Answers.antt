use Rattle.settled_rounds.proofs.Pointwise.{each_but}
use Rattle.settled_rounds.proofs.running.advance_at.Goals as goal

pub returns-clause-later : goal.returns-clause-later
returns-clause-later g c =
    each_but g.P.Party.later g.met.P.Party.later_self c.args.parties.now c.args.place c.index-parties-place.result c.advance.new.self c.requires.place c.advance.ensures.later

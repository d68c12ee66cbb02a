use Rattle.std.proofs.Common.{sym, ◌∙◌}
use Rattle.std.proofs.lemmas.Bool.{eqb-true}
use Rattle.core_state.specs.Arrivals.{offers_on}
use Rattle.core_replay.proofs.Coming.{offer_played}
use Rattle.core_replay.proofs.arrivals.offer.Goals as goal

pub returns-clause-played : goal.returns-clause-played
returns-clause-played c =
    let m = c.args.machine.now in
    let now = eqb-true c.args.number (offers_on c.args.link m.journal) (sym c.is_next.ensures.next ∙ c.if-not-is_next.false) in
    offer_played m c.offered-2.new.self c.args.offers.now c.offered.new.self c.args.link c.args.number c.in_ok-payload.payload c.args.stamp c.offered-2.ensures.come c.offered-2.ensures.run
    c.requires.played now c.in_ok-offered.ensures.counts c.offered.ensures.kept

use Rattle.core_driver.proofs.Together.{looks_still}
use Rattle.core_driver.proofs.Looking.{neither_looked, or_none, side_told}
use Rattle.core_driver.proofs.looks.look.Goals as goal

pub look_own-requires-clause-side : goal.look_own-requires-clause-side
look_own-requires-clause-side g c = side_told _ _ _ _ _ c.args.link _ c.ends.ensures c.code.ensures c.core.ensures c.in-Owner.ensures

pub look_peer-requires-clause-side : goal.look_peer-requires-clause-side
look_peer-requires-clause-side g c = side_told _ _ _ _ _ c.args.link _ c.ends.ensures c.code.ensures c.core.ensures c.in-Peer.ensures

pub returns-in-Neither-clause-looks : goal.returns-in-Neither-clause-looks
returns-in-Neither-clause-looks g c = looks_still _ _ c.requires.in_step c.requires.point

pub returns-in-Neither-clause-full : goal.returns-in-Neither-clause-full
returns-in-Neither-clause-full g c = or_none _

pub returns-in-Neither-clause-looked : goal.returns-in-Neither-clause-looked
returns-in-Neither-clause-looked g c = λ e. neither_looked _ _ c.args.link (side_told _ _ _ _ _ c.args.link _ c.ends.ensures c.code.ensures c.core.ensures c.in-Neither.ensures)

pub returns-in-Neither-clause-stays : goal.returns-in-Neither-clause-stays
returns-in-Neither-clause-stays g c = g.met.P.Ports.stays_self c.args.ports.now

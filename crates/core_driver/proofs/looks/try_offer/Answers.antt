use Rattle.std.proofs.lemmas.Result.{IfOk-weaker}
use Rattle.core_driver.proofs.Together.{looks_still, still_going}
use Rattle.core_driver.proofs.Looking.{or_none}
use Rattle.core_driver.proofs.looks.try_offer.Goals as goal

pub has_to_offer-requires : goal.has_to_offer-requires
has_to_offer-requires g c = still_going _ c.requires.point

pub returns-then-not-has_to_offer-clause-looks : goal.returns-then-not-has_to_offer-clause-looks
returns-then-not-has_to_offer-clause-looks g c = looks_still _ _ c.requires.in_step c.requires.point

pub returns-then-not-has_to_offer-clause-full : goal.returns-then-not-has_to_offer-clause-full
returns-then-not-has_to_offer-clause-full g c = or_none _

pub returns-then-not-has_to_offer-clause-stays : goal.returns-then-not-has_to_offer-clause-stays
returns-then-not-has_to_offer-clause-stays g c = g.met.P.Ports.stays_self c.args.ports.now

pub returns-clause-tried : goal.returns-clause-tried
returns-clause-tried g c = IfOk-weaker c.make_offer.result _ _ (λ full h some. h) c.make_offer.ensures.tried

pub returns-clause-slot : goal.returns-clause-slot
returns-clause-slot g c = IfOk-weaker c.make_offer.result _ _ (λ full h e same some room. h e same room) c.make_offer.ensures.slot

use Rattle.std.proofs.Common.{refl, ◌∙◌}
use Rattle.std.proofs.lemmas.Result.{err_from_is_err_and}
use Rattle.core_driver.proofs.Together.{looks_then}
use Rattle.core_driver.proofs.Looking.{full_never, full_next, own_looked}
use Rattle.core_driver.proofs.looks.look_own.Goals as goal

pub try_offer-requires-clause-side : goal.try_offer-requires-clause-side
try_offer-requires-clause-side g c = rw (c.poll_own.ensures.looks.holds.machine.code, c.poll_own.ensures.looks.holds.machine.core) c.requires.side

pub returns-in_err-offered-clause-looks : goal.returns-in_err-offered-clause-looks
returns-in_err-offered-clause-looks g c = looks_then c.args.machine.now c.poll_own.new.machine c.try_offer.new.machine _ _ _ c.poll_own.ensures.looks c.try_offer.ensures.looks

pub returns-in_err-offered-clause-full : goal.returns-in_err-offered-clause-full
returns-in_err-offered-clause-full g c = let p = err_from_is_err_and c.from_residual-in_err-offered.result c.from_residual-in_err-offered.ensures.1 in rw p.1
    (c.in_err-offered.ensures.full ∙ full_never _ _ _ _ refl c.in_ok-full.ensures.full c.if-full.false)

pub returns-in_err-offered-clause-stays : goal.returns-in_err-offered-clause-stays
returns-in_err-offered-clause-stays g c = g.met.P.Ports.stays_then c.args.ports.now c.poll_own.new.ports c.try_offer.new.ports c.poll_own.ensures.stays c.try_offer.ensures.stays

pub returns-clause-looks : goal.returns-clause-looks
returns-clause-looks g c = looks_then c.args.machine.now c.poll_own.new.machine c.try_offer.new.machine _ _ _ c.poll_own.ensures.looks c.try_offer.ensures.looks

pub returns-clause-full : goal.returns-clause-full
returns-clause-full g c = full_next _ _ _ _ (full_never _ _ _ _ refl c.in_ok-full.ensures.full c.if-full.false) c.in_ok-offered.ensures.full

pub returns-clause-looked : goal.returns-clause-looked
returns-clause-looked g c = λ e. own_looked c.args.machine.now c.poll_own.new.machine _ _ c.args.link c.poll_own.ensures.looks c.in_ok-full.ensures.polled c.requires.side
    (λ same. c.in_ok-full.ensures.decision c.if-full.false same) (λ same. c.in_ok-full.ensures.reply c.if-full.false same) c.try_offer.new.machine _
    c.try_offer.ensures.looks c.in_ok-offered.ensures.tried (c.in_ok-offered.ensures.slot e)

pub returns-clause-stays : goal.returns-clause-stays
returns-clause-stays g c = g.met.P.Ports.stays_then c.args.ports.now c.poll_own.new.ports c.try_offer.new.ports c.poll_own.ensures.stays c.try_offer.ensures.stays

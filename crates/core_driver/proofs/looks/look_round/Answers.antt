use Rattle.std.proofs.Common.{◌≡◌, refl, sym, ap, ◌∙◌, below_more, arith}
use Rattle.std.proofs.lemmas.Result.{err_from_is_err_and}
use Rattle.core_driver.proofs.Together.{looks_still, looks_then}
use Rattle.core_driver.specs.Sides.{links_of}
use Rattle.core_driver.proofs.Looking.{full_never, full_next, looked_from, looked_still, or_none}
use Rattle.core_driver.proofs.looks.look_round.Goals as goal

pub loop-link-init : goal.loop-link-init
loop-link-init g c = record {
  looks = looks_still _ _ c.requires.in_step c.requires.point;
  full = refl;
  looked = λ k low. absurd (omega (arith, low));
  stays = g.met.P.Ports.stays_self c.args.ports.now;
}

pub loop-link-preserved : goal.loop-link-preserved
loop-link-preserved g c = record {
  looks = looks_then c.args.machine.now c.loop-link.machine c.look.new.machine _ _ _ c.loop-link.invariant.looks c.look.ensures.looks;
  full = full_never _ _ _ _ c.loop-link.invariant.full c.in_ok-full.ensures.full c.if-full.false;
  looked = below_more _ _
      (λ k low. looked_still c.args.machine.now c.loop-link.machine c.look.new.machine _ _ _ k c.loop-link.invariant.looks c.look.ensures.looks (c.loop-link.invariant.looked k low))
      (looked_from c.args.machine.now c.loop-link.machine c.look.new.machine _ _ _ c.loop-link.link c.loop-link.invariant.looks c.look.ensures.looks
      (c.in_ok-full.ensures.looked c.if-full.false));
  stays = g.met.P.Ports.stays_then c.args.ports.now c.loop-link.ports c.look.new.ports c.loop-link.invariant.stays c.look.ensures.stays;
}

pub returns-in_err-full-clause-looks : goal.returns-in_err-full-clause-looks
returns-in_err-full-clause-looks g c = looks_then c.args.machine.now c.loop-link.machine c.look.new.machine _ _ _ c.loop-link.invariant.looks c.look.ensures.looks

pub returns-in_err-full-clause-full : goal.returns-in_err-full-clause-full
returns-in_err-full-clause-full g c = let p = err_from_is_err_and c.from_residual.result c.from_residual.ensures.1 in rw p.1 (c.in_err-full.ensures.full ∙ c.loop-link.invariant.full)

pub returns-in_err-full-clause-stays : goal.returns-in_err-full-clause-stays
returns-in_err-full-clause-stays g c = g.met.P.Ports.stays_then c.args.ports.now c.loop-link.ports c.look.new.ports c.loop-link.invariant.stays c.look.ensures.stays

pub returns-then-full-clause-looks : goal.returns-then-full-clause-looks
returns-then-full-clause-looks g c = looks_then c.args.machine.now c.loop-link.machine c.look.new.machine _ _ _ c.loop-link.invariant.looks c.look.ensures.looks

pub returns-then-full-clause-full : goal.returns-then-full-clause-full
returns-then-full-clause-full g c = rw (← c.if-full.true) (full_next _ _ _ _ c.loop-link.invariant.full c.in_ok-full.ensures.full)

pub returns-then-full-clause-heard : goal.returns-then-full-clause-heard
returns-then-full-clause-heard g c = λ e. c.in_ok-full.ensures.heard c.if-full.true

pub returns-then-full-clause-stays : goal.returns-then-full-clause-stays
returns-then-full-clause-stays g c = g.met.P.Ports.stays_then c.args.ports.now c.loop-link.ports c.look.new.ports c.loop-link.invariant.stays c.look.ensures.stays

pub returns-clause-full : goal.returns-clause-full
returns-clause-full g c = c.loop-link.invariant.full ∙ or_none _

pub returns-clause-looked : goal.returns-clause-looked
returns-clause-looked g c = λ e k low.
    let same : links_of c.loop-link.machine.code ≡ c.links_of-link-end.result = ap links_of (c.loop-link.invariant.looks.holds.machine.code ∙ sym c.code.ensures) ∙ sym c.links_of-link-end.ensures in
    c.loop-link.invariant.looked k (omega (arith, low, same))

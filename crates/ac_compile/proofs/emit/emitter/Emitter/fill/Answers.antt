use Rattle.std.proofs.Common.{ap}
use Rattle.ac_compile.specs.declared.emit.emitter.Outs.{Outs}
use Rattle.ac_compile.proofs.Emissions.{is_filled}
use Rattle.ac_compile.proofs.emit.emitter.Emitter.fill.Goals as goal

pub returns : goal.returns
returns c =
    let old = c.self.inside in
    let new = c.loop-at.self-inside in
    is_filled c.args.to c.loop-at.at-index c.args.jumps.now old.instrs.items new.instrs.items old.outs.pasts.items new.outs.pasts.items old.outs.turns.items new.outs.turns.items c.args.self.now
    c.self.view_is
    c.loop-at-test.false c.loop-at.invariant.code (ap (λ (o : Outs). o.pasts.items) c.loop-at.invariant.outs) (ap (λ (o : Outs). o.turns.items) c.loop-at.invariant.outs)

use Rattle.ac_compile.proofs.Emissions.{is_exchanged}
use Rattle.ac_compile.proofs.emit.emitter.Emitter.exchange.Goals as goal

pub returns-clause-after : goal.returns-clause-after
returns-clause-after c =
    rw c.replace.ensures.after
    (is_exchanged c.self.inside.instrs.items c.self.inside.outs.pasts.items c.self.inside.outs.turns.items c.args.outs.pasts.items c.args.outs.turns.items c.args.self.now c.self.view_is)

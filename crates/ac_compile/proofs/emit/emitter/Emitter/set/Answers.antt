use Rattle.ac_compile.proofs.Emissions.{is_set}
use Rattle.ac_compile.proofs.emit.emitter.Emitter.set.Goals as goal

pub returns : goal.returns
returns c = is_set c.args.at c.args.instr c.self.inside.instrs.items c.self.inside.outs.pasts.items c.self.inside.outs.turns.items c.args.self.now c.self.view_is

use Rattle.ac_compile.proofs.Emissions.{is_put}
use Rattle.ac_compile.proofs.emit.emitter.Emitter.put.Goals as goal

pub returns : goal.returns
returns c = is_put c.args.instr c.self.inside.instrs.items c.push.new.self.items c.self.inside.outs.pasts.items c.self.inside.outs.turns.items c.args.self.now c.self.view_is c.in_ok-push.ensures.items

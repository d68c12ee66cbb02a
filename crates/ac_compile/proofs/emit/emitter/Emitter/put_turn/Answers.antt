use Rattle.ac_compile.proofs.Emissions.{is_turn}
use Rattle.ac_compile.proofs.emit.emitter.Emitter.put_turn.Goals as goal

pub returns : goal.returns
returns c =
    is_turn c.self.inside.instrs.items c.push-2.new.self.items c.self.inside.outs.pasts.items c.self.inside.outs.turns.items c.push.new.self.items c.len-at.result c.args.self.now c.self.view_is
    c.len-at.ensures
    c.in_ok-push.ensures.items c.in_ok-push-2.ensures.items

use Rattle.interpreter_state.proofs.Levels.{one_up}
use Rattle.interpreter_state.proofs.memory.Memory.above.Goals as goal

pub loop-preserved : goal.loop-preserved
loop-preserved c = one_up c.args.self.now c.loop.current c.parent_or_self-current.result c.args.frame c.args.level c.loop.counter c.loop-test.true c.loop.invariant c.parent_or_self-current.ensures

use Rattle.std.proofs.Common.{◌∙◌}
use Rattle.core_machine.proofs.Rounds.{inside_same}
use Rattle.core_machine.proofs.running.Running.is_inside.Goals as goal

pub returns : goal.returns
returns c = c.is_within.ensures.answer ∙ inside_same c.args.self.now c.args.block c.args.operation.now c.block_of-own.result c.block_of-own.ensures

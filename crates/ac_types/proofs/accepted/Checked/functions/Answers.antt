use Rattle.ac_types.proofs.Numbers.{functions_are}
use Rattle.ac_types.proofs.accepted.Checked.functions.Goals as goal

pub returns : goal.returns
returns c = functions_are c.self.inside.program c.args.self.now c.self.inside.counts c.self.view_is c.self.invariant.1

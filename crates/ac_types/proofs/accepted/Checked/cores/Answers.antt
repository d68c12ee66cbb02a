use Rattle.ac_types.proofs.Numbers.{cores_are}
use Rattle.ac_types.proofs.accepted.Checked.cores.Goals as goal

pub returns : goal.returns
returns c = cores_are c.self.inside.program c.args.self.now c.self.inside.counts c.self.view_is c.self.invariant.1

use Rattle.ac_types.proofs.Numbers.{files_are}
use Rattle.ac_types.proofs.accepted.Checked.files.Goals as goal

pub returns : goal.returns
returns c = files_are c.self.inside.program c.args.self.now c.self.inside.counts c.self.view_is c.self.invariant.1

use Rattle.ac_types.proofs.Widths.{width_there, width_is}
use Rattle.ac_types.proofs.accepted.Checked.width.Goals as goal

pub get-requires : goal.get-requires
get-requires c = width_there c.self.inside.program c.args.self.now c.self.inside.widths c.args.link c.from.result c.self.view_is c.self.invariant.3 c.from.ensures c.requires

pub returns : goal.returns
returns c =
    width_is c.self.inside.program c.args.self.now c.self.inside.widths c.args.link c.from.result c.self.view_is c.self.invariant.3 c.from.ensures c.get.result.now c.requires c.get.ensures

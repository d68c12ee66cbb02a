use Rattle.std.proofs.Common.{◌≡◌, arith}
use Rattle.std.proofs.lemmas.Int.{to_z-of_z}
use Rattle.ac_names.specs.Numbered.{capacity_size}
use Rattle.ac_types.proofs.Numbers.{capacity_is}
use Rattle.ac_types.proofs.accepted.Checked.capacity.Goals as goal

pub returns : goal.returns
returns c =
    let size : c.capacity_size.result ≡ capacity_size c.find_capacity.result = grind (arith, to_z-of_z, c.capacity_size.ensures) in
    capacity_is c.as_slice.result.now c.self.inside.program c.args.self.now c.args.link c.find_capacity.result c.capacity_size.result c.as_slice.ensures c.self.view_is c.self.invariant.0.0
    c.find_capacity.ensures size

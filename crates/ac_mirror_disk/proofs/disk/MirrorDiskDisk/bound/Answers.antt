use Rattle.std.proofs.Common.{arith}
use Rattle.std.specs.Prelude.{string_bytes}
use Rattle.std.proofs.lemmas.List.{length-map}
use Rattle.ac_mirror_disk.specs.Fields.{mirrored}
use Rattle.ac_mirror_disk.proofs.Clauses.{bound_any}
use Rattle.ac_mirror_disk.proofs.disk.MirrorDiskDisk.bound.Goals as goal

pub returns : goal.returns
returns g c =
    let m = mirrored c.self.inside in
    let all = bound_any g.A.Disk.told g.B.Disk.told g.met.A.Disk.tells_bound g.met.B.Disk.tells_bound m c.args.self.now c.self.view_is c.self.invariant in
    let long = length-map c.self.inside.paths.bound.items string_bytes in
    let few = c.self.invariant.few in
    grind (arith, all, long, few, c.len.ensures)

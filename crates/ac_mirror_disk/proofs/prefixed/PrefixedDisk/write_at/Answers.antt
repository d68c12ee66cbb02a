use Rattle.std.specs.Prelude.{string_bytes}
use Rattle.ac_mirror_disk.proofs.Under.{write_still, write_under}
use Rattle.ac_mirror_disk.proofs.prefixed.PrefixedDisk.write_at.Goals as goal

pub invariant_of-self : goal.invariant_of-self
invariant_of-self g c =
    let w = c.write_at.ensures in
    write_still g.D.Disk.told g.met.D.Disk.tells_bound (record { disk = c.self.inside.disk; prefix = string_bytes c.self.inside.prefix; is_ready = c.self.inside.is_ready }) c.write_at.new.self
    c.args.file
    c.args.from c.args.bytes.now c.write_at.result c.self.invariant (record { none = w.none; most = w.most; left = w.bytes; silent = w.silent; cause = w.cause })

pub returns-clause-told : goal.returns-clause-told
returns-clause-told g c =
    let w = c.write_at.ensures in
    (write_under g.D.Disk.told g.met.D.Disk.tells_bound (record { disk = c.self.inside.disk; prefix = string_bytes c.self.inside.prefix; is_ready = c.self.inside.is_ready }) c.args.self.now
    c.write_at.new.self
    c.args.file c.args.from c.args.bytes.now c.write_at.result c.self.view_is c.requires.ready c.requires.named
    (record { none = w.none; most = w.most; left = w.bytes; silent = w.silent; cause = w.cause }) w.earlier).told_so

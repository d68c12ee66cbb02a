use Rattle.ac_mirror_disk.proofs.ReadOnly.{read_by, not_read}
use Rattle.ac_mirror_disk.proofs.comparing.compare_piece.Goals as goal

pub returns-in_default : goal.returns-in_default
returns-in_default g c =
    let read = c.in_default.ensures in
    record {
      reads_a = read_by (g.A.Disk.told c.args.a.now) (g.A.Disk.told c.read_at.new.self) read.none read.same read.silent read.cause.later;
      reads_b = not_read (g.B.Disk.told c.args.b.now);
      finds = read.cause.failed;
    }

use Rattle.std.proofs.Common.{refl}
use Rattle.std.specs.Prelude.{slice_index}
use Rattle.ac_mirror_disk.specs.Pairs.{same, differ}
use Rattle.ac_mirror_disk.proofs.ReadOnly.{not_read}
use Rattle.ac_mirror_disk.proofs.LastFile.{same_bytes, relong, unlike_differ}
use Rattle.ac_mirror_disk.proofs.comparing.compare_both.Goals as goal

pub returns-then-are_unlike : goal.returns-then-are_unlike
returns-then-are_unlike g c = record {
  reads_a = not_read (g.A.Disk.told c.args.a.now.disk);
  reads_b = not_read (g.B.Disk.told c.args.b.now.disk);
  lens_a = refl;
  lens_b = refl;
  verdict = differ c.requires.in_use.0 refl (unlike_differ _ _ _ (c.are_unlike.ensures.unlike c.if-are_unlike.true));
}

pub returns-in-Same : goal.returns-in-Same
returns-in-Same g c =
    let alike = c.are_unlike.ensures.alike c.if-are_unlike.false in
    let first = (g.A.Disk.told c.args.a.now.disk).held in
    let second = (g.B.Disk.told c.args.b.now.disk).held in
    record {
      reads_a = c.compare_files.ensures.reads_a;
      reads_b = c.compare_files.ensures.reads_b;
      lens_a = refl;
      lens_b = refl;
      verdict = same c.requires.in_use.0 c.requires.in_use.1 alike.0 alike.1
          (same_bytes first second c.args.file (slice_index c.args.a.now.lens c.args.file) alike.1 c.requires.one.long
          (relong second c.args.file _ _ alike.0 c.requires.other.long) c.in-Same.ensures.finds);
    }

-- Both disks were only read, and the file is the same on both up to the next piece.
use Rattle.std.proofs.Common.{◌≡◌, ◌*◌, min, length}
use Rattle.ac_mirror_disk.specs.Pairs.{IfBoth, OnlyReads}
use Rattle.ac_mirror_disk.specs.inner.Comparing.{HaveSameFront}
use Rattle.ac_mirror_disk.proofs.comparing.compare_files.Given as goal

abbrev pub invariant-loop-number : goal.invariant-loop-number
invariant-loop-number g l = record {
  one : length l.first ≡ 65536;
  other : length l.second ≡ 65536;
  reads_a : OnlyReads (g.A.Disk.told l.fn.a) (g.A.Disk.told l.a);
  reads_b : OnlyReads (g.B.Disk.told l.fn.b) (g.B.Disk.told l.b);
  front : IfBoth (g.A.Disk.told l.fn.a).held (g.B.Disk.told l.fn.b).held (HaveSameFront l.file (min (l.number * 65536) l.len));
}

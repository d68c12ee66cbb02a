-- The files before this one are copied.
use Rattle.std.proofs.Common.{◌≡◌, length}
use Rattle.ac_mirror_disk.specs.inner.Copying.{HasCopied, Rewrites, SideOnlyReads}
use Rattle.ac_mirror_disk.proofs.Copied.{Now}
use Rattle.ac_mirror_disk.proofs.rebuilding.copy_files.Given as goal

abbrev pub invariant-loop-file : goal.invariant-loop-file
invariant-loop-file g l = record {
  room : length l.piece ≡ 65536;
  reads : SideOnlyReads g.S.Disk.told l.fn.s l.s;
  rewrites : Rewrites g.T.Disk.told l.fn.t l.t;
  copied : Now (HasCopied l.fn.s.lens l.count l.file) (g.S.Disk.told l.fn.s.disk).held (g.T.Disk.told l.fn.t.disk).held (g.T.Disk.told l.t.disk).held;
}

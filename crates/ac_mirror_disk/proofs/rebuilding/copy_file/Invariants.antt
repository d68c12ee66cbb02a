-- The file is copied up to the next piece.
use Rattle.std.proofs.Common.{◌≡◌, ◌*◌, min, length}
use Rattle.ac_mirror_disk.specs.inner.Copying.{HasJoined, Rewrites, SideOnlyReads}
use Rattle.ac_mirror_disk.proofs.Copied.{Now}
use Rattle.ac_mirror_disk.proofs.rebuilding.copy_file.Given as goal

abbrev pub invariant-loop-number : goal.invariant-loop-number
invariant-loop-number g l = record {
  room : length l.piece ≡ 65536;
  reads : SideOnlyReads g.S.Disk.told l.fn.s l.s;
  rewrites : Rewrites g.T.Disk.told l.fn.t l.t;
  copied : Now (HasJoined l.file l.len (min (l.number * 65536) l.len)) (g.S.Disk.told l.fn.s.disk).held (g.T.Disk.told l.fn.t.disk).held (g.T.Disk.told l.t.disk).held;
}

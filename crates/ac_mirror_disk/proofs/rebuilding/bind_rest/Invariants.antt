-- As many files are bound as turns were made, nothing was written, and what the side has found stays.
use Rattle.std.proofs.Common.{◌≡◌, ◌≤◌, map, None, false, true}
use Rattle.std.specs.Prelude.{IfSome, is_some, string_bytes}
use Rattle.ac_mirror_disk.specs.inner.Copying.{Then, KeepsFound}
use Rattle.ac_mirror_disk.specs.Rebuilding.{OnlyBinds}
use Rattle.ac_mirror_disk.specs.Sound.{IsKept, WereShort}
use Rattle.ac_mirror_disk.proofs.rebuilding.bind_rest.Given as goal

abbrev pub invariant-loop-place : goal.invariant-loop-place
invariant-loop-place g l = record {
  kept : IsKept g.T.Disk.told l.t (map string_bytes l.paths);
  bound : (g.T.Disk.told l.t.disk).bound ≡ l.place;
  later : (g.T.Disk.told l.fn.t.disk).faults ≤ (g.T.Disk.told l.t.disk).faults;
  short : WereShort g.T.Disk.told l.fn.t l.t;
  out : l.t.in_use ≡ false;
  tells : is_some (g.T.Disk.told l.fn.t.disk).held ≡ true → is_some (g.T.Disk.told l.t.disk).held ≡ true;
  found : IfSome (g.T.Disk.told l.fn.t.disk).held (λ h. Then KeepsFound h (g.T.Disk.told l.t.disk).held);
  only : OnlyBinds g.T.Disk.told l.fn.t l.t;
  silent : (g.T.Disk.told l.fn.t.disk).held ≡ None → (g.T.Disk.told l.t.disk).held ≡ None;
}

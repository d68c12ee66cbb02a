use Rattle.std.proofs.Common.{◌≡◌, ◌≤◌, length, take, None}
use Rattle.std.specs.Prelude.{All, IfSome, IsTrue}
use Rattle.ac_outside.specs.Told.{AddsNames}
use Rattle.starting_files.proofs.Started.{SoFar}
use Rattle.starting_files.proofs.starting.start_files.Given as goal

abbrev pub invariant-loop-path : goal.invariant-loop-path
invariant-loop-path g l = record {
  count : length l.start ≡ l.path-index;
  bound : (g.D.Disk.told l.disk).bound ≡ l.path-index;
  ready : IsTrue (g.D.Disk.told l.disk).is_ready;
  well : (g.D.Disk.told l.disk).faults ≡ (g.D.Disk.told l.fn.disk).faults;
  asked : AddsNames (g.D.Disk.told l.fn.disk).binds (g.D.Disk.told l.disk).binds (take l.path-index l.paths);
  short : All (λ bytes. length bytes ≤ 1048576) l.start;
  silent : (g.D.Disk.told l.fn.disk).held ≡ None → (g.D.Disk.told l.disk).held ≡ None;
  told : IfSome (g.D.Disk.told l.fn.disk).held (λ held. SoFar held (g.D.Disk.told l.disk).held l.paths l.path-index l.start);
}

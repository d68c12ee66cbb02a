use Rattle.std.proofs.Common.{◌≡◌, ◌*◌, ◌≤◌, min, length, None}
use Rattle.std.specs.Prelude.{IfSome}
use Rattle.ac_outside.specs.Disks.{BindsNone}
use Rattle.starting_files.proofs.Reading.{SoFar}
use Rattle.starting_files.proofs.pieces.read_whole.Given as goal

abbrev pub invariant-loop-number : goal.invariant-loop-number
invariant-loop-number g l = record {
  piece : length l.piece.items ≡ min l.len 65536;
  none : BindsNone (g.D.Disk.told l.fn.disk) (g.D.Disk.told l.disk);
  well : (g.D.Disk.told l.disk).faults ≡ (g.D.Disk.told l.fn.disk).faults;
  silent : (g.D.Disk.told l.fn.disk).held ≡ None → (g.D.Disk.told l.disk).held ≡ None;
  few : length l.bytes.items ≤ min (l.number * 65536) l.len;
  made : IfSome (g.D.Disk.told l.fn.disk).held (λ held. SoFar held (g.D.Disk.told l.disk).held l.file l.len l.number l.bytes.items);
}

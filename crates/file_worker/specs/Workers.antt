-- What contracts see of a worker.
use Rattle.std.specs.Prelude.{ℕ}
use Rattle.ac_outside.specs.Disks.{DiskTold}
use Rattle.file_worker.specs.declared.worker.Worker.{Worker}
use Rattle.file_worker.specs.Ends.{AtDesk}
use Rattle.file_worker.specs.Agreement.{Seen}

module _ {D : Type 0} where
  -- its ends and its journal
  abbrev pub desk_of : Worker D → AtDesk
  desk_of w = w.desk

  -- what the disk tells
  abbrev pub told_of : (D → DiskTold) → Worker D → DiskTold
  told_of told w = told w.disk.now

  abbrev pub seen_of : (D → DiskTold) → Worker D → Seen
  seen_of told w = record { desk = w.desk; told = told w.disk.now }

  -- under which name the disk is lent
  abbrev pub loan_of : Worker D → ℕ
  loan_of w = w.disk.ghost_name

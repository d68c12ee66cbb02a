-- The disk that a run has left: its files are what the history has made of those at the start, and it was called for just what was done.
use Rattle.std.specs.Prelude.{◌≡◌, ℕ, List, length, map, IfSome, Some}
use Rattle.ac_base.specs.Log.{Log}
use Rattle.ac_commands.specs.declared.program.Resolved.{Resolved}
use Rattle.ac_history.specs.Files.{Deed, padded, contents, IsServed, deeds}
use Rattle.ac_outside.specs.Disks.{Held, DiskTold}
use Rattle.file_ops.specs.Asked.{texts}
use Rattle.file_ops.specs.Counting.{AreCounted}
use Rattle.program_run.specs.Run.{nothing_yet, history_of}

-- the requests that were done in a run with these journals, in the order of its history
abbrev pub deeds_of : Resolved → List Log → List Deed
deeds_of program journals = deeds (nothing_yet program) (history_of journals)

-- each read was given what stood there, the bound files hold what the writes have made of them, and under every other path stands what
-- stood there
pub record LeavesFiles (program : Resolved) (start : List (List ℕ)) (journals : List Log) (before after : Held) : Type 0 where
  pub served : IsServed (padded start) (deeds_of program journals)
  pub files : padded (texts after) ≡ contents (padded start) (deeds_of program journals)
  pub as_many : length after.files ≡ length before.files
  pub paths : map (λ f. f.name) after.files ≡ map (λ f. f.name) before.files
  pub others : after.found ≡ before.found

-- the disk was called once for each request of a bound file that was done, and failed at least as often as FAULT was answered to one; and
-- where it tells what it holds, it tells this after the run
pub record LeavesDisk (program : Resolved) (start : List (List ℕ)) (journals : List Log) (before after : DiskTold) : Type 0 where
  pub counted : AreCounted before after (deeds_of program journals)
  pub held : IfSome before.held (λ h. (left : Held) × (after.held ≡ Some left) × LeavesFiles program start journals h left)

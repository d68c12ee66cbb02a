-- What was counted and what is among the entries that are left are all.
use Rattle.std.proofs.Common.{◌≡◌, ◌+◌, ◌≤◌}
use Rattle.std.specs.Prelude.{drop}
use Rattle.file_worker.specs.Ends.{done_on}
use Rattle.file_worker.proofs.desk.count_done.Given as goal

abbrev pub invariant-loop-place : goal.invariant-loop-place
invariant-loop-place l = (l.done + done_on l.link (drop l.place l.journal.entries) ≡ done_on l.link l.journal.entries) × (l.done ≤ l.place)

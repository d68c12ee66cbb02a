-- So many entries are in the list.
use Rattle.std.proofs.Common.{◌≡◌, take}
use Rattle.ac_base.proofs.journal.Journal.to_list.Given as goal

abbrev pub invariant-loop-place : goal.invariant-loop-place
invariant-loop-place l = l.entries ≡ take l.place l.self.entries

use Rattle.std.proofs.Common.{◌≡◌, ◌++◌, drop}
use Rattle.ac_links.specs.Order.{of_party}
use Rattle.ac_history.proofs.merging.add_entries.Given as goal

abbrev pub invariant-loop-place : goal.invariant-loop-place
invariant-loop-place l = l.all ++ of_party l.party (drop l.place l.journal.entries) ≡ l.initial.all ++ of_party l.party l.journal.entries

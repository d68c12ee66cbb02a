use Rattle.std.proofs.Common.{List, Bool, ◌++◌, drop}
use Rattle.ac_reach.specs.Reached.{AreAll}
use Rattle.ac_reach.proofs.reached.reach_table.Given as goal

abbrev pub invariant-loop-entry : goal.invariant-loop-entry
invariant-loop-entry l = (rest : List (List Bool)) → AreAll l.calls (drop l.entry-index l.entries) rest → AreAll l.calls l.entries (l.table ++ rest)

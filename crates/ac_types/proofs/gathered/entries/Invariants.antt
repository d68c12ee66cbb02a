use Rattle.std.proofs.Common.{◌≡◌, ◌++◌, drop}
use Rattle.ac_types.specs.Reached.{entries}
use Rattle.ac_types.proofs.gathered.entries.Given as goal

abbrev pub invariant-loop-item : goal.invariant-loop-item
invariant-loop-item l = l.list ++ entries l.scopes (drop l.item-index l.items) ≡ entries l.scopes l.items

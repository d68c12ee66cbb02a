use Rattle.std.proofs.Common.{◌≡◌, ◌++◌, drop}
use Rattle.ac_types.specs.Items.{all_ends}
use Rattle.ac_types.proofs.gathered.all_ends.Given as goal

abbrev pub invariant-loop-item : goal.invariant-loop-item
invariant-loop-item l = l.list ++ all_ends l.scopes (drop l.item-index l.items) ≡ all_ends l.scopes l.items

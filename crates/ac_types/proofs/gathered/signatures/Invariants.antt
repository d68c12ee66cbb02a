use Rattle.std.proofs.Common.{◌≡◌, ◌++◌, drop}
use Rattle.ac_types.specs.Items.{signatures}
use Rattle.ac_types.proofs.gathered.signatures.Given as goal

abbrev pub invariant-loop-item : goal.invariant-loop-item
invariant-loop-item l = l.list ++ signatures (drop l.item-index l.items) ≡ signatures l.items

use Rattle.std.proofs.Common.{◌≡◌, ◌≤◌, ◌++◌, drop}
use Rattle.ac_tree.specs.Weight.{items_weight}
use Rattle.ac_types.specs.Items.{carried_in}
use Rattle.ac_types.specs.Reached.{calls_in}
use Rattle.ac_types.proofs.gathered.all_calls.Given as goal

abbrev pub invariant-loop-item : goal.invariant-loop-item
invariant-loop-item l =
    (l.list ++ calls_in l.tables l.fn.walk.names.scopes (drop l.item-index l.items) ≡ calls_in l.tables l.fn.walk.names.scopes l.items)
    × (l.walk.seen.carried ++ carried_in l.tables l.fn.walk.names.scopes (drop l.item-index l.items)
    ≡ l.fn.walk.seen.carried ++ carried_in l.tables l.fn.walk.names.scopes l.items)
    × (l.walk.names ≡ l.fn.walk.names) × (items_weight (drop l.item-index l.items) ≤ 1048576)

use Rattle.std.proofs.Common.{◌≡◌, ◌≤◌, drop}
use Rattle.ac_tree.specs.Weight.{items_weight}
use Rattle.ac_names.specs.Items.{no_past}
use Rattle.ac_names.specs.Room.{HasCounts}
use Rattle.ac_types.specs.inner.Items.{after_items}
use Rattle.ac_types.proofs.items.see_items.Given as goal

abbrev pub invariant-loop-item : goal.invariant-loop-item
invariant-loop-item l =
    (after_items l.tables l.past (drop l.item-index l.items) l.walk ≡ after_items l.tables no_past l.items l.fn.walk)
    × (l.walk.names ≡ l.fn.walk.names) × (items_weight (drop l.item-index l.items) ≤ 1048576) × HasCounts l.past.counts (items_weight (drop l.item-index l.items))

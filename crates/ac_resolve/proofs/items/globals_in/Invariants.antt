use Rattle.std.proofs.Common.{◌≡◌, ◌++◌, drop}
use Rattle.ac_tree.specs.Weight.{items_weight}
use Rattle.ac_names.specs.Items.{no_past, past_all}
use Rattle.ac_names.specs.Room.{HasCounts}
use Rattle.ac_resolve.specs.Resolution.{starts_in}
use Rattle.ac_resolve.proofs.items.globals_in.Given as goal

abbrev pub invariant-loop-item : goal.invariant-loop-item
invariant-loop-item l =
    (past_all l.globals.past (drop l.item-index l.items) ≡ past_all no_past l.items)
    × (l.globals.starts ++ starts_in l.globals.past.counts (drop l.item-index l.items) ≡ starts_in no_past.counts l.items)
    × HasCounts l.globals.past.counts (items_weight (drop l.item-index l.items))

use Rattle.std.proofs.Common.{◌≡◌, drop}
use Rattle.ac_tree.specs.Weight.{items_weight}
use Rattle.ac_names.specs.Items.{no_past, past_all}
use Rattle.ac_names.specs.Room.{HasCounts}
use Rattle.ac_names.proofs.past.whole.Given as goal

abbrev pub invariant-loop-item : goal.invariant-loop-item
invariant-loop-item l = (past_all l.past (drop l.item-index l.items) ≡ past_all no_past l.items) × HasCounts l.past.counts (items_weight (drop l.item-index l.items))

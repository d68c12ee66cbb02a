use Rattle.std.proofs.Common.{◌≡◌, ◌++◌, ◌≤◌, drop}
use Rattle.ac_tree.specs.Weight.{items_weight}
use Rattle.ac_resolve.specs.Resolution.{functions_in, items_texts}
use Rattle.ac_resolve.specs.inner.Walks.{HasTexts}
use Rattle.ac_resolve.proofs.items.functions_in.Given as goal

abbrev pub invariant-loop-item : goal.invariant-loop-item
invariant-loop-item l =
    (items_texts (drop l.item-index l.items) l.walk.texts ≡ items_texts l.items l.fn.walk.texts)
    × (l.list ++ functions_in (drop l.item-index l.items) l.fn.walk.names.scopes l.walk.texts ≡ functions_in l.items l.fn.walk.names.scopes l.fn.walk.texts)
    × (l.walk.names ≡ l.fn.walk.names)
    × (items_weight (drop l.item-index l.items) ≤ 1048576)
    × HasTexts l.walk.texts (items_weight (drop l.item-index l.items))

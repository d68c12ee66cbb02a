use Rattle.std.proofs.Common.{◌≡◌, ◌+◌, ◌++◌, drop, length}
use Rattle.ac_names.specs.Numbered.{capacities}
use Rattle.ac_resolve.specs.Resolution.{channels_in}
use Rattle.ac_resolve.proofs.items.channels_in.Given as goal

abbrev pub invariant-loop-item : goal.invariant-loop-item
invariant-loop-item l =
    (l.list ++ channels_in l.checked.items l.number (drop l.item-index l.items) l.scopes ≡ channels_in l.checked.items 0 l.items l.scopes)
    × (l.number + length (capacities (drop l.item-index l.items)) ≡ length (capacities l.items))

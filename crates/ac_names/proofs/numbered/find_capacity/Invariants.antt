use Rattle.std.proofs.Common.{◌≡◌, slice_get, drop}
use Rattle.ac_names.specs.Numbered.{capacities}
use Rattle.ac_names.proofs.numbered.find_capacity.Given as goal

abbrev pub invariant-loop-item : goal.invariant-loop-item
invariant-loop-item l = slice_get (capacities (drop l.item-index l.items)) l.left ≡ slice_get (capacities l.items) l.number

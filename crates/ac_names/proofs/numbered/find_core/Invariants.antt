use Rattle.std.proofs.Common.{◌≡◌, slice_get, drop}
use Rattle.ac_names.specs.Numbered.{core_names}
use Rattle.ac_names.proofs.numbered.find_core.Given as goal

abbrev pub invariant-loop-item : goal.invariant-loop-item
invariant-loop-item l = slice_get (core_names (drop l.item-index l.items)) l.left ≡ slice_get (core_names l.items) l.number

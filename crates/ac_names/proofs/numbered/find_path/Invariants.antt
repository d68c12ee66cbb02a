use Rattle.std.proofs.Common.{◌≡◌, slice_get, drop}
use Rattle.ac_names.specs.Numbered.{file_paths}
use Rattle.ac_names.proofs.numbered.find_path.Given as goal

abbrev pub invariant-loop-item : goal.invariant-loop-item
invariant-loop-item l = slice_get (file_paths (drop l.item-index l.items)) l.left ≡ slice_get (file_paths l.items) l.number

use Rattle.std.proofs.Common.{◌≡◌, ◌++◌, drop}
use Rattle.ac_names.specs.Numbered.{file_paths}
use Rattle.ac_resolve.proofs.items.files_in.Given as goal

abbrev pub invariant-loop-item : goal.invariant-loop-item
invariant-loop-item l = l.list ++ file_paths (drop l.item-index l.items) ≡ file_paths l.items

use Rattle.std.proofs.Common.{◌≡◌, take}
use Rattle.ac_names.specs.Numbered.{file_paths}
use Rattle.ac_replay.proofs.running.paths_of.Given as goal

abbrev pub invariant-loop-file : goal.invariant-loop-file
invariant-loop-file l = l.paths ≡ take l.file (file_paths l.checked.items)

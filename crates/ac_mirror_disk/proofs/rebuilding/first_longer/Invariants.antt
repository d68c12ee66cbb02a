-- No file before this one is longer.
use Rattle.ac_mirror_disk.specs.Rebuilding.{IsNoneLonger}
use Rattle.ac_mirror_disk.proofs.rebuilding.first_longer.Given as goal

abbrev pub invariant-loop-file : goal.invariant-loop-file
invariant-loop-file l = IsNoneLonger l.lens l.others l.file

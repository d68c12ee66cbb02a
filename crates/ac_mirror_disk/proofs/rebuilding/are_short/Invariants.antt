-- Each file before this one is short enough.
use Rattle.ac_mirror_disk.specs.Rebuilding.{AreShort}
use Rattle.ac_mirror_disk.proofs.rebuilding.are_short.Given as goal

abbrev pub invariant-loop-file : goal.invariant-loop-file
invariant-loop-file l = AreShort l.lens l.file

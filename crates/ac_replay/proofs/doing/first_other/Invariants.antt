use Rattle.std.proofs.Common.{◌≡◌, take}
use Rattle.ac_replay.proofs.doing.first_other.Given as goal

abbrev pub invariant-loop-file : goal.invariant-loop-file
invariant-loop-file l = take l.file l.start ≡ take l.file l.told

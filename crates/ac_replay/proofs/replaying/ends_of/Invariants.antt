use Rattle.ac_replay.proofs.Ending.{AreFirst}
use Rattle.ac_replay.proofs.replaying.ends_of.Given as goal

abbrev pub invariant-loop-core : goal.invariant-loop-core
invariant-loop-core l = AreFirst l.code l.trace l.ends l.core

use Rattle.std.proofs.Common.{◌≡◌, drop}
use Rattle.ac_semantics.specs.Threads.{woken}
use Rattle.ac_interpreter.proofs.threads.Threads.woken.Given as goal

abbrev pub invariant-loop-index : goal.invariant-loop-index
invariant-loop-index l = woken l.self (drop l.index l.self) l.index ≡ woken l.self l.self 0

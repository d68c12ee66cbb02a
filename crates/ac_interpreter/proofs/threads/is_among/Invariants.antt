use Rattle.std.proofs.Common.{◌≡◌, drop}
use Rattle.ac_semantics.specs.Threads.{is_among}
use Rattle.ac_interpreter.proofs.threads.is_among.Given as goal

abbrev pub invariant-loop-other : goal.invariant-loop-other
invariant-loop-other l = is_among l.block (drop l.other-index l.blocks) ≡ is_among l.block l.blocks

use Rattle.std.proofs.Common.{◌≡◌, ◌++◌, drop, map}
use Rattle.ac_translation.specs.Translation.{start_of}
use Rattle.ac_compile.proofs.whole.starts_of.Given as goal

abbrev pub invariant-loop-start : goal.invariant-loop-start
invariant-loop-start l = l.list ++ map start_of (drop l.start-index l.starts) ≡ map start_of l.starts

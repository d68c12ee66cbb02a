use Rattle.std.proofs.Common.{◌≡◌, ◌++◌, drop, map}
use Rattle.ac_commands.specs.declared.program.Core.{Core}
use Rattle.ac_compile.proofs.whole.names_of.Given as goal

abbrev pub invariant-loop-core : goal.invariant-loop-core
invariant-loop-core l = l.list ++ map (λ (core : Core). core.name) (drop l.core-index l.cores) ≡ map (λ (core : Core). core.name) l.cores

use Rattle.std.proofs.Common.{◌≡◌, ◌++◌, drop}
use Rattle.ac_compile.proofs.whole.copied.Given as goal

abbrev pub invariant-loop-text : goal.invariant-loop-text
invariant-loop-text l = l.list ++ drop l.text-index l.texts ≡ l.texts

use Rattle.std.proofs.Common.{◌≡◌, drop}
use Rattle.ac_reach.specs.inner.Search.{with_all}
use Rattle.ac_reach.proofs.search.Search.add_all.Given as goal

abbrev pub invariant-loop-function : goal.invariant-loop-function
invariant-loop-function l = with_all (drop l.function-index l.functions) l.self ≡ with_all l.functions l.fn.self

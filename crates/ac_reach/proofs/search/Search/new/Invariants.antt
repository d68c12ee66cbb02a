use Rattle.std.proofs.Common.{◌≡◌, ◌++◌, drop}
use Rattle.ac_reach.specs.inner.Search.{no_flags}
use Rattle.ac_reach.proofs.search.Search.new.Given as goal

abbrev pub invariant-loop-row : goal.invariant-loop-row
invariant-loop-row l = l.flags.items ++ no_flags (drop l._row-index l.calls) ≡ no_flags l.calls

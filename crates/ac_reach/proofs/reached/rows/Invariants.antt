use Rattle.std.proofs.Common.{◌≡◌, ◌++◌, drop}
use Rattle.ac_reach.specs.inner.Search.{rows_from}
use Rattle.ac_reach.proofs.reached.rows.Given as goal

abbrev pub invariant-loop-function : goal.invariant-loop-function
invariant-loop-function l = l.rows ++ rows_from l.function (drop l.function l.calls) l.table ≡ rows_from 0 l.calls l.table

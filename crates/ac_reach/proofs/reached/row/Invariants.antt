use Rattle.std.proofs.Common.{◌≡◌, drop}
use Rattle.ac_reach.specs.declared.reached.Reached.TheVariants as r
use Rattle.ac_reach.specs.inner.Search.{row_from}
use Rattle.ac_reach.proofs.reached.row.Given as goal

abbrev pub invariant-loop-core : goal.invariant-loop-core
invariant-loop-core l = row_from l.function l.core l.reached (drop l.core l.table) ≡ row_from l.function 0 r.ByNone l.table

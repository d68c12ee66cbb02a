use Rattle.std.proofs.Common.{◌≡◌, ◌++◌, drop}
use Rattle.ac_resolve.specs.Computed.{values_in}
use Rattle.ac_resolve.proofs.expressions.values_in.Given as goal

abbrev pub invariant-loop-expr : goal.invariant-loop-expr
invariant-loop-expr l = l.list ++ values_in (drop l.expr-index l.exprs) l.scopes l.depth ≡ values_in l.exprs l.scopes l.depth

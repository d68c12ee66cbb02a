use Rattle.std.proofs.Common.{◌≡◌, ◌++◌, drop}
use Rattle.ac_resolve.specs.Computed.{links_in, arguments_in}
use Rattle.ac_resolve.proofs.expressions.+value.Given as goal

abbrev pub invariant-links_in-loop-link : goal.invariant-links_in-loop-link
invariant-links_in-loop-link l = l.list ++ links_in (drop l.link-index l.links) l.scopes l.depth ≡ links_in l.links l.scopes l.depth

abbrev pub invariant-arguments_in-loop-expr : goal.invariant-arguments_in-loop-expr
invariant-arguments_in-loop-expr l = l.list ++ arguments_in (drop l.expr-index l.exprs) l.scopes l.depth ≡ arguments_in l.exprs l.scopes l.depth

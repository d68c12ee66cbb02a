-- What each form of expression and statement is without names, by what its parts are. A fold over a tree does not compute at a form by
-- itself; these two laws say what it is there.
use Rattle.std.proofs.Common.{◌≡◌}
use Rattle.ac_tree.specs.declared.expr.Expr.{Expr, roll-Expr, map-Expr}
use Rattle.ac_tree.specs.declared.expr.Expr.TheOpen.{Expr-F}
use Rattle.ac_tree.specs.declared.expr.Link.{Link}
use Rattle.ac_tree.specs.declared.stmt.Stmt.{Stmt, roll-Stmt}
use Rattle.ac_tree.specs.declared.stmt.Stmt.TheFolds.{map-Stmt}
use Rattle.ac_tree.specs.declared.stmt.Stmt.TheOpen.{Stmt-F}
use Rattle.ac_tree.proofs.Folds.{expr_folds, stmt_folds}
use Rattle.ac_commands.specs.declared.value.ValueLink.{ValueLink}
use Rattle.ac_resolve.specs.Computed.{Reading, InScopes, read, read_step, link_step, link_in}
use Rattle.ac_resolve.specs.Commands.{Told, told, told_step}

pub expr_reads : (form : Expr-F Expr Link) {x : Expr} → roll-Expr form ≡ x → read x ≡ read_step (map-Expr Expr Link Reading (InScopes ValueLink) read link_in form)
expr_reads form is = expr_folds read_step link_step form is

pub stmt_tells : (form : Stmt-F Stmt) {x : Stmt} → roll-Stmt form ≡ x → told x ≡ told_step (map-Stmt Stmt Told told form)
stmt_tells form is = stmt_folds told_step form is

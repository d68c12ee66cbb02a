-- The nodes of each form of expression and statement, by those of its parts. A fold over a tree does not compute at a form by itself;
-- these two laws say what it is there, and examples and proofs above rewrite with them.
use Rattle.std.proofs.Common.{◌≡◌, List, [], Option}
use Rattle.std.specs.Prelude.{option_map}
use Rattle.ac_tree.specs.declared.expr.Expr.{Expr, roll-Expr, map-Expr}
use Rattle.ac_tree.specs.declared.expr.Expr.TheOpen.{Expr-F, Link-F}
use Rattle.ac_tree.specs.declared.expr.Link.{Link}
use Rattle.ac_tree.specs.declared.stmt.Stmt.{Stmt, roll-Stmt}
use Rattle.ac_tree.specs.declared.stmt.Stmt.TheFolds.{map-Stmt}
use Rattle.ac_tree.specs.declared.stmt.Stmt.TheOpen.{Stmt-F}
use Rattle.ac_tree.proofs.Folds.{expr_folds, stmt_folds}
use Rattle.ac_types.specs.Nodes.{Node}
use Rattle.ac_types.specs.Expressions.{ExprPart, ExprTold, expr_step, link_step, link_all, one_node, join_nodes, told_nodes}
use Rattle.ac_types.specs.Statements.{StmtPart, stmt_step, stmt_nodes}

abbrev pub ExprNodes : Type 0
ExprNodes = ExprPart (List Node) one_node [] join_nodes

-- with the name that it is, where it is one
abbrev pub ToldNodes : Type 0
ToldNodes = ExprTold (List Node) one_node [] join_nodes

abbrev pub of_expr : Expr-F ToldNodes ExprNodes → ToldNodes
of_expr = expr_step (List Node) one_node [] join_nodes

abbrev pub of_link : Link-F ToldNodes ExprNodes → ExprNodes
of_link = link_step (List Node) one_node [] join_nodes

abbrev pub link_nodes : Link → ExprNodes
link_nodes = link_all (List Node) one_node [] join_nodes

abbrev pub StmtNodes : Type 0
StmtNodes = StmtPart (List Node)

abbrev pub of_stmt : Stmt-F StmtNodes → StmtNodes
of_stmt = stmt_step (List Node) one_node [] join_nodes

abbrev pub some_nodes : Option Stmt → Option StmtNodes
some_nodes x = option_map stmt_nodes x

pub expr_is : (form : Expr-F Expr Link) {x : Expr} → roll-Expr form ≡ x → told_nodes x ≡ of_expr (map-Expr Expr Link ToldNodes ExprNodes told_nodes link_nodes form)
expr_is form is = expr_folds of_expr of_link form is

pub stmt_is : (form : Stmt-F Stmt) {x : Stmt} → roll-Stmt form ≡ x → stmt_nodes x ≡ of_stmt (map-Stmt Stmt StmtNodes stmt_nodes form)
stmt_is form is = stmt_folds of_stmt form is

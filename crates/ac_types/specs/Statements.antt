-- The nodes of a statement in preorder.
use Rattle.std.specs.Prelude.{List, [], ◌∷◌, length, map, Option, None, Some, is_some}
use Rattle.ac_tree.specs.declared.expr.Expr.{Expr}
use Rattle.ac_tree.specs.declared.stmt.Stmt.{Stmt}
use Rattle.ac_tree.specs.declared.stmt.Stmt.TheOpen.{Stmt-F}
use Rattle.ac_names.specs.declared.names.Names.{Names}
use Rattle.ac_names.specs.Scopes.{visible, in_inner}
use Rattle.ac_names.specs.Statements.{Part, part_words, part_gives, part_step, part_all, listed}
use Rattle.ac_names.specs.Statements.{some_words, some_listed, opened, moved, in_do, in_async}
use Rattle.ac_types.specs.declared.around.Around.{Around}
use Rattle.ac_types.specs.declared.around.Position.TheVariants as p
use Rattle.ac_types.specs.declared.numbered.Tables.{Tables}
use Rattle.ac_types.specs.Around.{inside_do, inside_async, inside_loop}
use Rattle.ac_types.specs.Nodes.{Node}
use Rattle.ac_types.specs.Judged.{once_tests, array_tests, print_tests, leave_tests, return_tests, async_tests, body_tests, cancel_tests}
use Rattle.ac_types.specs.Expressions.{plain, expr_all, values_all, value_all, one_node, join_nodes}

-- what a statement gives by the names round it and what is around it
abbrev pub Gives : Type 0 → Type 0
Gives X = Tables → Names → Around → X

abbrev pub StmtPart : Type 0 → Type 0
StmtPart X = Part (Gives X)

module _ (X : Type 0) (one : Node → X) (none : X) (join : X → X → X) where
  abbrev pub body_gives : List (StmtPart X) → Gives X
  body_gives [] t n a = none
  body_gives (p ∷ ps) t n a = join (part_gives p t n a) (body_gives ps t (listed p a.depth n) a)

  abbrev pub some_gives : Option (StmtPart X) → Gives X
  some_gives None t n a = none
  some_gives (Some p) t n a = part_gives p t n a

  abbrev pub used : Expr → Gives X
  used x t n a = expr_all X one none join x t n.scopes a p.Value

  abbrev pub valued : Option Expr → Gives X
  valued x t n a = value_all X one none join x t n.scopes a

  -- the parts of a `for` after its first, which has a scope of its own round them
  abbrev pub for_gives : Option Expr → Option (StmtPart X) → StmtPart X → Gives X
  for_gives test next body t n a =
      join (valued test t n a)
      (join (some_gives next t n a)
      (part_gives body t (moved n (some_words next)) (inside_loop a)))

  abbrev pub gives_step : Stmt-F (StmtPart X) → Gives X
  gives_step (Stmt-F.Block at body) t n a = join (one (plain at [])) (body_gives body t (opened n) a)
  gives_step (Stmt-F.Empty at) t n a = one (plain at [])
  gives_step (Stmt-F.Int at name value) t n a = join (one (plain at (once_tests (in_inner name n.scopes)))) (valued value t n a)
  gives_step (Stmt-F.Array at name size) t n a = one (plain at (array_tests (in_inner name n.scopes) size))
  gives_step (Stmt-F.Assign at place value) t n a =
      join (one (plain at [])) (join (used place t n a) (expr_all X one none join value t n.scopes a p.Value))
  gives_step (Stmt-F.Call at call) t n a = join (one (plain at [])) (expr_all X one none join call t n.scopes a p.Statement)
  gives_step (Stmt-F.Print at format args) t n a = join (one (plain at (print_tests format (length args))))
      (values_all X one none join args t n.scopes a)
  gives_step (Stmt-F.If at test body other) t n a =
      join (one (plain at [])) (join (used test t n a) (join (part_gives body t n a) (some_gives other t (moved n (part_words body)) a)))
  gives_step (Stmt-F.While at test body) t n a = join (one (plain at [])) (join (used test t n a) (part_gives body t n (inside_loop a)))
  gives_step (Stmt-F.For at init test next body) t n a =
      join (one (plain at [])) (join (some_gives init t (opened n) a) (for_gives test next body t (some_listed init a.depth (opened n)) a))
  gives_step (Stmt-F.Break at) t n a = one (plain at (leave_tests a))
  gives_step (Stmt-F.Continue at) t n a = one (plain at (leave_tests a))
  gives_step (Stmt-F.Return at value) t n a = join (one (plain at (return_tests a (is_some value)))) (valued value t n a)
  gives_step (Stmt-F.Do at label body) t n a = join (one (plain at (async_tests a)))
      (body_gives body t (opened (in_do label a.depth n)) (inside_do a))
  gives_step (Stmt-F.Async at body) t n a = join (one (plain at (body_tests a))) (part_gives body t (in_async n) (inside_async a))
  gives_step (Stmt-F.Cancel at label) t n a = one (plain at (cancel_tests (visible label n.labels) a))
  gives_step (Stmt-F.Yield at) t n a = one (plain at (async_tests a))

  abbrev pub stmt_step : Stmt-F (StmtPart X) → StmtPart X
  stmt_step = part_step (Gives X) gives_step

  abbrev pub stmt_all : Stmt → StmtPart X
  stmt_all = part_all (Gives X) gives_step

-- ---- with lists of nodes

abbrev pub stmt_nodes : Stmt → StmtPart (List Node)
stmt_nodes = stmt_all (List Node) one_node [] join_nodes

abbrev pub body_nodes : List Stmt → Gives (List Node)
body_nodes body = body_gives (List Node) one_node [] join_nodes (map stmt_nodes body)

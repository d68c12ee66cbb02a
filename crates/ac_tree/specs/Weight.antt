-- The weight of a program: tokens that each text of it has, added form by form. Not counted are the commas between arguments and
-- between parameters, the semicolon of an assignment, which is none in a `for`, the word `else`, the `=` before a value, the value of
-- a global, the word `async` of a function, and the word `void` for no parameters. So a program weighs at most as many tokens as
-- spell it, and may weigh less.
use Rattle.std.specs.Prelude.{ℕ, ◌+◌, ◌≤◌, List, [], ◌∷◌, map, Option, None, Some, Bool, true, false}
use Rattle.ac_tree.specs.declared.expr.Expr.{Expr, fold-Expr}
use Rattle.ac_tree.specs.declared.expr.Expr.TheOpen.{Expr-F, Link-F}
use Rattle.ac_tree.specs.declared.expr.Link.{Link}
use Rattle.ac_tree.specs.declared.stmt.Stmt.{Stmt}
use Rattle.ac_tree.specs.declared.stmt.Stmt.TheFolds.{fold-Stmt}
use Rattle.ac_tree.specs.declared.stmt.Stmt.TheOpen.{Stmt-F}
use Rattle.ac_tree.specs.declared.item.Item.{Item}
use Rattle.ac_tree.specs.declared.item.Item.TheVariants as i
use Rattle.ac_tree.specs.declared.item.Param.{Param}
use Rattle.ac_tree.specs.declared.item.Program.{Program}

abbrev pub total : List ℕ → ℕ
total [] = 0
total (n ∷ ns) = n + total ns

abbrev pub total_some : Option ℕ → ℕ
total_some None = 0
total_some (Some n) = n

abbrev pub expr_weigh : Expr-F ℕ ℕ → ℕ
expr_weigh (Expr-F.Number at value) = 1
expr_weigh (Expr-F.Const at which) = 1
expr_weigh (Expr-F.Name at name) = 1
expr_weigh (Expr-F.Index at name index) = 3 + index
expr_weigh (Expr-F.Group at inner) = 2 + inner
expr_weigh (Expr-F.Unary at op inner) = 1 + inner
expr_weigh (Expr-F.Chain at level first rest) = first + total rest
expr_weigh (Expr-F.Call at name args) = 3 + total args
expr_weigh (Expr-F.Send at channel value) = 5 + value
expr_weigh (Expr-F.Recv at channel place) = 6 + place
expr_weigh (Expr-F.Read at file from len array) = 8 + (from + len)
expr_weigh (Expr-F.Write at file from len array) = 8 + (from + len)

abbrev pub link_weigh : Link-F ℕ ℕ → ℕ
link_weigh link = 1 + link.operand

abbrev pub expr_weight : Expr → ℕ
expr_weight = fold-Expr ℕ ℕ expr_weigh link_weigh

-- the operators of a chain, each with its right operand
abbrev pub links_weight : List Link → ℕ
links_weight ls = total (map (λ l. 1 + expr_weight l.operand) ls)

abbrev pub exprs_weight : List Expr → ℕ
exprs_weight xs = total (map expr_weight xs)

abbrev pub value_weight : Option Expr → ℕ
value_weight None = 0
value_weight (Some x) = expr_weight x

abbrev pub label_weight : Option (List ℕ) → ℕ
label_weight None = 0
label_weight (Some name) = 2

abbrev pub stmt_weigh : Stmt-F ℕ → ℕ
stmt_weigh (Stmt-F.Block at body) = 2 + total body
stmt_weigh (Stmt-F.Empty at) = 1
stmt_weigh (Stmt-F.Int at name value) = 3 + value_weight value
stmt_weigh (Stmt-F.Array at name size) = 6
stmt_weigh (Stmt-F.Assign at place value) = 1 + (expr_weight place + expr_weight value)
stmt_weigh (Stmt-F.Call at call) = 1 + expr_weight call
stmt_weigh (Stmt-F.Print at format args) = 5 + exprs_weight args
stmt_weigh (Stmt-F.If at test body other) = 3 + (expr_weight test + (body + total_some other))
stmt_weigh (Stmt-F.While at test body) = 3 + (expr_weight test + body)
stmt_weigh (Stmt-F.For at init test next body) = 5 + (total_some init + (value_weight test + (total_some next + body)))
stmt_weigh (Stmt-F.Break at) = 2
stmt_weigh (Stmt-F.Continue at) = 2
stmt_weigh (Stmt-F.Return at value) = 2 + value_weight value
stmt_weigh (Stmt-F.Do at label body) = 5 + (label_weight label + total body)
stmt_weigh (Stmt-F.Async at body) = 1 + body
stmt_weigh (Stmt-F.Cancel at label) = 3
stmt_weigh (Stmt-F.Yield at) = 2

abbrev pub stmt_weight : Stmt → ℕ
stmt_weight = fold-Stmt ℕ stmt_weigh

abbrev pub some_weight : Option Stmt → ℕ
some_weight None = 0
some_weight (Some x) = stmt_weight x

abbrev pub body_weight : List Stmt → ℕ
body_weight body = total (map stmt_weight body)

abbrev pub param_weight : Bool → ℕ
param_weight true = 4
param_weight false = 2

abbrev pub params_weight : List Param → ℕ
params_weight xs = total (map (λ x. param_weight x.is_array) xs)

abbrev pub item_weight : Item → ℕ
item_weight (i.Global at name None value) = 3
item_weight (i.Global at name (Some size) value) = 6
item_weight (i.Function f) = 6 + (params_weight f.params + body_weight f.body)
item_weight (i.Channel at name from to cap) = 10
item_weight (i.File at name path) = 6
item_weight (i.Core at name entry) = 6

abbrev pub items_weight : List Item → ℕ
items_weight items = total (map item_weight items)

-- As each program is that at most 1,048,576 tokens spell. Numbers of 32 bits suffice for what such a program counts.
abbrev pub IsSmall : Program → Type 0
IsSmall p = items_weight p.items ≤ 1048576

-- How many calls and operations of a program are nested, which each once had to stand alone: as a statement, or as the whole of what is
-- assigned, of what an int begins with, or of the operand of a `return`. A group round one makes it nested.
use Rattle.std.specs.Prelude.{◌≡◌, ℕ, ◌+◌, List, map, Option, None, Some}
use Rattle.ac_tree.specs.Weight.{total, total_some}
use Rattle.ac_tree.specs.declared.expr.Expr.{Expr, fold-Expr}
use Rattle.ac_tree.specs.declared.expr.Expr.TheOpen.{Expr-F, Link-F}
use Rattle.ac_tree.specs.declared.stmt.Stmt.{Stmt}
use Rattle.ac_tree.specs.declared.stmt.Stmt.TheFolds.{fold-Stmt}
use Rattle.ac_tree.specs.declared.stmt.Stmt.TheOpen.{Stmt-F}
use Rattle.ac_tree.specs.declared.item.Item.{Item}
use Rattle.ac_tree.specs.declared.item.Item.TheVariants as i
use Rattle.ac_tree.specs.declared.item.Program.{Program}

-- ---- expressions

-- how many calls and operations an expression has, and how many of them are nested in it: all but the one that it may be itself
pub record Acts : Type 0 where
  pub all : ℕ
  pub nested : ℕ

-- an expression in whose parts there are so many: one that is no call and no operation itself, and one that is
abbrev pub no_act : ℕ → Acts
no_act n = record { all = n; nested = n }

abbrev pub one_act : ℕ → Acts
one_act n = record { all = n + 1; nested = n }

abbrev pub all_in : Acts → ℕ
all_in x = x.all

abbrev pub total_acts : List Acts → ℕ
total_acts xs = total (map all_in xs)

abbrev pub expr_step : Expr-F Acts ℕ → Acts
expr_step (Expr-F.Number at value) = no_act 0
expr_step (Expr-F.Const at which) = no_act 0
expr_step (Expr-F.Name at name) = no_act 0
expr_step (Expr-F.Index at name index) = no_act index.all
expr_step (Expr-F.Group at inner) = no_act inner.all
expr_step (Expr-F.Unary at op inner) = no_act inner.all
expr_step (Expr-F.Chain at level first rest) = no_act (first.all + total rest)
expr_step (Expr-F.Call at name args) = one_act (total_acts args)
expr_step (Expr-F.Send at channel value) = one_act value.all
expr_step (Expr-F.Recv at channel place) = one_act place.all
expr_step (Expr-F.Read at file from len array) = one_act (from.all + len.all)
expr_step (Expr-F.Write at file from len array) = one_act (from.all + len.all)

abbrev pub link_step : Link-F Acts ℕ → ℕ
link_step link = link.operand.all

abbrev pub acts : Expr → Acts
acts = fold-Expr Acts ℕ expr_step link_step

abbrev pub acts_in : Expr → ℕ
acts_in x = (acts x).all

abbrev pub nested_in : Expr → ℕ
nested_in x = (acts x).nested

abbrev pub some_acts : Option Expr → ℕ
some_acts None = 0
some_acts (Some x) = acts_in x

abbrev pub some_nested : Option Expr → ℕ
some_nested None = 0
some_nested (Some x) = nested_in x

-- ---- statements

abbrev pub stmt_step : Stmt-F ℕ → ℕ
stmt_step (Stmt-F.Block at body) = total body
stmt_step (Stmt-F.Empty at) = 0
stmt_step (Stmt-F.Int at name value) = some_nested value
stmt_step (Stmt-F.Array at name size) = 0
stmt_step (Stmt-F.Assign at place value) = acts_in place + nested_in value
stmt_step (Stmt-F.Call at call) = nested_in call
stmt_step (Stmt-F.Print at format args) = total (map acts_in args)
stmt_step (Stmt-F.If at test body other) = acts_in test + (body + total_some other)
stmt_step (Stmt-F.While at test body) = acts_in test + body
stmt_step (Stmt-F.For at init test next body) = total_some init + (some_acts test + (total_some next + body))
stmt_step (Stmt-F.Break at) = 0
stmt_step (Stmt-F.Continue at) = 0
stmt_step (Stmt-F.Return at value) = some_nested value
stmt_step (Stmt-F.Do at label body) = total body
stmt_step (Stmt-F.Async at body) = body
stmt_step (Stmt-F.Cancel at label) = 0
stmt_step (Stmt-F.Yield at) = 0

abbrev pub stmt_nested : Stmt → ℕ
stmt_nested = fold-Stmt ℕ stmt_step

-- ---- programs

abbrev pub item_nested : Item → ℕ
item_nested (i.Function f) = total (map stmt_nested f.body)
item_nested _ = 0

-- each call and each operation stands alone
abbrev pub StandAlone : Program → Type 0
StandAlone p = total (map item_nested p.items) ≡ 0

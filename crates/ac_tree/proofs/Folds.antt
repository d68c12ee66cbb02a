-- What a fold gives at each form of expression and statement, by what it gives of the parts: at a form it does not compute by itself.
-- So the form is taken for what it is rolled from, by its law in `TheVariants`, and there the fold's own law holds. The law names the
-- form, as in `expr_folds step link _ (e.rolls-Number at value)`. Only `if` and `for`, whose parts may be left out, need cases.
use Rattle.std.proofs.Common.{◌≡◌, ℕ, Option, Some, None, sym, ap, ◌∙◌}
use Rattle.std.specs.Prelude.{option_map}
use Rattle.ac_tree.specs.declared.expr.Expr.{Expr, roll-Expr, map-Expr, fold-Expr, fold-roll-Expr}
use Rattle.ac_tree.specs.declared.expr.Expr.TheOpen.{Expr-F, Link-F}
use Rattle.ac_tree.specs.declared.expr.Link.{Link, fold-Link, fold-roll-Link}
use Rattle.ac_tree.specs.declared.stmt.Stmt.{Stmt, roll-Stmt}
use Rattle.ac_tree.specs.declared.stmt.Stmt.TheFolds.{map-Stmt, fold-Stmt, fold-roll-Stmt}
use Rattle.ac_tree.specs.declared.stmt.Stmt.TheVariants as s
use Rattle.ac_tree.specs.declared.stmt.Stmt.TheOpen.{Stmt-F}

module _ {R L : Type 0} (step : Expr-F R L → R) (link : Link-F R L → L) where
  pub expr_folds : (form : Expr-F Expr Link) {x : Expr} → roll-Expr form ≡ x
      → fold-Expr R L step link x ≡ step (map-Expr Expr Link R L (fold-Expr R L step link) (fold-Link R L step link) form)
  expr_folds form is = ap (fold-Expr R L step link) (sym is) ∙ fold-roll-Expr R L step link form

  pub link_folds : (x : Link) → fold-Link R L step link x ≡ link (record { op = x.op; operand = fold-Expr R L step link x.operand })
  link_folds x = fold-roll-Link R L step link (record { op = x.op; operand = x.operand })

module _ {R : Type 0} (step : Stmt-F R → R) where
  pub stmt_folds : (form : Stmt-F Stmt) {x : Stmt} → roll-Stmt form ≡ x → fold-Stmt R step x ≡ step (map-Stmt Stmt R (fold-Stmt R step) form)
  stmt_folds form is = ap (fold-Stmt R step) (sym is) ∙ fold-roll-Stmt R step form

  -- the two forms with statements that may be left out
  pub if_folds : (at : ℕ) (test : Expr) (body : Stmt) (other : Option Stmt)
      → fold-Stmt R step (s.If at test body other) ≡ step (Stmt-F.If at test (fold-Stmt R step body) (option_map (fold-Stmt R step) other))
  if_folds at test body None = stmt_folds _ (s.rolls-If at test body None)
  if_folds at test body (Some x) = stmt_folds _ (s.rolls-If at test body (Some x))

  pub for_folds : (at : ℕ) (init : Option Stmt) (test : Option Expr) (next : Option Stmt) (body : Stmt)
      → fold-Stmt R step (s.For at init test next body)
      ≡ step (Stmt-F.For at (option_map (fold-Stmt R step) init) test (option_map (fold-Stmt R step) next) (fold-Stmt R step body))
  for_folds at None test None body = stmt_folds _ (s.rolls-For at None test None body)
  for_folds at None test (Some y) body = stmt_folds _ (s.rolls-For at None test (Some y) body)
  for_folds at (Some x) test None body = stmt_folds _ (s.rolls-For at (Some x) test None body)
  for_folds at (Some x) test (Some y) body = stmt_folds _ (s.rolls-For at (Some x) test (Some y) body)

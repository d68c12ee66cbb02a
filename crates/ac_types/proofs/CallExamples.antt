-- Programs with calls in sums, in indices, behind a sign and in a test: which of them breaks a rule.
-- The nodes are computed form by form, by what a fold gives at each.
use Rattle.std.proofs.Common.{◌≡◌, refl, ℕ, pos, List, [], ◌∷◌, codes, true, false, Some}
use Rattle.ac_tree.specs.declared.expr.Expr.{Expr}
use Rattle.ac_tree.specs.declared.expr.Expr.TheVariants as e
use Rattle.ac_tree.specs.declared.expr.BinaryOp.TheVariants as b
use Rattle.ac_tree.specs.declared.expr.UnaryOp.TheVariants as u
use Rattle.ac_tree.specs.declared.stmt.Stmt.TheVariants as s
use Rattle.ac_tree.specs.declared.item.Item.{Item}
use Rattle.ac_tree.specs.declared.item.Item.TheVariants as i
use Rattle.ac_tree.proofs.Folds.{link_folds}
use Rattle.ac_reach.specs.declared.reached.Reached.TheVariants as r
use Rattle.ac_types.specs.Items.{program_nodes}
use Rattle.ac_types.proofs.Forms.{of_expr, of_link, expr_is, stmt_is}
use Rattle.ac_types.proofs.Examples.{faults, a_number_at, a_function}

-- core a(f); async int f() { if (1+f()) h[1] = f(); else h[-f()] = 1; return Read(g, 1, 1, h); } int h[3]; file g("d"); void v() {}
-- and with calls of v, whose values are not there
abbrev call_at : List ℕ → ℕ → Expr
call_at name at = e.Call at name []

abbrev sum : List ℕ → Expr
sum name = e.Chain 31 9 (a_number_at 31) (record { op = b.Add; operand = call_at name 33 } ∷ [])

abbrev element : ℕ → Expr → Expr
element at index = e.Index at (codes "h") index

abbrev with_values : List ℕ → List Item
with_values name = i.Core 0 (codes "a") (codes "f")
    ∷ a_function 11 true true (codes "f") []
    (s.If 27 (sum name) (s.Assign 38 (element 38 (a_number_at 40)) (call_at name 45)) (Some (s.Assign 55 (element 55 (e.Unary 57 u.Neg (call_at name 58))) (a_number_at 65)))
    ∷ s.Return 68 (Some (e.Read 75 (codes "g") (a_number_at 83) (a_number_at 86) (codes "h"))) ∷ [])
    ∷ i.Global 95 (codes "h") (Some (pos 3)) (pos 0) ∷ i.File 105 (codes "g") (codes "d") ∷ a_function 115 false false (codes "v") [] [] ∷ []

pub calls_in_values : faults (program_nodes (with_values (codes "f")) (r.ByOne 0 ∷ r.ByOne 0 ∷ [])) ≡ []
calls_in_values = rw (
  stmt_is _ (s.rolls-If 27 (sum (codes "f")) (s.Assign 38 (element 38 (a_number_at 40)) (call_at (codes "f") 45)) (Some (s.Assign 55 (element 55 (e.Unary 57 u.Neg (call_at (codes "f") 58)))
      (a_number_at 65)))),
  expr_is _ (e.rolls-Chain 31 9 (a_number_at 31) (record { op = b.Add; operand = call_at (codes "f") 33 } ∷ [])),
  expr_is _ (e.rolls-Number 31 (pos 1)),
  link_folds of_expr of_link (record { op = b.Add; operand = call_at (codes "f") 33 }),
  expr_is _ (e.rolls-Call 33 (codes "f") []),
  stmt_is _ (s.rolls-Assign 38 (element 38 (a_number_at 40)) (call_at (codes "f") 45)),
  expr_is _ (e.rolls-Index 38 (codes "h") (a_number_at 40)),
  expr_is _ (e.rolls-Number 40 (pos 1)),
  expr_is _ (e.rolls-Call 45 (codes "f") []),
  stmt_is _ (s.rolls-Assign 55 (element 55 (e.Unary 57 u.Neg (call_at (codes "f") 58))) (a_number_at 65)),
  expr_is _ (e.rolls-Index 55 (codes "h") (e.Unary 57 u.Neg (call_at (codes "f") 58))),
  expr_is _ (e.rolls-Unary 57 u.Neg (call_at (codes "f") 58)),
  expr_is _ (e.rolls-Call 58 (codes "f") []),
  expr_is _ (e.rolls-Number 65 (pos 1)),
  stmt_is _ (s.rolls-Return 68 (Some (e.Read 75 (codes "g") (a_number_at 83) (a_number_at 86) (codes "h")))),
  expr_is _ (e.rolls-Read 75 (codes "g") (a_number_at 83) (a_number_at 86) (codes "h")),
  expr_is _ (e.rolls-Number 83 (pos 1)),
  expr_is _ (e.rolls-Number 86 (pos 1)),
) refl

pub void_calls_in_values : faults (program_nodes (with_values (codes "v")) (r.ByOne 0 ∷ r.ByOne 0 ∷ [])) ≡ (33, 12 ∷ []) ∷ (45, 12 ∷ []) ∷ (58, 12 ∷ []) ∷ []
void_calls_in_values = rw (
  stmt_is _ (s.rolls-If 27 (sum (codes "v")) (s.Assign 38 (element 38 (a_number_at 40)) (call_at (codes "v") 45)) (Some (s.Assign 55 (element 55 (e.Unary 57 u.Neg (call_at (codes "v") 58)))
      (a_number_at 65)))),
  expr_is _ (e.rolls-Chain 31 9 (a_number_at 31) (record { op = b.Add; operand = call_at (codes "v") 33 } ∷ [])),
  expr_is _ (e.rolls-Number 31 (pos 1)),
  link_folds of_expr of_link (record { op = b.Add; operand = call_at (codes "v") 33 }),
  expr_is _ (e.rolls-Call 33 (codes "v") []),
  stmt_is _ (s.rolls-Assign 38 (element 38 (a_number_at 40)) (call_at (codes "v") 45)),
  expr_is _ (e.rolls-Index 38 (codes "h") (a_number_at 40)),
  expr_is _ (e.rolls-Number 40 (pos 1)),
  expr_is _ (e.rolls-Call 45 (codes "v") []),
  stmt_is _ (s.rolls-Assign 55 (element 55 (e.Unary 57 u.Neg (call_at (codes "v") 58))) (a_number_at 65)),
  expr_is _ (e.rolls-Index 55 (codes "h") (e.Unary 57 u.Neg (call_at (codes "v") 58))),
  expr_is _ (e.rolls-Unary 57 u.Neg (call_at (codes "v") 58)),
  expr_is _ (e.rolls-Call 58 (codes "v") []),
  expr_is _ (e.rolls-Number 65 (pos 1)),
  stmt_is _ (s.rolls-Return 68 (Some (e.Read 75 (codes "g") (a_number_at 83) (a_number_at 86) (codes "h")))),
  expr_is _ (e.rolls-Read 75 (codes "g") (a_number_at 83) (a_number_at 86) (codes "h")),
  expr_is _ (e.rolls-Number 83 (pos 1)),
  expr_is _ (e.rolls-Number 86 (pos 1)),
) refl

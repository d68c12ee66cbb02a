-- That the program of two.ac breaks no rule.
-- Once it is known which functions its core reaches, the nodes are gone through by computing.
use Rattle.std.proofs.Common.{◌≡◌, refl, subst, ℕ, zero, suc, pos, List, [], ◌∷◌, codes, Option, None, Some}
use Rattle.std.specs.Prelude.{slice_get}
use Rattle.ac_tree.specs.declared.expr.Expr.TheVariants as e
use Rattle.ac_tree.specs.declared.expr.BinaryOp.TheVariants as b
use Rattle.ac_tree.specs.declared.stmt.Stmt.TheVariants as s
use Rattle.ac_tree.specs.declared.item.Program.{Program}
use Rattle.ac_tree.proofs.Folds.{link_folds}
use Rattle.ac_reach.specs.declared.reached.Reached.{Reached}
use Rattle.ac_reach.specs.declared.reached.Reached.TheVariants as r
use Rattle.ac_reach.specs.Reached.{IsReachedBy, ReachedFrom, is_entry, is_called}
use Rattle.ac_types.specs.inner.Seen.{first_of}
use Rattle.ac_types.specs.Items.{program_nodes}
use Rattle.ac_types.specs.Reached.{Reaches, all_calls, entries_of, AreReached, BreaksNone}
use Rattle.ac_types.proofs.Judging.{program_told}
use Rattle.ac_types.proofs.Forms.{of_expr, of_link, expr_is, stmt_is}
use Rattle.ac_resolve.proofs.Examples.{sum, product, link, one_core}

abbrev pub two_tree : Program
two_tree = one_core (s.Print 28 (codes "%d\n") (sum ∷ []) ∷ [])

-- ---- the core `a` reaches the function, and there is no other core

none_reached : (calls : List (List ℕ)) (entry : Option ℕ) (function : ℕ) → entry ≡ None → ReachedFrom calls entry function → ⊥
none_reached calls entry function e (is_entry _ h) = cc
none_reached calls entry function e (is_called caller _ h c) = none_reached calls entry caller e h

only_core : (core : ℕ) → Reaches two_tree.items core 0 → core ≡ 0
only_core zero h = refl
only_core (suc core) h = absurd (none_reached (all_calls two_tree.items) _ 0 refl h)

same_core : (a b : ℕ) → Some (r.ByOne a) ≡ Some (r.ByOne b) → a ≡ b
same_core a b e = cc

reached_by_a : AreReached two_tree.items (r.ByOne 0 ∷ [])
reached_by_a = record { count = refl; each = each } where
  each : (function : ℕ) (row : Reached) → slice_get (r.ByOne 0 ∷ []) function ≡ Some row → IsReachedBy (all_calls two_tree.items) (entries_of two_tree.items) function row
  each zero r.ByNone e = cc
  each zero r.BySeveral e = cc
  each zero (r.ByOne k) e = subst (λ (k : ℕ). Reaches two_tree.items k 0 × ((core : ℕ) → Reaches two_tree.items core 0 → core ≡ k)) (same_core 0 k e) (is_entry 0 refl, only_core)
  each (suc function) row e = cc

-- ---- no node breaks a rule

none_broken : None ≡ first_of (program_nodes two_tree.items (r.ByOne 0 ∷ []))
none_broken = rw (
  stmt_is _ (s.rolls-Print 28 (codes "%d\n") (sum ∷ [])),
  expr_is _ (e.rolls-Chain 43 9 (e.Number 43 (pos 1)) (link b.Add product ∷ [])),
  expr_is _ (e.rolls-Number 43 (pos 1)),
  link_folds of_expr of_link (link b.Add product),
  expr_is _ (e.rolls-Chain 45 10 (e.Number 45 (pos 2)) (link b.Mul (e.Number 47 (pos 3)) ∷ [])),
  expr_is _ (e.rolls-Number 45 (pos 2)),
  link_folds of_expr of_link (link b.Mul (e.Number 47 (pos 3))),
  expr_is _ (e.rolls-Number 47 (pos 3)),
) refl

pub two_is_clean : BreaksNone two_tree.items
two_is_clean = program_told two_tree.items (r.ByOne 0 ∷ []) reached_by_a None none_broken

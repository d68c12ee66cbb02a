-- A walk after a chain and after a call, which the function sees part by part. At a form the fold gives what the parts give, joined; so
-- the states between the parts are put for one another.
use Rattle.std.proofs.Common.{◌≡◌, ℕ, List, length, map, Option, None, sym, ap, ◌∙◌}
use Rattle.std.proofs.lemmas.List.{length-map}
use Rattle.ac_tree.specs.declared.expr.Expr.{Expr}
use Rattle.ac_tree.specs.declared.expr.Expr.TheVariants as e
use Rattle.ac_tree.specs.declared.expr.Link.{Link}
use Rattle.ac_tree.proofs.Folds.{expr_folds}
use Rattle.ac_names.specs.declared.meaning.Meaning.{Meaning}
use Rattle.ac_names.specs.Scopes.{Declaration, visible}
use Rattle.ac_types.specs.declared.around.Around.{Around}
use Rattle.ac_types.specs.declared.around.Position.{Position}
use Rattle.ac_types.specs.declared.around.Position.TheVariants as p
use Rattle.ac_types.specs.declared.numbered.Callee.{Callee}
use Rattle.ac_types.specs.declared.numbered.Tables.{Tables}
use Rattle.ac_types.specs.declared.rule.Rule.{Rule}
use Rattle.ac_types.specs.declared.seen.Seen.{Seen}
use Rattle.ac_types.specs.Tables.{callee}
use Rattle.ac_types.specs.Judged.{value_tests, call_tests}
use Rattle.ac_types.specs.Expressions.{number_of, call_node}
use Rattle.ac_types.specs.inner.Seen.{least_broken, noted, noted_by, expr_seen, links_seen, args_seen}
use Rattle.ac_types.proofs.Agrees.{SeenTold, told_seen, seen_step, seen_link}

module _ (t : Tables) (s : List (List Declaration)) (a : Around) (w : Position) (x : Expr) where
  -- what is seen of an expression that is told so
  seen_as : {y : SeenTold} (u : Seen) → told_seen x ≡ y → y.1 t s a w u ≡ expr_seen x t s a w u
  seen_as {y} u h = ap (λ (q : SeenTold). q.1 t s a w u) (sym h)

  pub chain_after : (at level : ℕ) (first first2 : Expr) (rest rest2 : List Link) (rule : Option Rule) (u u1 u2 u3 : Seen) → x ≡ e.Chain at level first rest
      → rule ≡ least_broken (value_tests w) → u1 ≡ noted_by at rule None None u → first2 ≡ first → u2 ≡ expr_seen first2 t s a p.Value u1 → rest2 ≡ rest → u3 ≡ links_seen rest2 t s a u2
      → u3 ≡ expr_seen x t s a w u
  chain_after at level first first2 rest rest2 rule u u1 u2 u3 is er e1 ef e2 es e3 =
      e3 ∙ ap (λ (ls : List Link). links_seen ls t s a u2) es
      ∙ ap (links_seen rest t s a)
      (e2 ∙ ap (λ (y : Expr). expr_seen y t s a p.Value u1) ef ∙ ap (expr_seen first t s a p.Value) (e1 ∙ ap (λ (r : Option Rule). noted_by at r None None u) er))
      ∙ seen_as u (ap told_seen is ∙ expr_folds seen_step seen_link _ (e.rolls-Chain at level first rest))

  pub call_after : (at : ℕ) (name : List ℕ) (args args2 : List Expr) (meaning : Option Meaning) (f : Option Callee) (count : ℕ) (rule : Option Rule) (number : Option ℕ) (u u1 u2 : Seen)
      → x ≡ e.Call at name args → meaning ≡ visible name s → f ≡ callee t meaning → count ≡ length args → rule ≡ least_broken (call_tests meaning f count a w) → number ≡ number_of f
      → u1 ≡ noted_by at rule number None u → args2 ≡ args → u2 ≡ args_seen meaning 0 args2 t s a u1 → u2 ≡ expr_seen x t s a w u
  call_after at name args args2 meaning f count rule number u u1 u2 is em ef ec er en e1 es e2 =
      e2 ∙ ap (λ (xs : List Expr). args_seen meaning 0 xs t s a u1) es
      ∙ ap (args_seen meaning 0 args t s a)
      (e1 ∙ ap (λ (r : Option Rule). noted_by at r number None u) er ∙ ap (λ (k : Option ℕ). noted_by at (least_broken (call_tests meaning f count a w)) k None u) en)
      ∙ ap (λ (k : Option Callee). args_seen meaning 0 args t s a (noted (call_node at meaning k count a w) u)) ef
      ∙ ap (λ (n : ℕ). args_seen meaning 0 args t s a (noted (call_node at meaning (callee t meaning) n a w) u)) (ec ∙ sym (length-map args told_seen))
      ∙ ap (λ (m : Option Meaning). args_seen m 0 args t s a (noted (call_node at m (callee t m) (length (map told_seen args)) a w) u)) em
      ∙ seen_as u (ap told_seen is ∙ expr_folds seen_step seen_link _ (e.rolls-Call at name args))

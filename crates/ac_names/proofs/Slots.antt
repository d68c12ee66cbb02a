-- What statements take of slots, by what they weigh: at most 683 for each unit of weight. An array takes at most 4,096 and weighs 6,
-- and all else takes one or none. By induction on the statement, with one line for each form.
use Rattle.std.proofs.Common.{◌≡◌, ℕ, ◌*◌, ◌≤◌, Bool, true, false, List, [], ◌∷◌, map, Some, None, refl, sym, ap, ◌∙◌, arith}
use Rattle.std.specs.Prelude.{ℤ, pos, negsuc, nat_le, if◌then◌else◌}
use Rattle.std.proofs.lemmas.Bool.Decides.{nat_tests}
use Rattle.ac_tree.specs.declared.stmt.Stmt.{Stmt}
use Rattle.ac_tree.specs.declared.stmt.Stmt.TheFolds.{fold-roll-Stmt, ind-Stmt, map-Stmt}
use Rattle.ac_tree.specs.declared.stmt.Stmt.TheOpen.{Stmt-F}
use Rattle.ac_tree.specs.Weight.{total, stmt_weigh, stmt_weight}
use Rattle.ac_names.specs.Statements.{Part, array_len, part_words, part_step, part_all, sum_words}

pub few_elements : (size : ℤ) → array_len size ≤ 4096
few_elements (pos n) = by (nat_le n 4096) refl where
  by : (b : Bool) → nat_le n 4096 ≡ b → (if b then n else 0) ≤ 4096
  by true e = grind (arith, nat_tests, e)
  by false e = omega arith
few_elements (negsuc n) = omega arith

module _ (X : Type 0) (gives : Stmt-F (Part X) → X) where
  abbrev Claim : Stmt → Type 0
  Claim x = part_words (part_all X gives x) ≤ 683 * stmt_weight x

  abbrev Stmt_ : Type 0
  Stmt_ = (x : Stmt) × Claim x

  abbrev stmts_of : List Stmt_ → List Stmt
  stmts_of xs = map (λ x. x.0) xs

  sum_few : (xs : List Stmt_) → sum_words (map (part_all X gives) (stmts_of xs)) ≤ 683 * total (map stmt_weight (stmts_of xs))
  sum_few [] = omega arith
  sum_few (x ∷ xs) = let h = sum_few xs in let k = x.1 in omega (arith, h, k)

  abbrev told_layer : Stmt-F Stmt_ → Part X
  told_layer y = part_step X gives (map-Stmt Stmt (Part X) (part_all X gives) (map-Stmt Stmt_ Stmt (λ x. x.0) y))

  abbrev weight_layer : Stmt-F Stmt_ → ℕ
  weight_layer y = stmt_weigh (map-Stmt Stmt ℕ stmt_weight (map-Stmt Stmt_ Stmt (λ x. x.0) y))

  none : (n : ℕ) → 0 ≤ n
  none n = omega arith

  layer : (y : Stmt-F Stmt_) → part_words (told_layer y) ≤ 683 * weight_layer y
  layer (Stmt-F.Block at body) = let h = sum_few body in omega (arith, h)
  layer (Stmt-F.Empty at) = none _
  layer (Stmt-F.Int at name value) = omega arith
  layer (Stmt-F.Array at name size) = let h = few_elements size in omega (arith, h)
  layer (Stmt-F.Assign at place value) = none _
  layer (Stmt-F.Call at call) = none _
  layer (Stmt-F.Print at format args) = none _
  layer (Stmt-F.If at test body None) = let h = body.1 in omega (arith, h)
  layer (Stmt-F.If at test body (Some x)) = let h = body.1 in let k = x.1 in omega (arith, h, k)
  layer (Stmt-F.While at test body) = let h = body.1 in omega (arith, h)
  layer (Stmt-F.For at None test None body) = let h = body.1 in omega (arith, h)
  layer (Stmt-F.For at None test (Some y) body) = let h = body.1 in let k = y.1 in omega (arith, h, k)
  layer (Stmt-F.For at (Some x) test None body) = let h = body.1 in let k = x.1 in omega (arith, h, k)
  layer (Stmt-F.For at (Some x) test (Some y) body) = let h = body.1 in let k = x.1 in let j = y.1 in omega (arith, h, k, j)
  layer (Stmt-F.Break at) = none _
  layer (Stmt-F.Continue at) = none _
  layer (Stmt-F.Return at value) = none _
  layer (Stmt-F.Do at label body) = let h = sum_few body in omega (arith, h)
  layer (Stmt-F.Async at body) = none _
  layer (Stmt-F.Cancel at label) = none _
  layer (Stmt-F.Yield at) = none _

  same_few : (q r : Part X) (m n : ℕ) → q ≡ r → m ≡ n → part_words r ≤ 683 * n → part_words q ≤ 683 * m
  same_few q r m n e f h = let g : part_words q ≡ part_words r = ap (λ (k : Part X). part_words k) e in omega (arith, g, f, h)

  pub words_few : (x : Stmt) → Claim x
  words_few = ind-Stmt Claim
      (λ x y is.
      same_few _ (told_layer y) _ (weight_layer y)
      (fold-roll-Stmt (Part X) (part_step X gives) x ∙ sym (ap (λ z. part_step X gives (map-Stmt Stmt (Part X) (part_all X gives) z)) is))
      (fold-roll-Stmt ℕ stmt_weigh x ∙ sym (ap (λ z. stmt_weigh (map-Stmt Stmt ℕ stmt_weight z)) is))
      (layer y))

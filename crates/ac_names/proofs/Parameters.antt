-- The names after the parameters of a function: only the innermost scope and the slot change, and there are as many slots as
-- parameters. Each law is by recursion on the parameters. A program is small, so their slots have room in 32 bits.
use Rattle.std.proofs.Common.{◌≡◌, ℕ, ◌+◌, ◌<◌, ◌≤◌, Bool, true, false, List, [], ◌∷◌, length, refl, ap, ◌∙◌, arith}
use Rattle.ac_tree.specs.declared.item.Function.{Function}
use Rattle.ac_tree.specs.declared.item.Param.{Param}
use Rattle.ac_tree.specs.Weight.{param_weight, params_weight, body_weight}
use Rattle.ac_names.specs.declared.meaning.Meaning.{Meaning}
use Rattle.ac_names.specs.declared.names.Names.{Names}
use Rattle.ac_names.specs.Scopes.{Declaration, declared, closed}
use Rattle.ac_names.specs.Items.{param_at, param_named, params_named}

closed_one : (name : List ℕ) (m : Meaning) (scopes : List (List Declaration)) → closed (declared name m scopes) ≡ closed scopes
closed_one name m [] = refl
closed_one name m (x ∷ xs) = refl

pub params_closed : (xs : List Param) (n : Names) → closed (params_named xs n).scopes ≡ closed n.scopes
params_closed [] n = refl
params_closed (x ∷ xs) n = params_closed xs (param_named x n) ∙ closed_one x.name (param_at x.is_array n.slot) n.scopes

pub params_labels : (xs : List Param) (n : Names) → (params_named xs n).labels ≡ n.labels
params_labels [] n = refl
params_labels (x ∷ xs) n = params_labels xs (param_named x n)

pub params_slot : (xs : List Param) (n : Names) → (params_named xs n).slot ≡ n.slot + length xs
params_slot [] n = omega arith
params_slot (x ∷ xs) n = let h = params_slot xs (param_named x n) in omega (arith, h)

pub few_params : (xs : List Param) → length xs ≤ params_weight xs
few_params [] = omega arith
few_params (x ∷ xs) = let h = few_params xs in let k = one_param x.is_array in omega (arith, h, k) where
  one_param : (b : Bool) → 1 ≤ param_weight b
  one_param true = omega arith
  one_param false = omega arith

pub params_room : (f : Function) (ps : List Param) (slot : ℕ) → ps ≡ f.params → slot ≡ 0 → params_weight f.params + body_weight f.body ≤ 1048576 → slot + length ps < 4294967296
params_room f ps slot e n small =
    let few = few_params f.params in
    let m : length ps ≡ length f.params = ap length e in
    omega (arith, few, m, n, small)

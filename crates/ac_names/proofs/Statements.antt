-- The names after the statements of a list. A declaration changes the innermost scope alone, so closing that scope leaves only the
-- slots that were taken; and what a statement declares is the same, whatever else is told of it, by its form.
use Rattle.std.proofs.Common.{◌≡◌, ℕ, ◌+◌, List, [], ◌∷◌, Option, Some, None, refl, sym, ap, ◌∙◌, arith}
use Rattle.ac_tree.specs.declared.stmt.Stmt.{Stmt}
use Rattle.ac_tree.specs.declared.stmt.Stmt.TheFolds.{fold-roll-Stmt, ind-Stmt, map-Stmt}
use Rattle.ac_tree.specs.declared.stmt.Stmt.TheOpen.{Stmt-F}
use Rattle.ac_names.specs.declared.names.Names.{Names}
use Rattle.ac_names.specs.Scopes.{Declaration, declared, closed}
use Rattle.ac_names.specs.Statements.{Named, Part, part_names, part_words, part_step, part_all, Shape, shape_step, shape, declares}
use Rattle.ac_names.specs.Statements.{declared_at, meaning_at, listed, names_after, sum_words, some_words, some_listed, opened, shut, moved}

-- ---- names by their parts

abbrev pub names_of : List (List Declaration) → List (List Declaration) → ℕ → Names
names_of scopes labels slot = record { scopes = scopes; labels = labels; slot = slot }

pub same_names : (s1 s2 l1 l2 : List (List Declaration)) (n1 n2 : ℕ) → s1 ≡ s2 → l1 ≡ l2 → n1 ≡ n2 → names_of s1 l1 n1 ≡ names_of s2 l2 n2
same_names s1 s2 l1 l2 n1 n2 e f g = ap (λ x. names_of x l1 n1) e ∙ ap (λ x. names_of s2 x n1) f ∙ ap (λ x. names_of s2 l2 x) g

-- ---- a declaration changes nothing outside the innermost scope

closed_declared : (name : List ℕ) (n : Option ℕ) (depth slot : ℕ) (scopes : List (List Declaration)) → closed (declared name (meaning_at n depth slot) scopes) ≡ closed scopes
closed_declared name n depth slot [] = refl
closed_declared name n depth slot (x ∷ xs) = refl

closed_at : (named : Option Named) (depth slot : ℕ) (scopes : List (List Declaration)) → closed (declared_at named depth slot scopes) ≡ closed scopes
closed_at None depth slot scopes = refl
closed_at (Some n) depth slot scopes = closed_declared n.name n.len depth slot scopes

add_assoc : (x y z : ℕ) → (x + y) + z ≡ x + (y + z)
add_assoc x y z = omega arith

pub add_none : (x : ℕ) → x ≡ x + 0
add_none x = omega arith

module _ {X : Type 0} where
  pub after_closed : (ps : List (Part X)) (depth : ℕ) (n : Names) → closed (names_after ps depth n).scopes ≡ closed n.scopes
  after_closed [] depth n = refl
  after_closed (p ∷ ps) depth n = after_closed ps depth (listed p depth n) ∙ closed_at (part_names p) depth n.slot n.scopes

  pub after_labels : (ps : List (Part X)) (depth : ℕ) (n : Names) → (names_after ps depth n).labels ≡ n.labels
  after_labels [] depth n = refl
  after_labels (p ∷ ps) depth n = after_labels ps depth (listed p depth n)

  pub after_slot : (ps : List (Part X)) (depth : ℕ) (n : Names) → (names_after ps depth n).slot ≡ n.slot + sum_words ps
  after_slot [] depth n = add_none n.slot
  after_slot (p ∷ ps) depth n = after_slot ps depth (listed p depth n) ∙ add_assoc n.slot (part_words p) (sum_words ps)

  -- in a scope of their own only their slots are left
  pub names_shut : (ps : List (Part X)) (depth : ℕ) (n : Names) → shut (names_after ps depth (opened n)) ≡ moved n (sum_words ps)
  names_shut ps depth n =
      same_names (closed (names_after ps depth (opened n)).scopes) n.scopes (names_after ps depth (opened n)).labels n.labels (names_after ps depth (opened n)).slot (n.slot + sum_words ps)
      (after_closed ps depth (opened n)) (after_labels ps depth (opened n)) (after_slot ps depth (opened n))

  pub listed_closed : (p : Option (Part X)) (depth : ℕ) (n : Names) → closed (some_listed p depth n).scopes ≡ closed n.scopes
  listed_closed None depth n = refl
  listed_closed (Some p) depth n = closed_at (part_names p) depth n.slot n.scopes

  pub listed_labels : (p : Option (Part X)) (depth : ℕ) (n : Names) → (some_listed p depth n).labels ≡ n.labels
  listed_labels None depth n = refl
  listed_labels (Some p) depth n = refl

  pub listed_slot : (p : Option (Part X)) (depth : ℕ) (n : Names) → (some_listed p depth n).slot ≡ n.slot + some_words p
  listed_slot None depth n = add_none n.slot
  listed_slot (Some p) depth n = refl

-- ---- what a statement declares is the same, whatever else is told of it

module _ (X : Type 0) (gives : Stmt-F (Part X) → X) where
  abbrev Claim : Stmt → Type 0
  Claim x = part_names (part_all X gives x) ≡ declares x

  abbrev Stmt_ : Type 0
  Stmt_ = (x : Stmt) × Claim x

  abbrev whole_layer : Stmt-F Stmt_ → Part X
  whole_layer y = part_step X gives (map-Stmt Stmt (Part X) (part_all X gives) (map-Stmt Stmt_ Stmt (λ x. x.0) y))

  abbrev shape_layer : Stmt-F Stmt_ → Shape
  shape_layer y = shape_step (map-Stmt Stmt Shape shape (map-Stmt Stmt_ Stmt (λ x. x.0) y))

  layer : (y : Stmt-F Stmt_) → part_names (whole_layer y) ≡ part_names (shape_layer y)
  layer (Stmt-F.Int at name value) = refl
  layer (Stmt-F.Array at name size) = refl
  layer _ = refl

  pub names_told : (x : Stmt) → Claim x
  names_told = ind-Stmt Claim
      (λ x y is.
      ap (λ (p : Part X). part_names p) (fold-roll-Stmt (Part X) (part_step X gives) x ∙ sym (ap (λ z. part_step X gives (map-Stmt Stmt (Part X) (part_all X gives) z)) is))
      ∙ layer y
      ∙ sym (ap (λ (p : Shape). part_names p) (fold-roll-Stmt Shape shape_step x ∙ sym (ap (λ z. shape_step (map-Stmt Stmt Shape shape z)) is))))

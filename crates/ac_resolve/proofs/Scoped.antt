-- A walk after a scope, and after a statement of a list. The states between opening, going through and closing are put for one another;
-- a scope that is closed leaves only its slots and texts.
use Rattle.std.proofs.Common.{◌≡◌, ℕ, List, [], ◌∷◌, sym, ap, ◌∙◌}
use Rattle.ac_tree.specs.declared.stmt.Stmt.{Stmt}
use Rattle.ac_names.specs.declared.names.Names.{Names}
use Rattle.ac_names.specs.Scopes.{Declaration, closed}
use Rattle.ac_names.specs.Statements.{Shape, part_names, part_words, declares, declared_in, opened, moved}
use Rattle.ac_names.proofs.Statements.{names_of, names_shut}
use Rattle.ac_resolve.specs.declared.walk.Walk.{Walk}
use Rattle.ac_resolve.specs.Commands.{Texts, Told, shapes, all_texts, told}
use Rattle.ac_resolve.specs.inner.Walks.{after, after_listed, after_body, after_scope}
use Rattle.ac_resolve.proofs.Shapes.{shape_is}

abbrev pub walk_of : Names → Texts → Walk
walk_of n texts = record { names = n; texts = texts }

abbrev pub shut : Walk → Walk
shut w = walk_of (names_of (closed w.names.scopes) w.names.labels w.names.slot) w.texts

abbrev pub open_in : Walk → Walk
open_in w = walk_of (opened w.names) w.texts

shut_body : (qs : List Told) (depth : ℕ) (w : Walk) → shut (after_body qs depth (open_in w)) ≡ after_scope qs w
shut_body qs depth w = ap (λ n. walk_of n (all_texts qs w.texts)) (names_shut (shapes qs) depth w.names)

module _ (qs : List Told) (depth : ℕ) (w : Walk) (o : List (List Declaration)) (e : o ≡ [] ∷ w.names.scopes) where
  pub scope_after : (v : Walk) (k : List (List Declaration)) → v ≡ after_body qs depth (walk_of (names_of o w.names.labels w.names.slot) w.texts) → k ≡ closed v.names.scopes →
      walk_of (names_of k v.names.labels v.names.slot) v.texts ≡ after_scope qs w
  scope_after v k f g =
      ap (λ x. walk_of (names_of x v.names.labels v.names.slot) v.texts) g
      ∙ ap (λ (x : Walk). shut x) (f ∙ ap (λ x. after_body qs depth (walk_of (names_of x w.names.labels w.names.slot) w.texts)) e)
      ∙ shut_body qs depth w

-- ---- a statement of a list

pub listed_after : (x : Stmt) (depth : ℕ) (w v : Walk) (k : Names) → v ≡ after (told x) w → k ≡ declared_in (declares x) depth w.names.slot v.names → walk_of k v.texts ≡ after_listed (told x) depth w
listed_after x depth w v k e f =
    ap (λ z. walk_of z v.texts) f
    ∙ ap (λ (z : Walk). walk_of (declared_in (declares x) depth w.names.slot z.names) z.texts) e
    ∙ ap (λ (s : Shape). walk_of (declared_in (part_names s) depth w.names.slot (moved w.names (part_words (told x).shape))) ((told x).texts w.texts)) (sym (shape_is x))

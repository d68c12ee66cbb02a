-- A walk after compound statements. The function goes through the parts one after the other, and the definition tells them at once;
-- each law puts the states between the parts for one another and adds up the slots. In a scope that is closed only slots are left.
use Rattle.std.proofs.Common.{◌≡◌, ℕ, ◌+◌, List, [], ◌∷◌, Option, Some, None, refl, sym, ap, ◌∙◌, arith}
use Rattle.ac_tree.specs.declared.expr.Expr.{Expr}
use Rattle.ac_tree.specs.declared.stmt.Stmt.{Stmt}
use Rattle.ac_tree.specs.declared.stmt.Stmt.TheVariants as s
use Rattle.ac_tree.proofs.Folds.{if_folds, for_folds}
use Rattle.ac_types.specs.declared.around.Around.{Around}
use Rattle.ac_types.specs.declared.numbered.Tables.{Tables}
use Rattle.ac_types.specs.declared.seen.Seen.{Seen}
use Rattle.ac_names.specs.declared.names.Names.{Names}
use Rattle.ac_types.specs.declared.statements.Walk.{Walk}
use Rattle.ac_names.specs.Scopes.{Declaration, closed}
use Rattle.ac_types.specs.Around.{inside_loop}
use Rattle.ac_types.specs.inner.Seen.{noted, unseen, join_seen}
use Rattle.ac_names.specs.Statements.{part_words, declares, declared_in, some_words, some_listed, listed, moved, opened}
use Rattle.ac_names.proofs.Statements.{names_of, same_names, names_shut, names_told, listed_closed, listed_labels, listed_slot, add_none}
use Rattle.ac_types.specs.inner.Statements.{SeenPart, seen_step, stmt_seen, some_seen, if_seen, for_seen, bodies, after, after_listed}
use Rattle.ac_types.specs.inner.Statements.{after_some, after_init, after_body, after_scope, after_value, after_test, after_open, after_shut}
use Rattle.ac_types.specs.Statements.{Gives, gives_step}

-- ---- a scope

abbrev pub walk_of : Names → Seen → Walk
walk_of n seen = record { names = n; seen = seen }

shut_body : (t : Tables) (a : Around) (ps : List SeenPart) (w : Walk) → after_shut (after_body t a ps (walk_of (opened w.names) w.seen)) ≡ after_scope t a ps w
shut_body t a ps w = ap (λ n. walk_of n (bodies ps t (opened w.names) a w.seen)) (names_shut ps a.depth w.names)

pub scope_after : (t : Tables) (a : Around) (ps : List SeenPart) (w v : Walk) (o c : List (List Declaration)) → o ≡ [] ∷ w.names.scopes →
    v ≡ after_body t a ps (walk_of (names_of o w.names.labels w.names.slot) w.seen) → c ≡ closed v.names.scopes →
    walk_of (names_of c v.names.labels v.names.slot) v.seen ≡ after_scope t a ps w
scope_after t a ps w v o c e f g =
    ap (λ x. walk_of (names_of x v.names.labels v.names.slot) v.seen) g
    ∙ ap (λ (x : Walk). after_shut x) (f ∙ ap (λ x. after_body t a ps (walk_of (names_of x w.names.labels w.names.slot) w.seen)) e)
    ∙ shut_body t a ps w

-- ---- `if`

moved_walk : (x : Walk) (m n : ℕ) → m ≡ n → walk_of (names_of x.names.scopes x.names.labels m) x.seen ≡ walk_of (names_of x.names.scopes x.names.labels n) x.seen
moved_walk x m n e = ap (λ k. walk_of (names_of x.names.scopes x.names.labels k) x.seen) e

if_walk : (t : Tables) (a : Around) (at : ℕ) (test : Expr) (body : SeenPart) (other : Option SeenPart) (w : Walk) →
    after_some t a other (after t a body (after_test t a at test w)) ≡ after t a (if_seen at test body other) w
if_walk t a at test body None w = moved_walk (after t a body (after_test t a at test w)) (w.names.slot + part_words body) (w.names.slot + (part_words body + 0)) (omega arith)
if_walk t a at test body (Some other) w =
    moved_walk (after t a other (after t a body (after_test t a at test w))) ((w.names.slot + part_words body) + part_words other) (w.names.slot + (part_words body + part_words other)) (omega arith)

pub if_after : (t : Tables) (a : Around) (x : Stmt) (at : ℕ) (test : Expr) (body body2 : Stmt) (other : Option Stmt) (w v u z : Walk) → x ≡ s.If at test body other →
    v ≡ after_test t a at test w → body2 ≡ body → u ≡ after t a (stmt_seen body2) v → z ≡ after_some t a (some_seen other) u → z ≡ after t a (stmt_seen x) w
if_after t a x at test body body2 other w v u z is e same f g =
    g ∙ ap (after_some t a (some_seen other)) (f ∙ ap (λ b. after t a (stmt_seen b) v) same ∙ ap (after t a (stmt_seen body)) e)
    ∙ if_walk t a at test (stmt_seen body) (some_seen other) w
    ∙ ap (λ q. after t a q w) (sym (if_folds seen_step at test body other) ∙ ap stmt_seen (sym is))

-- ---- `for`

abbrev for_walk : Tables → Around → ℕ → Option SeenPart → Option Expr → Option SeenPart → SeenPart → Walk → Walk
for_walk t a at init test next body w = after t (inside_loop a) body (after_some t a next (after_value t a test (after_init t a init (after_open at w))))

for_slot : (init next : Option SeenPart) (body : SeenPart) (a : Around) (n : Names) →
    ((some_listed init a.depth (opened n)).slot + some_words next) + part_words body ≡ n.slot + ((some_words init + some_words next) + part_words body)
for_slot init next body a n = let e = listed_slot init a.depth (opened n) in omega (arith, e)

for_names : (init next : Option SeenPart) (body : SeenPart) (a : Around) (n : Names) →
    names_of (closed (some_listed init a.depth (opened n)).scopes) (some_listed init a.depth (opened n)).labels (((some_listed init a.depth (opened n)).slot + some_words next) + part_words body)
    ≡ moved n ((some_words init + some_words next) + part_words body)
for_names init next body a n =
    same_names (closed (some_listed init a.depth (opened n)).scopes) n.scopes (some_listed init a.depth (opened n)).labels n.labels
    (((some_listed init a.depth (opened n)).slot + some_words next) + part_words body) (n.slot + ((some_words init + some_words next) + part_words body))
    (listed_closed init a.depth (opened n)) (listed_labels init a.depth (opened n)) (for_slot init next body a n)

-- without a third part nothing moves
slot_none : (n : Names) → n ≡ moved n 0
slot_none n = same_names n.scopes n.scopes n.labels n.labels n.slot (n.slot + 0) refl refl (add_none n.slot)

shut_for : (t : Tables) (a : Around) (at : ℕ) (init : Option SeenPart) (test : Option Expr) (next : Option SeenPart) (body : SeenPart) (w : Walk) →
    after_shut (for_walk t a at init test next body w) ≡ after t a (for_seen at init test next body) w
shut_for t a at None test None body w =
    ap (λ n. after_shut (after t (inside_loop a) body (walk_of n (after_value t a test (after_open at w)).seen))) (slot_none (opened w.names))
    ∙ ap (λ n. walk_of n (after t (inside_loop a) body (walk_of (moved (opened w.names) 0) (after_value t a test (after_open at w)).seen)).seen) (for_names None None body a w.names)
shut_for t a at None test (Some q) body w =
    ap (λ n. walk_of n (for_walk t a at None test (Some q) body w).seen) (for_names None (Some q) body a w.names)
shut_for t a at (Some r) test None body w =
    ap (λ n. after_shut (after t (inside_loop a) body (walk_of n (after_value t a test (after_listed t a r (after_open at w))).seen))) (slot_none (listed r a.depth (opened w.names)))
    ∙ ap (λ n. walk_of n (after t (inside_loop a) body (walk_of (moved (listed r a.depth (opened w.names)) 0) (after_value t a test (after_listed t a r (after_open at w))).seen)).seen)
    (for_names (Some r) None body a w.names)
shut_for t a at (Some r) test (Some q) body w =
    ap (λ n. walk_of n (for_walk t a at (Some r) test (Some q) body w).seen) (for_names (Some r) (Some q) body a w.names)

pub for_after : (t : Tables) (a a2 : Around) (x : Stmt) (at : ℕ) (init : Option Stmt) (test : Option Expr) (next : Option Stmt) (body body2 : Stmt) (w w1 w2 w3 w4 w5 : Walk)
    (c : List (List Declaration)) →
    x ≡ s.For at init test next body → w1 ≡ after_open at w → w2 ≡ after_init t a (some_seen init) w1 → w3 ≡ after_value t a test w2 → w4 ≡ after_some t a (some_seen next) w3 →
    a2 ≡ inside_loop a → body2 ≡ body → w5 ≡ after t a2 (stmt_seen body2) w4 → c ≡ closed w5.names.scopes →
    walk_of (names_of c w5.names.labels w5.names.slot) w5.seen ≡ after t a (stmt_seen x) w
for_after t a a2 x at init test next body body2 w w1 w2 w3 w4 w5 c is e1 e2 e3 e4 l same e5 g =
    ap (λ k. walk_of (names_of k w5.names.labels w5.names.slot) w5.seen) g
    ∙ ap (λ (k : Walk). after_shut k)
    (e5 ∙ ap (λ b. after t a2 (stmt_seen b) w4) same ∙ ap (λ b. after t b (stmt_seen body) w4) l
    ∙ ap (after t (inside_loop a) (stmt_seen body))
    (e4 ∙ ap (after_some t a (some_seen next)) (e3 ∙ ap (after_value t a test) (e2 ∙ ap (after_init t a (some_seen init)) e1))))
    ∙ shut_for t a at (some_seen init) test (some_seen next) (stmt_seen body) w
    ∙ ap (λ q. after t a q w) (sym (for_folds seen_step at init test next body) ∙ ap stmt_seen (sym is))

-- ---- a statement of a list

pub listed_after : (t : Tables) (a : Around) (x : Stmt) (w v : Walk) (k : Names) → v ≡ after t a (stmt_seen x) w → k ≡ declared_in (declares x) a.depth w.names.slot v.names
    → walk_of k v.seen ≡ after_listed t a (stmt_seen x) w
listed_after t a x w v k e f =
    ap (λ z. walk_of z v.seen) f
    ∙ ap (λ (z : Walk). walk_of (declared_in (declares x) a.depth w.names.slot z.names) z.seen) e
    ∙ ap (λ named. walk_of (declared_in named a.depth w.names.slot (moved w.names (part_words (stmt_seen x)))) (after t a (stmt_seen x) w).seen)
    (sym (names_told (Gives (Seen → Seen)) (gives_step (Seen → Seen) noted unseen join_seen) x))

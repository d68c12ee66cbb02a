-- What statements and items take of what is counted, by what they weigh. A whole weighs more than its parts together, and a part takes at
-- most 683 for each unit, so the room that is left after one part is enough for the next. Each law is a sum for one form.
use Rattle.std.proofs.Common.{◌≡◌, ℕ, ◌+◌, ◌*◌, ◌<◌, ◌≤◌, List, ◌∷◌, length, Option, Some, None, refl, ap, ◌∙◌, arith}
use Rattle.ac_tree.specs.declared.expr.Expr.{Expr}
use Rattle.ac_tree.specs.declared.stmt.Stmt.{Stmt}
use Rattle.ac_tree.specs.declared.stmt.Stmt.TheVariants as s
use Rattle.ac_tree.specs.declared.item.Function.{Function}
use Rattle.ac_tree.specs.declared.item.Param.{Param}
use Rattle.ac_tree.specs.Weight.{params_weight, expr_weight, value_weight, stmt_weight, some_weight, body_weight}
use Rattle.ac_tree.proofs.WeightForms as f
use Rattle.ac_types.specs.declared.around.Around.{Around}
use Rattle.ac_types.specs.declared.numbered.Tables.{Tables}
use Rattle.ac_types.specs.declared.seen.Seen.{Seen}
use Rattle.ac_types.specs.declared.statements.Walk.{Walk}
use Rattle.ac_names.specs.Scopes.{Declaration}
use Rattle.ac_types.specs.inner.Items.{after_params}
use Rattle.ac_types.specs.Around.{inside_loop}
use Rattle.ac_names.specs.Room.{HasSlots, HasDepths}
use Rattle.ac_types.specs.inner.Seen.{noted, unseen, join_seen}
use Rattle.ac_names.specs.Statements.{part_words, some_words}
use Rattle.ac_types.specs.inner.Statements.{SeenPart, stmt_seen, some_seen, after, after_listed, after_some, after_init, after_value, after_test, after_open}
use Rattle.ac_types.specs.Statements.{Gives, gives_step}
use Rattle.ac_names.proofs.Parameters.{few_params, params_slot}
use Rattle.ac_names.proofs.Slots.{words_few as told_few}
use Rattle.ac_names.proofs.Statements.{names_of}
use Rattle.ac_types.proofs.Bodies.{walk_of}

abbrev few : Stmt → Type 0
few x = part_words (stmt_seen x) ≤ 683 * stmt_weight x

words_few : (x : Stmt) → few x
words_few x = told_few (Gives (Seen → Seen)) (gives_step (Seen → Seen) noted unseen join_seen) x

pub some_few : (x : Option Stmt) → some_words (some_seen x) ≤ 683 * some_weight x
some_few None = omega arith
some_few (Some x) = words_few x

-- ---- the room that is left for a part of a statement

init_slot : (t : Tables) (a : Around) (init : Option SeenPart) (w : Walk) → (after_init t a init w).names.slot ≡ w.names.slot + some_words init
init_slot t a None w = omega arith
init_slot t a (Some q) w = refl

some_slot : (t : Tables) (a : Around) (next : Option SeenPart) (w : Walk) → (after_some t a next w).names.slot ≡ w.names.slot + some_words next
some_slot t a None w = omega arith
some_slot t a (Some q) w = refl

module _ (t : Tables) (a : Around) (x : Stmt) (at : ℕ) (test : Expr) (body : Stmt) (other : Option Stmt) where
  abbrev if_weight : Type 0
  if_weight = stmt_weight x ≡ 3 + (expr_weight test + (stmt_weight body + some_weight other))

  if_whole : x ≡ s.If at test body other → if_weight
  if_whole is = ap stmt_weight is ∙ f.if_weighs at test body other

  pub if_slots : (y : Stmt) (w v u : Walk) → x ≡ s.If at test body other → v ≡ after_test t a at test w → y ≡ body → u ≡ after t a (stmt_seen y) v → HasSlots w.names.slot (stmt_weight x)
      → HasSlots u.names.slot (some_weight other)
  if_slots y w v u is e same d h =
      let g : if_weight = if_whole is in
      let n : v.names.slot ≡ w.names.slot = ap (λ (k : Walk). k.names.slot) e in
      let m : u.names.slot ≡ v.names.slot + part_words (stmt_seen y) = ap (λ (k : Walk). k.names.slot) d in
      let l : part_words (stmt_seen y) ≡ part_words (stmt_seen body) = ap (λ z. part_words (stmt_seen z)) same in
      let few = words_few body in
      omega (arith, g, n, m, l, few, h)

  pub if_less : (n : ℕ) → x ≡ s.If at test body other → 8 * stmt_weight x ≡ n → 8 * some_weight other + 1 < n
  if_less n is e = let g : if_weight = if_whole is in omega (arith, g, e)

  pub if_depths : x ≡ s.If at test body other → HasDepths a.depth (stmt_weight x) → HasDepths a.depth (some_weight other)
  if_depths is h = let g : if_weight = if_whole is in omega (arith, g, h)

module _ (t : Tables) (a : Around) (x : Stmt) (at : ℕ) (init : Option Stmt) (test : Option Expr) (next : Option Stmt) (body : Stmt) where
  abbrev for_weight : Type 0
  for_weight = stmt_weight x ≡ 5 + (some_weight init + (value_weight test + (some_weight next + stmt_weight body)))

  for_whole : x ≡ s.For at init test next body → for_weight
  for_whole is = ap stmt_weight is ∙ f.for_weighs at init test next body

  slot_there : (w w1 w2 w3 : Walk) → w1 ≡ after_open at w → w2 ≡ after_init t a (some_seen init) w1 → w3 ≡ after_value t a test w2 → w3.names.slot ≡ w.names.slot + some_words (some_seen init)
  slot_there w w1 w2 w3 e1 e2 e3 =
      ap (λ (k : Walk). k.names.slot) e3 ∙ ap (λ (k : Walk). k.names.slot) e2 ∙ init_slot t a (some_seen init) w1
      ∙ ap (λ (k : Walk). k.names.slot + some_words (some_seen init)) e1

  pub next_slots : (w w1 w2 w3 : Walk) → x ≡ s.For at init test next body → w1 ≡ after_open at w → w2 ≡ after_init t a (some_seen init) w1 → w3 ≡ after_value t a test w2 →
      HasSlots w.names.slot (stmt_weight x) → HasSlots w3.names.slot (some_weight next)
  next_slots w w1 w2 w3 is e1 e2 e3 h =
      let g : for_weight = for_whole is in
      let n = slot_there w w1 w2 w3 e1 e2 e3 in
      let few = some_few init in
      omega (arith, g, n, few, h)

  pub next_less : (n : ℕ) → x ≡ s.For at init test next body → 8 * stmt_weight x ≡ n → 8 * some_weight next + 1 < n
  next_less n is e = let g : for_weight = for_whole is in omega (arith, g, e)

  pub next_depths : x ≡ s.For at init test next body → HasDepths a.depth (stmt_weight x) → HasDepths a.depth (some_weight next)
  next_depths is h = let g : for_weight = for_whole is in omega (arith, g, h)

  pub for_slots : (y : Stmt) (w w1 w2 w3 w4 : Walk) → x ≡ s.For at init test next body → w1 ≡ after_open at w → w2 ≡ after_init t a (some_seen init) w1 → w3 ≡ after_value t a test w2 →
      w4 ≡ after_some t a (some_seen next) w3 → y ≡ body → HasSlots w.names.slot (stmt_weight x) → HasSlots w4.names.slot (stmt_weight y)
  for_slots y w w1 w2 w3 w4 is e1 e2 e3 e4 same h =
      let g : for_weight = for_whole is in
      let n = slot_there w w1 w2 w3 e1 e2 e3 in
      let m : w4.names.slot ≡ w3.names.slot + some_words (some_seen next) = ap (λ (k : Walk). k.names.slot) e4 ∙ some_slot t a (some_seen next) w3 in
      let z : stmt_weight y ≡ stmt_weight body = ap stmt_weight same in
      let few = some_few init in
      let more = some_few next in
      omega (arith, g, n, m, z, few, more, h)

  pub for_less : (n : ℕ) (y : Stmt) → x ≡ s.For at init test next body → y ≡ body → 8 * stmt_weight x ≡ n → 8 * stmt_weight y < n
  for_less n y is same e =
      let g : for_weight = for_whole is in
      let z : stmt_weight y ≡ stmt_weight body = ap stmt_weight same in
      omega (arith, g, z, e)

  pub for_depths : (b : Around) (y : Stmt) → x ≡ s.For at init test next body → b ≡ inside_loop a → y ≡ body → HasDepths a.depth (stmt_weight x) → HasDepths b.depth (stmt_weight y)
  for_depths b y is l same h =
      let g : for_weight = for_whole is in
      let d : b.depth ≡ a.depth = ap (λ (k : Around). k.depth) l in
      let z : stmt_weight y ≡ stmt_weight body = ap stmt_weight same in
      omega (arith, g, z, d, h)

pub rest_room : (t : Tables) (a : Around) (xs ys : List Stmt) (x : Stmt) (w v : Walk) → ys ≡ x ∷ xs → v ≡ after_listed t a (stmt_seen x) w → HasSlots w.names.slot (body_weight ys)
    → HasDepths a.depth (body_weight ys) →
    HasSlots v.names.slot (body_weight xs) × HasDepths a.depth (body_weight xs)
rest_room t a xs ys x w v is e h k =
    let g : body_weight ys ≡ stmt_weight x + body_weight xs = ap body_weight is in
    let n : v.names.slot ≡ w.names.slot + part_words (stmt_seen x) = ap (λ (k : Walk). k.names.slot) e in
    let few = words_few x in
    (omega (arith, g, n, few, h), omega (arith, g, k))

pub rest_less : (xs ys : List Stmt) (x : Stmt) (most : ℕ) → ys ≡ x ∷ xs → body_weight ys ≤ most → body_weight xs ≤ most
rest_less xs ys x most is h = let g : body_weight ys ≡ stmt_weight x + body_weight xs = ap body_weight is in omega (arith, g, h)

-- ---- functions

module _ (g : Function) (ps : List Param) (same : ps ≡ g.params) (small : params_weight g.params + body_weight g.body ≤ 1048576) where
  pub body_slots : (body : List Stmt) (w v : Walk) (o : List (List Declaration)) → w.names.slot ≡ 0 → body ≡ g.body → v ≡ after_params ps (walk_of (names_of o w.names.labels w.names.slot) w.seen) →
      HasSlots v.names.slot (body_weight body)
  body_slots body w v o e is ev =
      let n : length ps ≡ length g.params = ap length same in
      let few = few_params g.params in
      let s : v.names.slot ≡ w.names.slot + length ps = ap (λ (k : Walk). k.names.slot) ev ∙ params_slot ps (names_of o w.names.labels w.names.slot) in
      let z : body_weight body ≡ body_weight g.body = ap body_weight is in
      omega (arith, n, few, s, z, e, small)

-- What statements take of slots and texts, by what they weigh: one text for a print, which weighs more than that, and slots as in the
-- crate of names. A whole weighs more than its parts together, so what is left after one part is enough for the next.
use Rattle.std.proofs.Common.{◌≡◌, ℕ, ◌+◌, ◌*◌, ◌<◌, ◌≤◌, List, [], ◌∷◌, ◌++◌, length, map, Option, Some, None, sym, ap, ◌∙◌, length-append, append_assoc, arith}
use Rattle.ac_tree.specs.declared.stmt.Stmt.{Stmt}
use Rattle.ac_tree.specs.declared.stmt.Stmt.TheFolds.{fold-roll-Stmt, ind-Stmt, map-Stmt}
use Rattle.ac_tree.specs.declared.stmt.Stmt.TheOpen.{Stmt-F}
use Rattle.ac_tree.specs.Weight.{total, stmt_weigh, stmt_weight, some_weight, body_weight}
use Rattle.ac_names.specs.Scopes.{Declaration}
use Rattle.ac_names.specs.Room.{HasSlots, HasDepths}
use Rattle.ac_names.specs.Statements.{Shape, part_words, some_words, no_more, shape}
use Rattle.ac_names.proofs.Statements.{names_of, listed_slot}
use Rattle.ac_names.proofs.Slots.{words_few}
use Rattle.ac_commands.specs.declared.command.Command.{Command}
use Rattle.ac_resolve.specs.declared.walk.Walk.{Walk}
use Rattle.ac_resolve.specs.Commands.{Texts, Told, some_shape, all_texts, some_texts, told_step, told, some_told, body_told}
use Rattle.ac_resolve.specs.inner.Walks.{HasTexts, after, does, after_listed, after_some, after_init, after_body, body_does}
use Rattle.ac_resolve.proofs.Scoped.{walk_of}
use Rattle.ac_resolve.proofs.Shapes.{shape_is}

-- a statement of that weight has few texts
abbrev Claim : Stmt → Type 0
Claim x = (ts : Texts) → length ((told x).texts ts) ≤ length ts + stmt_weight x

abbrev Stmt_ : Type 0
Stmt_ = (x : Stmt) × Claim x

abbrev stmts_of : List Stmt_ → List Stmt
stmts_of xs = map (λ x. x.0) xs

texts_few : (xs : List Stmt_) (ts : Texts) → length (all_texts (map told (stmts_of xs)) ts) ≤ length ts + total (map stmt_weight (stmts_of xs))
texts_few [] ts = omega arith
texts_few (x ∷ xs) ts = let h = texts_few xs ((told x.0).texts ts) in let k = x.1 ts in omega (arith, h, k)

abbrev told_layer : Stmt-F Stmt_ → Told
told_layer y = told_step (map-Stmt Stmt Told told (map-Stmt Stmt_ Stmt (λ x. x.0) y))

abbrev weight_layer : Stmt-F Stmt_ → ℕ
weight_layer y = stmt_weigh (map-Stmt Stmt ℕ stmt_weight (map-Stmt Stmt_ Stmt (λ x. x.0) y))

more : (m n : ℕ) → m ≤ m + n
more m n = omega arith

-- by the form: a print adds one text, which it outweighs, and the texts of parts that follow one another add up
texts_layer : (y : Stmt-F Stmt_) (ts : Texts) → length ((told_layer y).texts ts) ≤ length ts + weight_layer y
texts_layer (Stmt-F.Block at body) ts = let h = texts_few body ts in omega (arith, h)
texts_layer (Stmt-F.Empty at) ts = more _ _
texts_layer (Stmt-F.Int at name value) ts = more _ _
texts_layer (Stmt-F.Array at name size) ts = more _ _
texts_layer (Stmt-F.Assign at place value) ts = more _ _
texts_layer (Stmt-F.Call at call) ts = more _ _
texts_layer (Stmt-F.Print at format args) ts = let h = length-append ts (format ∷ []) in omega (arith, h)
texts_layer (Stmt-F.If at test body None) ts = let h = body.1 ts in omega (arith, h)
texts_layer (Stmt-F.If at test body (Some x)) ts = let h = body.1 ts in let k = x.1 ((told body.0).texts ts) in omega (arith, h, k)
texts_layer (Stmt-F.While at test body) ts = let h = body.1 ts in omega (arith, h)
texts_layer (Stmt-F.For at None test None body) ts = let h = body.1 ts in omega (arith, h)
texts_layer (Stmt-F.For at None test (Some y) body) ts = let h = y.1 ts in let k = body.1 ((told y.0).texts ts) in omega (arith, h, k)
texts_layer (Stmt-F.For at (Some x) test None body) ts = let h = x.1 ts in let k = body.1 ((told x.0).texts ts) in omega (arith, h, k)
texts_layer (Stmt-F.For at (Some x) test (Some y) body) ts =
    let h = x.1 ts in
    let j = y.1 ((told x.0).texts ts) in
    let k = body.1 ((told y.0).texts ((told x.0).texts ts)) in
    omega (arith, h, j, k)
texts_layer (Stmt-F.Break at) ts = more _ _
texts_layer (Stmt-F.Continue at) ts = more _ _
texts_layer (Stmt-F.Return at value) ts = more _ _
texts_layer (Stmt-F.Do at label body) ts = let h = texts_few body ts in omega (arith, h)
texts_layer (Stmt-F.Async at body) ts = let h = body.1 ts in omega (arith, h)
texts_layer (Stmt-F.Cancel at label) ts = more _ _
texts_layer (Stmt-F.Yield at) ts = more _ _

same_few : (q r : Told) (m n : ℕ) → q ≡ r → m ≡ n → ((ts : Texts) → length (r.texts ts) ≤ length ts + n) → (ts : Texts) → length (q.texts ts) ≤ length ts + m
same_few q r m n e f k ts = let l : length (q.texts ts) ≡ length (r.texts ts) = ap (λ (x : Told). length (x.texts ts)) e in let j = k ts in omega (arith, l, f, j)

short : (x : Stmt) → Claim x
short = ind-Stmt Claim
    (λ x y is.
    same_few _ (told_layer y) _ (weight_layer y)
    (fold-roll-Stmt Told told_step x ∙ sym (ap (λ z. told_step (map-Stmt Stmt Told told z)) is))
    (fold-roll-Stmt ℕ stmt_weigh x ∙ sym (ap (λ z. stmt_weigh (map-Stmt Stmt ℕ stmt_weight z)) is))
    (texts_layer y))

few_slots : (x : Stmt) → part_words (told x).shape ≤ 683 * stmt_weight x
few_slots x =
    let few = words_few (Unit {0}) no_more x in
    let same : part_words (told x).shape ≡ part_words (shape x) = ap (λ (s : Shape). part_words s) (shape_is x) in
    omega (arith, few, same)

-- ---- the room that is left after a statement

pub room_after : (x : Stmt) (rest slot slot2 : ℕ) (ts ts2 : Texts) → slot2 ≡ slot + part_words (told x).shape → ts2 ≡ (told x).texts ts →
    HasSlots slot (stmt_weight x + rest) → HasTexts ts (stmt_weight x + rest) → HasSlots slot2 rest × HasTexts ts2 rest
room_after x rest slot slot2 ts ts2 e f h k =
    let few = few_slots x in
    let fits = short x ts in
    let l : length ts2 ≡ length ((told x).texts ts) = ap length f in
    (omega (arith, few, e, h), omega (arith, fits, l, k))

pub some_after : (x : Option Stmt) (rest slot slot2 : ℕ) (ts ts2 : Texts) → slot2 ≡ slot + some_words (some_shape (some_told x)) → ts2 ≡ some_texts (some_told x) ts →
    HasSlots slot (some_weight x + rest) → HasTexts ts (some_weight x + rest) → HasSlots slot2 rest × HasTexts ts2 rest
some_after None rest slot slot2 ts ts2 e f h k = let l : length ts2 ≡ length ts = ap length f in (omega (arith, e, h), omega (arith, l, k))
some_after (Some x) rest slot slot2 ts ts2 e f h k = room_after x rest slot slot2 ts ts2 e f h k

-- the texts of a body
pub body_few : (xs : List Stmt) (ts : Texts) → length (all_texts (body_told xs) ts) ≤ length ts + body_weight xs
body_few [] ts = omega arith
body_few (x ∷ xs) ts = let h = body_few xs ((told x).texts ts) in let k = short x ts in omega (arith, h, k)

-- ---- `if`

pub if_room : (body : Stmt) (other : Option Stmt) (depth n : ℕ) (w v : Walk) → v ≡ after (told body) w → 8 * (stmt_weight body + some_weight other) + 3 ≡ n →
    HasSlots w.names.slot (stmt_weight body + some_weight other) → HasDepths depth (stmt_weight body + some_weight other) → HasTexts w.texts (stmt_weight body + some_weight other) →
    (8 * some_weight other + 2 < n) × (HasSlots v.names.slot (some_weight other) × (HasDepths depth (some_weight other) × HasTexts v.texts (some_weight other)))
if_room body other depth n w v e l h d k =
    let r = room_after body (some_weight other) w.names.slot v.names.slot w.texts v.texts (ap (λ (x : Walk). x.names.slot) e) (ap (λ (x : Walk). x.texts) e) h k in
    (omega (arith, l), (r.0, (omega (arith, d), r.1)))

-- ---- `for`

module _ (init next : Option Stmt) (body : Stmt) (depth n : ℕ) (w v : Walk) (o : List (List Declaration))
    (e : v ≡ after_init (some_told init) depth (walk_of (names_of o w.names.labels w.names.slot) w.texts))
    (l : 8 * (some_weight init + (some_weight next + stmt_weight body)) + 3 ≡ n) (h : HasSlots w.names.slot (some_weight init + (some_weight next + stmt_weight body)))
    (d : HasDepths depth (some_weight init + (some_weight next + stmt_weight body))) (k : HasTexts w.texts (some_weight init + (some_weight next + stmt_weight body))) where
  in_for : HasSlots v.names.slot (some_weight next + stmt_weight body) × HasTexts v.texts (some_weight next + stmt_weight body)
  in_for =
      some_after init (some_weight next + stmt_weight body) w.names.slot v.names.slot w.texts v.texts
      (ap (λ (x : Walk). x.names.slot) e ∙ listed_slot (some_shape (some_told init)) depth (names_of o w.names.labels w.names.slot)) (ap (λ (x : Walk). x.texts) e) h k

  pub next_room : (8 * some_weight next + 2 < n) × (HasSlots v.names.slot (some_weight next) × (HasDepths depth (some_weight next) × HasTexts v.texts (some_weight next)))
  next_room = let r = in_for.0 in let t = in_for.1 in (omega (arith, l), (omega (arith, r), (omega (arith, d), omega (arith, t))))

  pub for_room : (u : Walk) → u ≡ after_some (some_told next) v → (8 * stmt_weight body + 1 < n)
      × (HasSlots u.names.slot (stmt_weight body) × (HasDepths depth (stmt_weight body) × HasTexts u.texts (stmt_weight body)))
  for_room u f =
      let r = some_after next (stmt_weight body) v.names.slot u.names.slot v.texts u.texts (ap (λ (x : Walk). x.names.slot) f) (ap (λ (x : Walk). x.texts) f) in_for.0 in_for.1 in
      (omega (arith, l), (r.0, (omega (arith, d), r.1)))

-- ---- the statements of a list

module _ (xs ys : List Stmt) (x : Stmt) (depth : ℕ) (w v : Walk) (is : ys ≡ x ∷ xs) (e : v ≡ after_listed (told x) depth w) where
  pub rest_walk : (whole : Walk) → after_body (body_told ys) depth w ≡ whole → after_body (body_told xs) depth v ≡ whole
  rest_walk whole h = ap (λ k. after_body (body_told xs) depth k) e ∙ sym (ap (λ k. after_body (body_told k) depth w) is) ∙ h

  pub rest_list : (out more whole : List Command) → more ≡ out ++ does (told x) depth w → out ++ body_does (body_told ys) depth w ≡ whole → more ++ body_does (body_told xs) depth v ≡ whole
  rest_list out more whole f h =
      ap (λ k. k ++ body_does (body_told xs) depth v) f
      ∙ ap (λ k. (out ++ does (told x) depth w) ++ body_does (body_told xs) depth k) e
      ∙ append_assoc out (does (told x) depth w) (body_does (body_told xs) depth (after_listed (told x) depth w))
      ∙ sym (ap (λ k. out ++ body_does (body_told k) depth w) is)
      ∙ h

  pub rest_room : HasSlots w.names.slot (body_weight ys) → HasDepths depth (body_weight ys) → HasTexts w.texts (body_weight ys) →
      HasSlots v.names.slot (body_weight xs) × HasDepths depth (body_weight xs) × HasTexts v.texts (body_weight xs)
  rest_room h d k =
      let g : body_weight ys ≡ stmt_weight x + body_weight xs = ap body_weight is in
      let r = room_after x (body_weight xs) w.names.slot v.names.slot w.texts v.texts (ap (λ (z : Walk). z.names.slot) e) (ap (λ (z : Walk). z.texts) e) (omega (arith, g, h)) (omega (arith, g, k)) in
      (r.0, omega (arith, g, d), r.1)

  pub rest_less : (most : ℕ) → body_weight ys ≤ most → body_weight xs ≤ most
  rest_less most h = let g : body_weight ys ≡ stmt_weight x + body_weight xs = ap body_weight is in omega (arith, g, h)

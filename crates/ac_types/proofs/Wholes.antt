-- What a walk has seen is what the nodes in preorder say, for statements, functions and items. As for expressions: one definition is
-- read twice, and both agree by induction on the tree; a statement also declares the same and takes as many slots in both.
use Rattle.std.proofs.Common.{◌≡◌, ℕ, ◌+◌, List, [], ◌∷◌, ◌++◌, length, map, slice_get, is_some, Option, Some, None, refl, sym, ap, ◌∙◌}
use Rattle.ac_tree.specs.declared.expr.Expr.{Expr}
use Rattle.ac_tree.specs.declared.stmt.Stmt.{Stmt}
use Rattle.ac_tree.specs.declared.stmt.Stmt.TheFolds.{fold-roll-Stmt, ind-Stmt, map-Stmt}
use Rattle.ac_tree.specs.declared.stmt.Stmt.TheOpen.{Stmt-F}
use Rattle.ac_tree.specs.declared.item.Item.{Item}
use Rattle.ac_tree.specs.declared.item.Item.TheVariants as i
use Rattle.ac_tree.specs.declared.item.Function.{Function}
use Rattle.ac_tree.specs.declared.item.Param.{Param}
use Rattle.ac_types.specs.declared.around.Around.{Around}
use Rattle.ac_types.specs.declared.around.Position.TheVariants as p
use Rattle.ac_reach.specs.declared.reached.Reached.{Reached}
use Rattle.ac_types.specs.declared.numbered.Tables.{Tables}
use Rattle.ac_names.specs.declared.past.Past.{Past}
use Rattle.ac_types.specs.declared.seen.Seen.{Seen}
use Rattle.ac_names.specs.declared.names.Names.{Names}
use Rattle.ac_names.specs.Scopes.{Declaration, in_scope, in_inner}
use Rattle.ac_types.specs.Around.{inside_loop, inside_do, inside_async}
use Rattle.ac_types.specs.Nodes.{Node}
use Rattle.ac_types.specs.inner.Seen.{noted, seen_all, unseen, join_seen, expr_seen, value_seen}
use Rattle.ac_types.specs.Judged.{once_tests, print_tests, return_tests, async_tests}
use Rattle.ac_types.specs.Expressions.{plain, one_node, join_nodes, expr_nodes, value_all}
use Rattle.ac_names.specs.Statements.{Named, part_names, part_words, part_gives, sum_words, some_words, listed, some_listed, moved, opened, in_do, in_async, declared_at}
use Rattle.ac_types.specs.inner.Statements.{SeenPart, seen_step, stmt_seen, bodies}
use Rattle.ac_types.specs.Statements.{StmtPart, stmt_step, stmt_nodes, body_gives, some_gives}
use Rattle.ac_names.specs.Items.{param_named, params_named, function_names, past_after}
use Rattle.ac_types.specs.Items.{around_of, params_give, function_nodes, reached_in, item_gives, items_give}
use Rattle.ac_types.specs.inner.Items.{params_seen, function_seen, item_seen, items_seen}
use Rattle.ac_types.proofs.Agrees.{seen_two, expr_agrees, values_agree, value_agrees}

abbrev pub NodesPart : Type 0
NodesPart = StmtPart (List Node)

-- a statement as it is seen, and its nodes
pub record Agree (q : SeenPart) (r : NodesPart) : Type 0 where
  pub names : part_names q ≡ part_names r
  pub words : part_words q ≡ part_words r
  pub gives : (t : Tables) (n : Names) (a : Around) (u : Seen) → part_gives q t n a u ≡ seen_all (part_gives r t n a) u

abbrev Claim : Stmt → Type 0
Claim x = Agree (stmt_seen x) (stmt_nodes x)

abbrev Stmt_ : Type 0
Stmt_ = (x : Stmt) × Claim x

abbrev stmts_of : List Stmt_ → List Stmt
stmts_of xs = map (λ x. x.0) xs

listed_same : (q : SeenPart) (r : NodesPart) (a : Around) (n : Names) → Agree q r → listed q a.depth n ≡ listed r a.depth n
listed_same q r a n h =
    ap (λ (k : Option Named). record { scopes = declared_at k a.depth n.slot n.scopes; labels = n.labels; slot = n.slot + part_words q }) h.names
    ∙ ap (λ (k : ℕ). record { scopes = declared_at (part_names r) a.depth n.slot n.scopes; labels = n.labels; slot = n.slot + k }) h.words

abbrev bodies_nodes : List NodesPart → Tables → Names → Around → List Node
bodies_nodes = body_gives (List Node) one_node [] join_nodes

sum_agrees : (xs : List Stmt_) → sum_words (map stmt_seen (stmts_of xs)) ≡ sum_words (map stmt_nodes (stmts_of xs))
sum_agrees [] = refl
sum_agrees (x ∷ xs) = ap (λ k. k + sum_words (map stmt_seen (stmts_of xs))) x.1.words ∙ ap (λ k. part_words (stmt_nodes x.0) + k) (sum_agrees xs)

body_agrees : (xs : List Stmt_) (t : Tables) (n : Names) (a : Around) (u : Seen) → bodies (map stmt_seen (stmts_of xs)) t n a u ≡ seen_all (bodies_nodes (map stmt_nodes (stmts_of xs)) t n a) u
body_agrees [] t n a u = refl
body_agrees (x ∷ xs) t n a u =
    let v = part_gives (stmt_seen x.0) t n a u in
    seen_two (part_gives (stmt_nodes x.0) t n a) (bodies_nodes (map stmt_nodes (stmts_of xs)) t (listed (stmt_nodes x.0) a.depth n) a) u v
    (bodies (map stmt_seen (stmts_of xs)) t (listed (stmt_seen x.0) a.depth n) a v) (x.1.gives t n a u)
    (ap (λ k. bodies (map stmt_seen (stmts_of xs)) t k a v) (listed_same (stmt_seen x.0) (stmt_nodes x.0) a n x.1) ∙ body_agrees xs t (listed (stmt_nodes x.0) a.depth n) a v)

-- ---- parts that may be left out

abbrev some_q : Option Stmt_ → Option SeenPart
some_q None = None
some_q (Some x) = Some (stmt_seen x.0)

abbrev some_r : Option Stmt_ → Option NodesPart
some_r None = None
some_r (Some x) = Some (stmt_nodes x.0)

abbrev some_gives_q : Option SeenPart → Tables → Names → Around → Seen → Seen
some_gives_q = some_gives (Seen → Seen) noted unseen join_seen

abbrev some_gives_r : Option NodesPart → Tables → Names → Around → List Node
some_gives_r = some_gives (List Node) one_node [] join_nodes

some_words_agree : (o : Option Stmt_) → some_words (some_q o) ≡ some_words (some_r o)
some_words_agree None = refl
some_words_agree (Some x) = x.1.words

some_listed_agree : (o : Option Stmt_) (a : Around) (n : Names) → some_listed (some_q o) a.depth n ≡ some_listed (some_r o) a.depth n
some_listed_agree None a n = refl
some_listed_agree (Some x) a n = listed_same (stmt_seen x.0) (stmt_nodes x.0) a n x.1

some_agrees : (o : Option Stmt_) (t : Tables) (n : Names) (a : Around) (u : Seen) → some_gives_q (some_q o) t n a u ≡ seen_all (some_gives_r (some_r o) t n a) u
some_agrees None t n a u = refl
some_agrees (Some x) t n a u = x.1.gives t n a u

-- ---- the forms

if_agrees : (test : Expr) (body : Stmt_) (other : Option Stmt_) (t : Tables) (n : Names) (a : Around) (u : Seen) →
    some_gives_q (some_q other) t (moved n (part_words (stmt_seen body.0))) a (part_gives (stmt_seen body.0) t n a (expr_seen test t n.scopes a p.Value u))
    ≡ seen_all (expr_nodes test t n.scopes a p.Value ++ (part_gives (stmt_nodes body.0) t n a ++ some_gives_r (some_r other) t (moved n (part_words (stmt_nodes body.0))) a)) u
if_agrees test body other t n a u =
    let v = expr_seen test t n.scopes a p.Value u in
    let z = part_gives (stmt_seen body.0) t n a v in
    let last = some_gives_r (some_r other) t (moved n (part_words (stmt_nodes body.0))) a in
    seen_two (expr_nodes test t n.scopes a p.Value) (part_gives (stmt_nodes body.0) t n a ++ last) u v (some_gives_q (some_q other) t (moved n (part_words (stmt_seen body.0))) a z)
    (expr_agrees test t n.scopes a p.Value u)
    (seen_two (part_gives (stmt_nodes body.0) t n a) last v z (some_gives_q (some_q other) t (moved n (part_words (stmt_seen body.0))) a z) (body.1.gives t n a v)
    (ap (λ k. some_gives_q (some_q other) t (moved n k) a z) body.1.words ∙ some_agrees other t (moved n (part_words (stmt_nodes body.0))) a z))

while_agrees : (test : Expr) (body : Stmt_) (t : Tables) (n : Names) (a : Around) (u : Seen) →
    part_gives (stmt_seen body.0) t n (inside_loop a) (expr_seen test t n.scopes a p.Value u) ≡ seen_all (expr_nodes test t n.scopes a p.Value ++ part_gives (stmt_nodes body.0) t n (inside_loop a)) u
while_agrees test body t n a u =
    let v = expr_seen test t n.scopes a p.Value u in
    seen_two (expr_nodes test t n.scopes a p.Value) (part_gives (stmt_nodes body.0) t n (inside_loop a)) u v (part_gives (stmt_seen body.0) t n (inside_loop a) v)
    (expr_agrees test t n.scopes a p.Value u) (body.1.gives t n (inside_loop a) v)

abbrev value_nodes : Option Expr → Tables → List (List Declaration) → Around → List Node
value_nodes = value_all (List Node) one_node [] join_nodes

abbrev for_rest : Option Expr → Option Stmt_ → Stmt_ → Tables → Names → ℕ → Around → Seen → Seen
for_rest test next body t l words a u = part_gives (stmt_seen body.0) t (moved l words) (inside_loop a) (some_gives_q (some_q next) t l a (value_seen test t l.scopes a u))

for_rest_agrees : (test : Option Expr) (next : Option Stmt_) (body : Stmt_) (t : Tables) (l : Names) (a : Around) (u : Seen) →
    for_rest test next body t l (some_words (some_q next)) a u
    ≡ seen_all (value_nodes test t l.scopes a ++ (some_gives_r (some_r next) t l a ++ part_gives (stmt_nodes body.0) t (moved l (some_words (some_r next))) (inside_loop a))) u
for_rest_agrees test next body t l a u =
    let v = value_seen test t l.scopes a u in
    let z = some_gives_q (some_q next) t l a v in
    let last = part_gives (stmt_nodes body.0) t (moved l (some_words (some_r next))) (inside_loop a) in
    seen_two (value_nodes test t l.scopes a) (some_gives_r (some_r next) t l a ++ last) u v (for_rest test next body t l (some_words (some_q next)) a u)
    (value_agrees test t l.scopes a u)
    (seen_two (some_gives_r (some_r next) t l a) last v z (for_rest test next body t l (some_words (some_q next)) a u) (some_agrees next t l a v)
    (ap (λ k. part_gives (stmt_seen body.0) t (moved l k) (inside_loop a) z) (some_words_agree next) ∙ body.1.gives t (moved l (some_words (some_r next))) (inside_loop a) z))

for_agrees : (init : Option Stmt_) (test : Option Expr) (next : Option Stmt_) (body : Stmt_) (t : Tables) (n : Names) (a : Around) (u : Seen) →
    for_rest test next body t (some_listed (some_q init) a.depth n) (some_words (some_q next)) a (some_gives_q (some_q init) t n a u)
    ≡ seen_all (some_gives_r (some_r init) t n a ++ (value_nodes test t (some_listed (some_r init) a.depth n).scopes a
    ++ (some_gives_r (some_r next) t (some_listed (some_r init) a.depth n) a
    ++ part_gives (stmt_nodes body.0) t (moved (some_listed (some_r init) a.depth n) (some_words (some_r next))) (inside_loop a)))) u
for_agrees init test next body t n a u =
    let l = some_listed (some_r init) a.depth n in
    let v = some_gives_q (some_q init) t n a u in
    seen_two (some_gives_r (some_r init) t n a)
    (value_nodes test t l.scopes a ++ (some_gives_r (some_r next) t l a ++ part_gives (stmt_nodes body.0) t (moved l (some_words (some_r next))) (inside_loop a)))
    u v (for_rest test next body t (some_listed (some_q init) a.depth n) (some_words (some_q next)) a v) (some_agrees init t n a u)
    (ap (λ k. for_rest test next body t k (some_words (some_q next)) a v) (some_listed_agree init a n) ∙ for_rest_agrees test next body t l a v)

add_same : (a b c d : ℕ) → a ≡ b → c ≡ d → a + c ≡ b + d
add_same a b c d e f = ap (λ k. k + c) e ∙ ap (λ k. b + k) f

abbrev node_step : Stmt-F NodesPart → NodesPart
node_step = stmt_step (List Node) one_node [] join_nodes

abbrev seen_layer : Stmt-F Stmt_ → SeenPart
seen_layer y = seen_step (map-Stmt Stmt SeenPart stmt_seen (map-Stmt Stmt_ Stmt (λ x. x.0) y))

abbrev nodes_layer : Stmt-F Stmt_ → NodesPart
nodes_layer y = node_step (map-Stmt Stmt NodesPart stmt_nodes (map-Stmt Stmt_ Stmt (λ x. x.0) y))

assign_agrees : (place value : Expr) (t : Tables) (n : Names) (a : Around) (u : Seen) →
    expr_seen value t n.scopes a p.Value (expr_seen place t n.scopes a p.Value u) ≡ seen_all (expr_nodes place t n.scopes a p.Value ++ expr_nodes value t n.scopes a p.Value) u
assign_agrees place value t n a u =
    seen_two (expr_nodes place t n.scopes a p.Value) (expr_nodes value t n.scopes a p.Value) u (expr_seen place t n.scopes a p.Value u)
    (expr_seen value t n.scopes a p.Value (expr_seen place t n.scopes a p.Value u))
    (expr_agrees place t n.scopes a p.Value u) (expr_agrees value t n.scopes a p.Value (expr_seen place t n.scopes a p.Value u))

for_layer : (at : ℕ) (init : Option Stmt_) (test : Option Expr) (next : Option Stmt_) (body : Stmt_)
    → Agree (seen_layer (Stmt-F.For at init test next body)) (nodes_layer (Stmt-F.For at init test next body))
for_layer at None test None body = record { names = refl; words = ap (λ k. 0 + k) body.1.words; gives = λ t n a u. for_agrees None test None body t (opened n) a (noted (plain at []) u) }
for_layer at None test (Some y) body = record {
  names = refl;
  words = add_same (0 + part_words (stmt_seen y.0)) (0 + part_words (stmt_nodes y.0)) (part_words (stmt_seen body.0))
      (part_words (stmt_nodes body.0)) (ap (λ k. 0 + k) y.1.words) body.1.words;
  gives = λ t n a u. for_agrees None test (Some y) body t (opened n) a (noted (plain at []) u);
}
for_layer at (Some x) test None body = record {
  names = refl;
  words = add_same (part_words (stmt_seen x.0) + 0) (part_words (stmt_nodes x.0) + 0) (part_words (stmt_seen body.0))
      (part_words (stmt_nodes body.0)) (ap (λ k. k + 0) x.1.words) body.1.words;
  gives = λ t n a u. for_agrees (Some x) test None body t (opened n) a (noted (plain at []) u);
}
for_layer at (Some x) test (Some y) body = record {
  names = refl;
  words =
      add_same (part_words (stmt_seen x.0) + part_words (stmt_seen y.0)) (part_words (stmt_nodes x.0) + part_words (stmt_nodes y.0)) (part_words (stmt_seen body.0)) (part_words (stmt_nodes body.0))
      (add_same _ _ _ _ x.1.words y.1.words) body.1.words;
  gives = λ t n a u. for_agrees (Some x) test (Some y) body t (opened n) a (noted (plain at []) u);
}

layer : (y : Stmt-F Stmt_) → Agree (seen_layer y) (nodes_layer y)
layer (Stmt-F.Block at body) = record { names = refl; words = sum_agrees body; gives = λ t n a u. body_agrees body t (opened n) a (noted (plain at []) u) }
layer (Stmt-F.Empty at) = record { names = refl; words = refl; gives = λ t n a u. refl }
layer (Stmt-F.Int at name value) = record { names = refl; words = refl; gives = λ t n a u. value_agrees value t n.scopes a (noted (plain at (once_tests (in_inner name n.scopes))) u) }
layer (Stmt-F.Array at name size) = record { names = refl; words = refl; gives = λ t n a u. refl }
layer (Stmt-F.Assign at place value) = record { names = refl; words = refl; gives = λ t n a u. assign_agrees place value t n a (noted (plain at []) u) }
layer (Stmt-F.Call at call) = record { names = refl; words = refl; gives = λ t n a u. expr_agrees call t n.scopes a p.Statement _ }
layer (Stmt-F.Print at format args) = record { names = refl; words = refl; gives = λ t n a u. values_agree args t n.scopes a (noted (plain at (print_tests format (length args))) u) }
layer (Stmt-F.If at test body None) = record { names = refl; words = ap (λ k. k + 0) body.1.words; gives = λ t n a u. if_agrees test body None t n a (noted (plain at []) u) }
layer (Stmt-F.If at test body (Some x)) = record { names = refl; words = add_same _ _ _ _ body.1.words x.1.words; gives = λ t n a u. if_agrees test body (Some x) t n a (noted (plain at []) u) }
layer (Stmt-F.While at test body) = record { names = refl; words = body.1.words; gives = λ t n a u. while_agrees test body t n a (noted (plain at []) u) }
layer (Stmt-F.For at init test next body) = for_layer at init test next body
layer (Stmt-F.Break at) = record { names = refl; words = refl; gives = λ t n a u. refl }
layer (Stmt-F.Continue at) = record { names = refl; words = refl; gives = λ t n a u. refl }
layer (Stmt-F.Return at value) = record { names = refl; words = refl; gives = λ t n a u. value_agrees value t n.scopes a (noted (plain at (return_tests a (is_some value))) u) }
layer (Stmt-F.Do at label body) = record {
  names = refl;
  words = ap (λ k. 1 + k) (sum_agrees body);
  gives = λ t n a u. body_agrees body t (opened (in_do label a.depth n)) (inside_do a) (noted (plain at (async_tests a)) u);
}
layer (Stmt-F.Async at body) = record { names = refl; words = refl; gives = λ t n a u. body.1.gives t (in_async n) (inside_async a) _ }
layer (Stmt-F.Cancel at label) = record { names = refl; words = refl; gives = λ t n a u. refl }
layer (Stmt-F.Yield at) = record { names = refl; words = refl; gives = λ t n a u. refl }

same_agree : (q q2 : SeenPart) (r r2 : NodesPart) → q ≡ q2 → r ≡ r2 → Agree q2 r2 → Agree q r
same_agree q q2 r r2 e f h = record {
  names = ap (λ (k : SeenPart). part_names k) e ∙ h.names ∙ sym (ap (λ (k : NodesPart). part_names k) f);
  words = ap (λ (k : SeenPart). part_words k) e ∙ h.words ∙ sym (ap (λ (k : NodesPart). part_words k) f);
  gives = λ t n a u. ap (λ (k : SeenPart). part_gives k t n a u) e ∙ h.gives t n a u ∙ sym (ap (λ (k : NodesPart). seen_all (part_gives k t n a) u) f);
}

pub stmt_agrees : (x : Stmt) → Claim x
stmt_agrees = ind-Stmt Claim
    (λ x y is.
    same_agree _ (seen_layer y) _ (nodes_layer y)
    (fold-roll-Stmt SeenPart seen_step x ∙ sym (ap (λ z. seen_step (map-Stmt Stmt SeenPart stmt_seen z)) is))
    (fold-roll-Stmt NodesPart node_step x ∙ sym (ap (λ z. node_step (map-Stmt Stmt NodesPart stmt_nodes z)) is))
    (layer y))

-- ---- functions and items

whole_body : (xs : List Stmt) (t : Tables) (n : Names) (a : Around) (u : Seen) → bodies (map stmt_seen xs) t n a u ≡ seen_all (bodies_nodes (map stmt_nodes xs) t n a) u
whole_body [] t n a u = refl
whole_body (x ∷ xs) t n a u =
    let v = part_gives (stmt_seen x) t n a u in
    seen_two (part_gives (stmt_nodes x) t n a) (bodies_nodes (map stmt_nodes xs) t (listed (stmt_nodes x) a.depth n) a) u v
    (bodies (map stmt_seen xs) t (listed (stmt_seen x) a.depth n) a v) ((stmt_agrees x).gives t n a u)
    (ap (λ k. bodies (map stmt_seen xs) t k a v) (listed_same (stmt_seen x) (stmt_nodes x) a n (stmt_agrees x)) ∙ whole_body xs t (listed (stmt_nodes x) a.depth n) a v)

params_agree : (xs : List Param) (n : Names) (u : Seen) → params_seen xs n u ≡ seen_all (params_give (List Node) one_node [] join_nodes xs n) u
params_agree [] n u = refl
params_agree (x ∷ xs) n u = params_agree xs (param_named x n) (noted (plain x.at (once_tests (in_inner x.name n.scopes))) u)

pub function_agrees : (f : Function) (t : Tables) (s : List (List Declaration)) (reached : Reached) (u : Seen) → function_seen f t s reached u ≡ seen_all (function_nodes f t s reached) u
function_agrees f t s reached u =
    let v = params_seen f.params (function_names s) u in
    let n = params_named f.params (function_names s) in
    seen_two (params_give (List Node) one_node [] join_nodes f.params (function_names s)) (bodies_nodes (map stmt_nodes f.body) t n (around_of f reached)) u v
    (bodies (map stmt_seen f.body) t n (around_of f reached) v) (params_agree f.params (function_names s) u) (whole_body f.body t n (around_of f reached) v)

abbrev item_nodes : Past → Item → Tables → List (List Declaration) → List Node
item_nodes = item_gives (List Node) one_node [] join_nodes

abbrev items_nodes : Past → List Item → Tables → List (List Declaration) → List Node
items_nodes = items_give (List Node) one_node [] join_nodes

item_agrees : (q : Past) (x : Item) (t : Tables) (s : List (List Declaration)) (u : Seen) → item_seen q x t s u ≡ seen_all (item_nodes q x t s) u
item_agrees q (i.Global at name size value) t s u = refl
item_agrees q (i.Function f) t s u = function_agrees f t s (reached_in (slice_get t.reached q.counts.functions)) (noted (plain f.at (once_tests (in_scope f.name q.names))) u)
item_agrees q (i.Channel at name from to cap) t s u = refl
item_agrees q (i.File at name path) t s u = refl
item_agrees q (i.Core at name entry) t s u = refl

pub items_agree : (q : Past) (xs : List Item) (t : Tables) (s : List (List Declaration)) (u : Seen) → items_seen q xs t s u ≡ seen_all (items_nodes q xs t s) u
items_agree q [] t s u = refl
items_agree q (x ∷ xs) t s u =
    seen_two (item_nodes q x t s) (items_nodes (past_after q x) xs t s) u (item_seen q x t s u) (items_seen (past_after q x) xs t s (item_seen q x t s u)) (item_agrees q x t s u)
    (items_agree (past_after q x) xs t s (item_seen q x t s u))

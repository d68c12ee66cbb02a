-- What a walk has seen is what the nodes in preorder say, for expressions. One definition by the forms is read twice, with lists of
-- nodes and with what is seen so far; that both agree is by induction on the tree, where parts that follow one another are joined by
-- one law on lists. Then what is first and what is called are read off the list.
use Rattle.std.proofs.Common.{◌≡◌, ℕ, ◌+◌, List, [], ◌∷◌, ◌++◌, length, map, Option, Some, None, refl, sym, ap, ◌∙◌, append_assoc, arith}
use Rattle.ac_tree.specs.declared.expr.Expr.{Expr, ind-Expr, fold-roll-Expr, map-Expr}
use Rattle.ac_tree.specs.declared.expr.Link.{Link, fold-roll-Link}
use Rattle.ac_tree.specs.declared.expr.Expr.TheOpen.{Expr-F, Link-F}
use Rattle.ac_types.specs.declared.around.Around.{Around}
use Rattle.ac_types.specs.declared.around.Position.{Position}
use Rattle.ac_types.specs.declared.around.Position.TheVariants as p
use Rattle.ac_names.specs.declared.meaning.Meaning.{Meaning}
use Rattle.ac_types.specs.declared.numbered.Callee.{Callee}
use Rattle.ac_types.specs.declared.numbered.Tables.{Tables}
use Rattle.ac_types.specs.declared.carried.Carried.{Carried}
use Rattle.ac_types.specs.declared.seen.Seen.{Seen}
use Rattle.ac_names.specs.Scopes.{Declaration, or_else, visible}
use Rattle.ac_types.specs.Around.{position_of}
use Rattle.ac_types.specs.Tables.{callee, takes_array, ends_named}
use Rattle.ac_types.specs.Nodes.{Node, called, calls_of, carried_too, carried_of}
use Rattle.ac_types.specs.inner.Seen.{noted, seen_all, least_broken, first_of, at_node, unseen, join_seen, expr_seen, values_seen, value_seen}
use Rattle.ac_types.specs.Judged.{value_tests, file_tests, sends_away, takes_away}
use Rattle.ac_types.specs.Widths.{length_named}
use Rattle.ac_types.specs.Expressions.{plain, call_node, channel_node, ExprTold, expr_step, link_step, expr_told, link_all, links_step, args_step, values_all, value_all, one_node, join_nodes}
use Rattle.ac_types.specs.Expressions.{told_nodes, expr_nodes}

pub seen_append : (xs ys : List Node) (s : Seen) → seen_all (xs ++ ys) s ≡ seen_all ys (seen_all xs s)
seen_append [] ys s = refl
seen_append (x ∷ xs) ys s = seen_append xs ys (noted x s)

-- two parts that follow one another
pub seen_two : (xs ys : List Node) (s u v : Seen) → u ≡ seen_all xs s → v ≡ seen_all ys u → v ≡ seen_all (xs ++ ys) s
seen_two xs ys s u v e f = f ∙ ap (seen_all ys) e ∙ sym (seen_append xs ys s)

abbrev NodesPart : Type 0
NodesPart = Tables → List (List Declaration) → Around → Position → List Node

abbrev pub SeenPart : Type 0
SeenPart = Tables → List (List Declaration) → Around → Position → Seen → Seen

-- with the name that an expression is, where it is one
abbrev NodesTold : Type 0
NodesTold = ExprTold (List Node) one_node [] join_nodes

abbrev pub SeenTold : Type 0
SeenTold = ExprTold (Seen → Seen) noted unseen join_seen

abbrev pub told_seen : Expr → SeenTold
told_seen = expr_told (Seen → Seen) noted unseen join_seen

abbrev node_step : Expr-F NodesTold NodesPart → NodesTold
node_step = expr_step (List Node) one_node [] join_nodes

abbrev node_link : Link-F NodesTold NodesPart → NodesPart
node_link = link_step (List Node) one_node [] join_nodes

abbrev pub seen_step : Expr-F SeenTold SeenPart → SeenTold
seen_step = expr_step (Seen → Seen) noted unseen join_seen

abbrev pub seen_link : Link-F SeenTold SeenPart → SeenPart
seen_link = link_step (Seen → Seen) noted unseen join_seen

abbrev link_nodes : Link → NodesPart
link_nodes = link_all (List Node) one_node [] join_nodes

abbrev link_seen : Link → SeenPart
link_seen = link_all (Seen → Seen) noted unseen join_seen

-- both have the same name, and what is seen are the nodes
pub record AgreesAs (q : SeenTold) (r : NodesTold) : Type 0 where
  pub name : q.0 ≡ r.0
  pub gives : (t : Tables) (s : List (List Declaration)) (a : Around) (w : Position) (u : Seen) → q.1 t s a w u ≡ seen_all (r.1 t s a w) u

abbrev Claim : Expr → Type 0
Claim x = AgreesAs (told_seen x) (told_nodes x)

abbrev LinkClaim : Link → Type 0
LinkClaim l = (t : Tables) (s : List (List Declaration)) (a : Around) (w : Position) (u : Seen) → link_seen l t s a w u ≡ seen_all (link_nodes l t s a w) u

abbrev Expr_ : Type 0
Expr_ = (x : Expr) × Claim x

abbrev Link_ : Type 0
Link_ = (l : Link) × LinkClaim l

abbrev exprs_of : List Expr_ → List Expr
exprs_of xs = map (λ x. x.0) xs

abbrev links_of : List Link_ → List Link
links_of ls = map (λ l. l.0) ls

links_agree : (ls : List Link_) (t : Tables) (s : List (List Declaration)) (a : Around) (u : Seen) →
    links_step (Seen → Seen) noted unseen join_seen (map link_seen (links_of ls)) t s a u ≡ seen_all (links_step (List Node) one_node [] join_nodes (map link_nodes (links_of ls)) t s a) u
links_agree [] t s a u = refl
links_agree (l ∷ ls) t s a u =
    seen_two (link_nodes l.0 t s a p.Value) (links_step (List Node) one_node [] join_nodes (map link_nodes (links_of ls)) t s a) u (link_seen l.0 t s a p.Value u)
    (links_step (Seen → Seen) noted unseen join_seen (map link_seen (links_of ls)) t s a (link_seen l.0 t s a p.Value u)) (l.1 t s a p.Value u) (links_agree ls t s a (link_seen l.0 t s a p.Value u))

args_agree : (m : Option Meaning) (n : ℕ) (xs : List Expr_) (t : Tables) (s : List (List Declaration)) (a : Around) (u : Seen) →
    args_step (Seen → Seen) noted unseen join_seen m n (map told_seen (exprs_of xs)) t s a u ≡ seen_all (args_step (List Node) one_node [] join_nodes m n (map told_nodes (exprs_of xs)) t s a) u
args_agree m n [] t s a u = refl
args_agree m n (x ∷ xs) t s a u =
    let w = position_of (takes_array t m n) in
    seen_two (expr_nodes x.0 t s a w) (args_step (List Node) one_node [] join_nodes m (n + 1) (map told_nodes (exprs_of xs)) t s a) u (expr_seen x.0 t s a w u)
    (args_step (Seen → Seen) noted unseen join_seen m (n + 1) (map told_seen (exprs_of xs)) t s a (expr_seen x.0 t s a w u)) (x.1.gives t s a w u)
    (args_agree m (n + 1) xs t s a (expr_seen x.0 t s a w u))

-- a list keeps its length
args_length : {A : Type 0} (f : Expr → A) (xs : List Expr_) → length (map f (exprs_of xs)) ≡ length xs
args_length f [] = refl
args_length f (x ∷ xs) = let h = args_length f xs in omega (arith, h)

chain_agrees : (x : Expr_) (ls : List Link_) (t : Tables) (s : List (List Declaration)) (a : Around) (u : Seen) →
    links_step (Seen → Seen) noted unseen join_seen (map link_seen (links_of ls)) t s a (expr_seen x.0 t s a p.Value u)
    ≡ seen_all (expr_nodes x.0 t s a p.Value ++ links_step (List Node) one_node [] join_nodes (map link_nodes (links_of ls)) t s a) u
chain_agrees x ls t s a u =
    seen_two (expr_nodes x.0 t s a p.Value) (links_step (List Node) one_node [] join_nodes (map link_nodes (links_of ls)) t s a) u (expr_seen x.0 t s a p.Value u)
    (links_step (Seen → Seen) noted unseen join_seen (map link_seen (links_of ls)) t s a (expr_seen x.0 t s a p.Value u)) (x.1.gives t s a p.Value u) (links_agree ls t s a
    (expr_seen x.0 t s a p.Value u))

pair_agrees : (x y : Expr_) (t : Tables) (s : List (List Declaration)) (a : Around) (u : Seen) →
    expr_seen y.0 t s a p.Value (expr_seen x.0 t s a p.Value u) ≡ seen_all (expr_nodes x.0 t s a p.Value ++ expr_nodes y.0 t s a p.Value) u
pair_agrees x y t s a u =
    seen_two (expr_nodes x.0 t s a p.Value) (expr_nodes y.0 t s a p.Value) u (expr_seen x.0 t s a p.Value u) (expr_seen y.0 t s a p.Value (expr_seen x.0 t s a p.Value u)) (x.1.gives t s a p.Value u)
    (y.1.gives t s a p.Value (expr_seen x.0 t s a p.Value u))

call_agrees : (at : ℕ) (m : Option Meaning) (f : Option Callee) (xs : List Expr_) (t : Tables) (s : List (List Declaration)) (a : Around) (w : Position) (u : Seen) →
    args_step (Seen → Seen) noted unseen join_seen m 0 (map told_seen (exprs_of xs)) t s a (noted (call_node at m f (length (map told_seen (exprs_of xs))) a w) u)
    ≡ seen_all (args_step (List Node) one_node [] join_nodes m 0 (map told_nodes (exprs_of xs)) t s a) (noted (call_node at m f (length (map told_nodes (exprs_of xs))) a w) u)
call_agrees at m f xs t s a w u =
    ap (λ n. args_step (Seen → Seen) noted unseen join_seen m 0 (map told_seen (exprs_of xs)) t s a (noted (call_node at m f n a w) u)) (args_length told_seen xs ∙ sym (args_length told_nodes xs))
    ∙ args_agree m 0 xs t s a (noted (call_node at m f (length (map told_nodes (exprs_of xs))) a w) u)

-- a Send or a Recv, whose node tells by a name how many ints it names
message_agrees : (node : Option (List ℕ) → Node) (x : Expr_) (t : Tables) (s : List (List Declaration)) (a : Around) (u : Seen) →
    expr_seen x.0 t s a p.Message (noted (node (told_seen x.0).0) u) ≡ seen_all (expr_nodes x.0 t s a p.Message) (noted (node (told_nodes x.0).0) u)
message_agrees node x t s a u =
    ap (λ (o : Option (List ℕ)). expr_seen x.0 t s a p.Message (noted (node o) u)) x.1.name ∙ x.1.gives t s a p.Message (noted (node (told_nodes x.0).0) u)

abbrev seen_layer : Expr-F Expr_ Link_ → SeenTold
seen_layer y = seen_step (map-Expr Expr Link SeenTold SeenPart told_seen link_seen (map-Expr Expr_ Link_ Expr Link (λ x. x.0) (λ l. l.0) y))

abbrev nodes_layer : Expr-F Expr_ Link_ → NodesTold
nodes_layer y = node_step (map-Expr Expr Link NodesTold NodesPart told_nodes link_nodes (map-Expr Expr_ Link_ Expr Link (λ x. x.0) (λ l. l.0) y))

gives_layer : (y : Expr-F Expr_ Link_) (t : Tables) (s : List (List Declaration)) (a : Around) (w : Position) (u : Seen) → (seen_layer y).1 t s a w u ≡ seen_all ((nodes_layer y).1 t s a w) u
gives_layer (Expr-F.Number at value) t s a w u = refl
gives_layer (Expr-F.Const at which) t s a w u = refl
gives_layer (Expr-F.Name at name) t s a w u = refl
gives_layer (Expr-F.Index at name index) t s a w u = index.1.gives t s a p.Value _
gives_layer (Expr-F.Group at inner) t s a w u = inner.1.gives t s a p.Value _
gives_layer (Expr-F.Unary at op inner) t s a w u = inner.1.gives t s a p.Value _
gives_layer (Expr-F.Chain at level first rest) t s a w u = chain_agrees first rest t s a (noted (plain at (value_tests w)) u)
gives_layer (Expr-F.Call at name args) t s a w u = call_agrees at (visible name s) (callee t (visible name s)) args t s a w u
gives_layer (Expr-F.Send at channel value) t s a w u =
    message_agrees (λ o. channel_node at t (visible channel s) (length_named o s) (sends_away a.reached (ends_named t (visible channel s))) a w) value t s a u
gives_layer (Expr-F.Recv at channel place) t s a w u =
    message_agrees (λ o. channel_node at t (visible channel s) (length_named o s) (takes_away a.reached (ends_named t (visible channel s))) a w) place t s a u
gives_layer (Expr-F.Read at file from len array) t s a w u = pair_agrees from len t s a (noted (plain at (file_tests (visible file s) (visible array s) a w)) u)
gives_layer (Expr-F.Write at file from len array) t s a w u = pair_agrees from len t s a (noted (plain at (file_tests (visible file s) (visible array s) a w)) u)

name_layer : (y : Expr-F Expr_ Link_) → (seen_layer y).0 ≡ (nodes_layer y).0
name_layer (Expr-F.Number at value) = refl
name_layer (Expr-F.Const at which) = refl
name_layer (Expr-F.Name at name) = refl
name_layer (Expr-F.Index at name index) = refl
name_layer (Expr-F.Group at inner) = refl
name_layer (Expr-F.Unary at op inner) = refl
name_layer (Expr-F.Chain at level first rest) = refl
name_layer (Expr-F.Call at name args) = refl
name_layer (Expr-F.Send at channel value) = refl
name_layer (Expr-F.Recv at channel place) = refl
name_layer (Expr-F.Read at file from len array) = refl
name_layer (Expr-F.Write at file from len array) = refl

link_layer : (y : Link-F Expr_ Link_) (t : Tables) (s : List (List Declaration)) (a : Around) (w : Position) (u : Seen) → expr_seen y.operand.0 t s a w u ≡ seen_all (expr_nodes y.operand.0 t s a w) u
link_layer y t s a w u = y.operand.1.gives t s a w u

same_agrees : (q q2 : SeenTold) (r r2 : NodesTold) → q ≡ q2 → r ≡ r2 → AgreesAs q2 r2 → AgreesAs q r
same_agrees q q2 r r2 e f h = record {
  name = ap (λ (k : SeenTold). k.0) e ∙ h.name ∙ sym (ap (λ (k : NodesTold). k.0) f);
  gives = λ t s a w u. ap (λ (k : SeenTold). k.1 t s a w u) e ∙ h.gives t s a w u ∙ sym (ap (λ (k : NodesTold). seen_all (k.1 t s a w) u) f);
}

told_agrees : (x : Expr) → Claim x
told_agrees = ind-Expr Claim LinkClaim
    (λ x y is.
    same_agrees _ (seen_layer y) _ (nodes_layer y)
    (fold-roll-Expr SeenTold SeenPart seen_step seen_link x ∙ sym (ap (λ z. seen_step (map-Expr Expr Link SeenTold SeenPart told_seen link_seen z)) is))
    (fold-roll-Expr NodesTold NodesPart node_step node_link x ∙ sym (ap (λ z. node_step (map-Expr Expr Link NodesTold NodesPart told_nodes link_nodes z)) is))
    (record { name = name_layer y; gives = gives_layer y }))
    (λ x y is t s a w u.
    ap (λ f. f t s a w u) (fold-roll-Link SeenTold SeenPart seen_step seen_link x)
    ∙ sym (ap (λ (z : Link-F Expr Link). expr_seen z.operand t s a w u) is)
    ∙ link_layer y t s a w u
    ∙ ap (λ (z : Link-F Expr Link). seen_all (expr_nodes z.operand t s a w) u) is
    ∙ sym (ap (λ f. seen_all (f t s a w) u) (fold-roll-Link NodesTold NodesPart node_step node_link x)))

pub expr_agrees : (x : Expr) (t : Tables) (s : List (List Declaration)) (a : Around) (w : Position) (u : Seen) → expr_seen x t s a w u ≡ seen_all (expr_nodes x t s a w) u
expr_agrees x = (told_agrees x).gives

pub values_agree : (xs : List Expr) (t : Tables) (s : List (List Declaration)) (a : Around) (u : Seen) →
    values_seen xs t s a u ≡ seen_all (values_all (List Node) one_node [] join_nodes xs t s a) u
values_agree [] t s a u = refl
values_agree (x ∷ xs) t s a u =
    seen_two (expr_nodes x t s a p.Value) (values_all (List Node) one_node [] join_nodes xs t s a) u (expr_seen x t s a p.Value u) (values_seen xs t s a (expr_seen x t s a p.Value u))
    (expr_agrees x t s a p.Value u)
    (values_agree xs t s a (expr_seen x t s a p.Value u))

pub value_agrees : (x : Option Expr) (t : Tables) (s : List (List Declaration)) (a : Around) (u : Seen) →
    value_seen x t s a u ≡ seen_all (value_all (List Node) one_node [] join_nodes x t s a) u
value_agrees None t s a u = refl
value_agrees (Some x) t s a u = expr_agrees x t s a p.Value u

-- ---- what is first, and what is called

or_else_assoc : {A : Type 0} (a b c : Option A) → or_else (or_else a b) c ≡ or_else a (or_else b c)
or_else_assoc None b c = refl
or_else_assoc (Some x) b c = refl

or_else_none : {A : Type 0} (a : Option A) → a ≡ or_else a None
or_else_none None = refl
or_else_none (Some x) = refl

pub first_seen : (ns : List Node) (s : Seen) → (seen_all ns s).first ≡ or_else s.first (first_of ns)
first_seen [] s = or_else_none s.first
first_seen (n ∷ ns) s = first_seen ns (noted n s) ∙ or_else_assoc s.first (at_node n.at (least_broken n.tests)) (first_of ns)

append_none : (xs : List ℕ) → xs ≡ xs ++ []
append_none [] = refl
append_none (x ∷ xs) = ap (λ ys. x ∷ ys) (append_none xs)

called_more : (o : Option ℕ) (xs ys : List ℕ) → called o xs ++ ys ≡ xs ++ (called o [] ++ ys)
called_more None xs ys = refl
called_more (Some f) xs ys = append_assoc xs (f ∷ []) ys

pub calls_seen : (ns : List Node) (s : Seen) → (seen_all ns s).calls ≡ s.calls ++ calls_of ns
calls_seen [] s = append_none s.calls
calls_seen (n ∷ ns) s = calls_seen ns (noted n s) ∙ called_more n.calls s.calls (calls_of ns)

carried_none : (xs : List Carried) → xs ≡ xs ++ []
carried_none [] = refl
carried_none (x ∷ xs) = ap (λ ys. x ∷ ys) (carried_none xs)

carried_more : (o : Option Carried) (xs ys : List Carried) → carried_too o xs ++ ys ≡ xs ++ (carried_too o [] ++ ys)
carried_more None xs ys = refl
carried_more (Some c) xs ys = append_assoc xs (c ∷ []) ys

pub carried_seen : (ns : List Node) (s : Seen) → (seen_all ns s).carried ≡ s.carried ++ carried_of ns
carried_seen [] s = carried_none s.carried
carried_seen (n ∷ ns) s = carried_seen ns (noted n s) ∙ carried_more n.carries s.carried (carried_of ns)

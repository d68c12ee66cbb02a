-- The code of a program has at most four instructions for each token that it weighs, whatever its forms.
-- A small tree weighs at most as many tokens as a text can have, so that 32 bits count all addresses. By induction on the tree, form by
-- form.
use Rattle.std.proofs.Common.{◌≡◌, ℕ, ◌+◌, ◌-◌, ◌*◌, ◌<◌, ◌≤◌, ◌^◌, List, [], ◌∷◌, ◌++◌, length, map, Option, Some, None, refl, sym, ap, ◌∙◌, subst, arith}
use Rattle.std.specs.Prelude.{ℤ, pos}
use Rattle.ac_tree.specs.declared.expr.BinaryOp.{BinaryOp}
use Rattle.ac_tree.specs.declared.expr.BinaryOp.TheVariants as b
use Rattle.ac_tree.specs.declared.expr.UnaryOp.{UnaryOp}
use Rattle.ac_tree.specs.declared.expr.Expr.{Expr, ind-Expr, fold-roll-Expr, map-Expr}
use Rattle.ac_tree.specs.declared.expr.Expr.TheOpen.{Expr-F, Link-F}
use Rattle.ac_tree.specs.declared.expr.Link.{Link, fold-Link, fold-roll-Link}
use Rattle.ac_tree.specs.declared.stmt.Stmt.{Stmt}
use Rattle.ac_tree.specs.declared.stmt.Stmt.TheFolds.{fold-roll-Stmt, ind-Stmt, map-Stmt}
use Rattle.ac_tree.specs.declared.stmt.Stmt.TheOpen.{Stmt-F}
use Rattle.ac_tree.specs.declared.item.Item.{Item}
use Rattle.ac_tree.specs.declared.item.Item.TheVariants as i
use Rattle.ac_tree.specs.declared.item.Program.{Program}
use Rattle.ac_tree.specs.Weight.{total, expr_weigh, link_weigh, expr_weight, exprs_weight, value_weight, stmt_weigh, stmt_weight, body_weight, items_weight, IsSmall}
use Rattle.ac_names.specs.declared.meaning.Meaning.{Meaning}
use Rattle.ac_names.specs.declared.meaning.Meaning.TheVariants as m
use Rattle.ac_names.specs.declared.names.Names.{Names}
use Rattle.ac_names.specs.Items.{outermost}
use Rattle.ac_names.specs.Scopes.{Declaration, visible}
use Rattle.ac_names.specs.Statements.{part_words, listed, some_words, opened, moved, in_do, in_async, array_len}
use Rattle.ac_commands.specs.declared.value.Place.{Place}
use Rattle.ac_commands.specs.declared.value.Place.TheVariants as p
use Rattle.ac_commands.specs.declared.value.Action.{Action}
use Rattle.ac_commands.specs.declared.value.Action.TheVariants as act
use Rattle.ac_commands.specs.declared.value.Array.{Array}
use Rattle.ac_commands.specs.declared.value.Value.{Value}
use Rattle.ac_commands.specs.declared.value.Value.TheVariants as v
use Rattle.ac_commands.specs.declared.value.ValueLink.{ValueLink}
use Rattle.ac_commands.specs.declared.command.Target.TheVariants as tg
use Rattle.ac_commands.specs.declared.command.Command.{Command, roll-Command, map-Command, fold-roll-Command}
use Rattle.ac_commands.specs.declared.command.Command.TheOpen.{Command-F}
use Rattle.ac_commands.specs.declared.command.Command.TheVariants as cm
use Rattle.ac_resolve.specs.Places.{constant_value, place_of, array_of, name_argument, array_at, received_in, reference_to, function_of, channel_of, file_of, cancel_of}
use Rattle.ac_resolve.specs.Computed.{InScopes, Reading, read_step, read, link_in, arguments_step, value_in, argument_in, values_in, some_in, target_in, place_in, initial_in}
use Rattle.ac_resolve.specs.Computed.{link_step as reading_link, links_step as reading_links}
use Rattle.ac_resolve.specs.Commands.{Texts, Told, told_step, told, body_told, some_shape, commands, some_texts, some_commands, for_names}
use Rattle.ac_resolve.specs.Resolution.{body_names, function_texts, functions_in, cores_in, channels_in, resolved}
use Rattle.ac_translation.specs.Pieces.{Piece}
use Rattle.ac_translation.specs.Translation.{joined_code, chained_code, value_code, link_code, values_code, target_code, operand_code, test_code, command_step, command_code, body_code, functions_code}
use Rattle.ac_compile.proofs.Forms.{number_form, variable_form, reference_form, element_form, part_form, unary_form, chain_form, act_form, link_form}

-- ---- values by their forms

abbrev size_in : Value → ℕ
size_in x = (value_code x).size

abbrev piece_size : Piece → ℕ
piece_size p = p.size

number_size : (n : ℤ) → size_in (v.Number n) ≡ 1
number_size n = ap piece_size (number_form n)

variable_size : (place : Place) → size_in (v.Variable place) ≡ 1
variable_size place = ap piece_size (variable_form place)

reference_size : (array : Array) → size_in (v.Reference array) ≡ 1
reference_size array = ap piece_size (reference_form array)

element_size : (array : Array) (index : Value) → size_in (v.Element array index) ≡ 1 + (size_in index + 1)
element_size array index = ap piece_size (element_form array index)

part_size : (array : Array) (index : Value) → size_in (v.Part array index) ≡ 1 + (size_in index + 1)
part_size array index = ap piece_size (part_form array index)

unary_size : (op : UnaryOp) (operand : Value) → size_in (v.Unary op operand) ≡ size_in operand + 1
unary_size op operand = ap piece_size (unary_form op operand)

chain_size : (first : Value) (rest : List ValueLink) → size_in (v.Chain first rest) ≡ size_in first + (chained_code (map link_code rest)).size
chain_size first rest = ap piece_size (chain_form first rest)

act_size : (action : Action) (operands : List Value) → size_in (v.Act action operands) ≡ (values_code operands).size + 1
act_size action operands = ap piece_size (act_form action operands)

joined_size : (op : BinaryOp) (right : Piece) → (joined_code op right).size ≤ right.size + 4
joined_size b.Or right = omega arith
joined_size b.And right = omega arith
joined_size op right = omega arith

-- ---- expressions

argument_size : (o : Option Meaning) (depth : ℕ) → size_in (name_argument o depth) ≡ 1
argument_size (Some (m.GlobalArray slot len)) depth = reference_size _
argument_size (Some (m.LocalArray there slot len)) depth = reference_size _
argument_size (Some (m.ArrayParam slot)) depth = reference_size _
argument_size (Some what) depth = variable_size (place_of (Some what) depth)
argument_size None depth = variable_size (place_of None depth)

target_size : (place : Place) → (target_code (tg.Variable place)).size ≡ 1
target_size (p.Global slot) = refl
target_size (p.Local level slot) = refl

-- what an expression of that weight gives, wherever it stands
record IsLight (q : Reading) (weight : ℕ) : Type 0 where
  some : 1 ≤ weight
  value : (scopes : List (List Declaration)) (depth : ℕ) → size_in (q.value scopes depth) ≤ 4 * weight
  argument : (scopes : List (List Declaration)) (depth : ℕ) → size_in (q.argument scopes depth) ≤ 4 * weight
  target : (scopes : List (List Declaration)) (depth : ℕ) → (target_code (q.target scopes depth)).size ≤ 4 * weight
  received : (scopes : List (List Declaration)) (depth : ℕ) → size_in (q.received scopes depth) ≤ 4 * weight

abbrev Claim : Expr → Type 0
Claim x = IsLight (read x) (expr_weight x)

abbrev link_weight : Link → ℕ
link_weight = fold-Link ℕ ℕ expr_weigh link_weigh

abbrev LinkClaim : Link → Type 0
LinkClaim l = (scopes : List (List Declaration)) (depth : ℕ) → (joined_code (link_code (link_in l scopes depth)).0 (link_code (link_in l scopes depth)).1).size ≤ 4 * link_weight l

abbrev Expr_ : Type 0
Expr_ = (x : Expr) × Claim x

abbrev Link_ : Type 0
Link_ = (l : Link) × LinkClaim l

abbrev exprs_of : List Expr_ → List Expr
exprs_of xs = map (λ x. x.0) xs

abbrev links_of : List Link_ → List Link
links_of ls = map (λ l. l.0) ls

links_light : (ls : List Link_) (scopes : List (List Declaration)) (depth : ℕ)
    → (chained_code (map link_code (reading_links (map link_in (links_of ls)) scopes depth))).size ≤ 4 * total (map link_weight (links_of ls))
links_light [] scopes depth = omega arith
links_light (l ∷ ls) scopes depth = let h = l.1 scopes depth in let k = links_light ls scopes depth in omega (arith, h, k)

arguments_light : (xs : List Expr_) (scopes : List (List Declaration)) (depth : ℕ)
    → (values_code (arguments_step (map read (exprs_of xs)) scopes depth)).size ≤ 4 * total (map expr_weight (exprs_of xs))
arguments_light [] scopes depth = omega arith
arguments_light (x ∷ xs) scopes depth = let h = x.1.argument scopes depth in let k = arguments_light xs scopes depth in omega (arith, h, k)

abbrev read_layer : Expr-F Expr_ Link_ → Reading
read_layer y = read_step (map-Expr Expr Link Reading (InScopes ValueLink) read link_in (map-Expr Expr_ Link_ Expr Link (λ x. x.0) (λ l. l.0) y))

abbrev weight_layer : Expr-F Expr_ Link_ → ℕ
weight_layer y = expr_weigh (map-Expr Expr Link ℕ ℕ expr_weight link_weight (map-Expr Expr_ Link_ Expr Link (λ x. x.0) (λ l. l.0) y))

-- what is no name and no place
only_value : (q : Reading) (weight : ℕ) → 1 ≤ weight → ((scopes : List (List Declaration)) (depth : ℕ) → size_in (q.value scopes depth) ≤ 4 * weight) →
    ((scopes : List (List Declaration)) (depth : ℕ) → q.argument scopes depth ≡ q.value scopes depth) →
    ((scopes : List (List Declaration)) (depth : ℕ) → q.target scopes depth ≡ tg.Variable (p.Global 0)) →
    ((scopes : List (List Declaration)) (depth : ℕ) → q.received scopes depth ≡ reference_to (tg.Variable (p.Global 0))) → IsLight q weight
only_value q weight some value argument target received = record {
  some = some;
  value = value;
  argument = λ scopes depth. subst (λ x. size_in x ≤ 4 * weight) (sym (argument scopes depth)) (value scopes depth);
  target = λ scopes depth. subst (λ x. (target_code x).size ≤ 4 * weight) (sym (target scopes depth)) (omega (arith, some));
  received = λ scopes depth.
      let e = reference_size (array_at (p.Global 0)) in
      subst (λ x. size_in x ≤ 4 * weight) (sym (received scopes depth)) (omega (arith, some, e));
}

abbrev Light : InScopes Value → ℕ → Type 0
Light x weight = (scopes : List (List Declaration)) (depth : ℕ) → size_in (x scopes depth) ≤ 4 * weight

-- where an operation takes its operands
moves_light : (action : InScopes Action) (from len : Expr_) (array : InScopes Array)
    → Light (λ scopes depth. v.Act (action scopes depth) (value_in from.0 scopes depth ∷ value_in len.0 scopes depth ∷ v.Reference (array scopes depth) ∷ []))
    (8 + (expr_weight from.0 + expr_weight len.0))
moves_light action from len array scopes depth =
    let e = act_size (action scopes depth) (value_in from.0 scopes depth ∷ value_in len.0 scopes depth ∷ v.Reference (array scopes depth) ∷ []) in
    let g = reference_size (array scopes depth) in
    let h = from.1.value scopes depth in
    let k = len.1.value scopes depth in
    omega (arith, e, g, h, k)

-- An expression may be read, be an argument, be set or receive, so each form has four bounds; most are values alone (`only_value`).
layer : (y : Expr-F Expr_ Link_) → IsLight (read_layer y) (weight_layer y)
layer (Expr-F.Number at n) =
    let light : Light (λ scopes depth. v.Number n) 1 = λ scopes depth. let e = number_size n in omega (arith, e) in
    only_value _ _ (omega arith) light (λ scopes depth. refl) (λ scopes depth. refl) (λ scopes depth. refl)
layer (Expr-F.Const at which) =
    let light : Light (λ scopes depth. v.Number (constant_value which)) 1 = λ scopes depth. let e = number_size (constant_value which) in omega (arith, e) in
    only_value _ _ (omega arith) light (λ scopes depth. refl) (λ scopes depth. refl) (λ scopes depth. refl)
layer (Expr-F.Name at name) = record {
  some = omega arith;
  value = λ scopes depth. let e = variable_size (place_of (visible name scopes) depth) in omega (arith, e);
  argument = λ scopes depth. let e = argument_size (visible name scopes) depth in omega (arith, e);
  target = λ scopes depth. let e = target_size (place_of (visible name scopes) depth) in omega (arith, e);
  received = λ scopes depth. let e = reference_size (received_in (visible name scopes) depth) in omega (arith, e);
}
layer (Expr-F.Index at name index) =
    let light : Light (λ scopes depth. v.Element (array_of (visible name scopes) depth) (value_in index.0 scopes depth)) (3 + expr_weight index.0)
    = λ scopes depth. let e = element_size (array_of (visible name scopes) depth) (value_in index.0 scopes depth) in let h = index.1.value scopes depth in omega (arith, e, h) in
    record {
      some = omega arith;
      value = light;
      argument = light;
      target = λ scopes depth. let h = index.1.value scopes depth in omega (arith, h);
      received = λ scopes depth.
          let e = part_size (array_of (visible name scopes) depth) (value_in index.0 scopes depth) in
          let h = index.1.value scopes depth in
          omega (arith, e, h);
    }
layer (Expr-F.Group at inner) =
    let light : Light (value_in inner.0) (2 + expr_weight inner.0) = λ scopes depth. let h = inner.1.value scopes depth in omega (arith, h) in
    only_value _ _ (omega arith) light (λ scopes depth. refl) (λ scopes depth. refl) (λ scopes depth. refl)
layer (Expr-F.Unary at op inner) =
    let light : Light (λ scopes depth. v.Unary op (value_in inner.0 scopes depth)) (1 + expr_weight inner.0)
    = λ scopes depth. let e = unary_size op (value_in inner.0 scopes depth) in let h = inner.1.value scopes depth in omega (arith, e, h) in
    only_value _ _ (omega arith) light (λ scopes depth. refl) (λ scopes depth. refl) (λ scopes depth. refl)
layer (Expr-F.Chain at level first rest) =
    let some = first.1.some in
    let light : Light (λ scopes depth. v.Chain (value_in first.0 scopes depth) (reading_links (map link_in (links_of rest)) scopes depth))
    (expr_weight first.0 + total (map link_weight (links_of rest)))
    = λ scopes depth.
    let e = chain_size (value_in first.0 scopes depth) (reading_links (map link_in (links_of rest)) scopes depth) in
    let h = first.1.value scopes depth in
    let k = links_light rest scopes depth in
    omega (arith, e, h, k) in
    only_value _ _ (omega (arith, some)) light (λ scopes depth. refl) (λ scopes depth. refl) (λ scopes depth. refl)
layer (Expr-F.Call at name args) =
    let light : Light (λ scopes depth. v.Act (act.Call (function_of (visible name scopes))) (arguments_step (map read (exprs_of args)) scopes depth)) (3 + total (map expr_weight (exprs_of args)))
    = λ scopes depth.
    let e = act_size (act.Call (function_of (visible name scopes))) (arguments_step (map read (exprs_of args)) scopes depth) in
    let h = arguments_light args scopes depth in
    omega (arith, e, h) in
    only_value _ _ (omega arith) light (λ scopes depth. refl) (λ scopes depth. refl) (λ scopes depth. refl)
layer (Expr-F.Send at channel value) =
    let light : Light (λ scopes depth. v.Act (act.Send (channel_of (visible channel scopes))) (argument_in value.0 scopes depth ∷ [])) (5 + expr_weight value.0)
    = λ scopes depth. let e = act_size (act.Send (channel_of (visible channel scopes))) (argument_in value.0 scopes depth ∷ []) in let h = value.1.argument scopes depth in omega (arith, e, h) in
    only_value _ _ (omega arith) light (λ scopes depth. refl) (λ scopes depth. refl) (λ scopes depth. refl)
layer (Expr-F.Recv at channel place) =
    let light : Light (λ scopes depth. v.Act (act.Recv (channel_of (visible channel scopes))) (place_in place.0 scopes depth ∷ [])) (6 + expr_weight place.0)
    = λ scopes depth.
    let e = act_size (act.Recv (channel_of (visible channel scopes))) (place_in place.0 scopes depth ∷ []) in
    let h = place.1.received scopes depth in
    omega (arith, e, h) in
    only_value _ _ (omega arith) light (λ scopes depth. refl) (λ scopes depth. refl) (λ scopes depth. refl)
layer (Expr-F.Read at file from len array) =
    only_value _ _ (omega arith) (moves_light (λ scopes depth. act.Read (file_of (visible file scopes))) from len (λ scopes depth. array_of (visible array scopes) depth))
    (λ scopes depth. refl) (λ scopes depth. refl) (λ scopes depth. refl)
layer (Expr-F.Write at file from len array) =
    only_value _ _ (omega arith) (moves_light (λ scopes depth. act.Write (file_of (visible file scopes))) from len (λ scopes depth. array_of (visible array scopes) depth))
    (λ scopes depth. refl) (λ scopes depth. refl) (λ scopes depth. refl)

same_light : (q q2 : Reading) (n n2 : ℕ) → q ≡ q2 → n ≡ n2 → IsLight q2 n2 → IsLight q n
same_light q q2 n n2 e g h = subst (λ k. IsLight k n) (sym e) (subst (IsLight q2) (sym g) h)

link_layer : (op : BinaryOp) (x : Expr) → Claim x → (scopes : List (List Declaration)) (depth : ℕ) →
    (joined_code (link_code (record { op = op; operand = (read x).value scopes depth })).0 (link_code (record { op = op; operand = (read x).value scopes depth })).1).size ≤ 4 * (1 + expr_weight x)
link_layer op x h scopes depth =
    let right = value_code ((read x).value scopes depth) in
    let j = joined_size op right in
    let k = h.value scopes depth in
    subst (λ (z : BinaryOp × Piece). (joined_code z.0 z.1).size ≤ 4 * (1 + expr_weight x)) (sym (link_form (record { op = op; operand = (read x).value scopes depth }))) (omega (arith, j, k))

abbrev light_at : ValueLink → ℕ → Type 0
light_at l n = (joined_code (link_code l).0 (link_code l).1).size ≤ 4 * n

light_link : (l l2 : ValueLink) (n n2 : ℕ) → l ≡ l2 → n ≡ n2 → light_at l2 n2 → light_at l n
light_link l l2 n n2 e g h = subst (λ k. light_at k n) (sym e) (subst (light_at l2) (sym g) h)

expr_light : (x : Expr) → Claim x
expr_light = ind-Expr Claim LinkClaim
    (λ x y is.
    same_light _ (read_layer y) _ (weight_layer y)
    (fold-roll-Expr Reading (InScopes ValueLink) read_step reading_link x ∙ sym (ap (λ z. read_step (map-Expr Expr Link Reading (InScopes ValueLink) read link_in z)) is))
    (fold-roll-Expr ℕ ℕ expr_weigh link_weigh x ∙ sym (ap (λ z. expr_weigh (map-Expr Expr Link ℕ ℕ expr_weight link_weight z)) is))
    (layer y))
    (λ x y is scopes depth.
    light_link _ (record { op = x.op; operand = (read x.operand).value scopes depth }) _ (1 + expr_weight x.operand)
    (ap (λ (g : InScopes ValueLink). g scopes depth) (fold-roll-Link Reading (InScopes ValueLink) read_step reading_link x))
    (fold-roll-Link ℕ ℕ expr_weigh link_weigh x)
    (link_layer x.op x.operand (subst (λ (z : Link-F Expr Link). Claim z.operand) is y.operand.1) scopes depth))

values_light : (xs : List Expr) (scopes : List (List Declaration)) (depth : ℕ) → (values_code (values_in xs scopes depth)).size ≤ 4 * exprs_weight xs
values_light [] scopes depth = omega arith
values_light (x ∷ xs) scopes depth = let h = (expr_light x).value scopes depth in let k = values_light xs scopes depth in omega (arith, h, k)

-- ---- commands by their forms

abbrev size_of : Command → ℕ
size_of c = (command_code c).size

abbrev body_size : List Command → ℕ
body_size cs = (body_code cs).size

abbrev step_size : Command-F Command → ℕ
step_size x = (command_step (map-Command Command Piece command_code x)).size

rolled_size : (x : Command-F Command) (c : Command) → c ≡ roll-Command x → size_of c ≡ step_size x
rolled_size x c e = ap size_of e ∙ ap (λ (q : Piece). q.size) (fold-roll-Command Piece command_step x)

single_size : (x : Command-F Command) (c : Command) → c ≡ roll-Command x → body_size (c ∷ []) ≡ step_size x
single_size x c e = let h = rolled_size x c e in omega (arith, h)

append_size : (xs ys : List Command) → body_size (xs ++ ys) ≡ body_size xs + body_size ys
append_size [] ys = omega arith
append_size (x ∷ xs) ys = let h = append_size xs ys in omega (arith, h)

-- ---- parts of statements

initial_light : (x : Option Expr) (scopes : List (List Declaration)) (depth : ℕ) → size_in (initial_in x scopes depth) ≤ 1 + 4 * value_weight x
initial_light None scopes depth = let e = number_size (pos 0) in omega (arith, e)
initial_light (Some x) scopes depth = let h = (expr_light x).value scopes depth in omega (arith, h)

operand_light : (x : Option Expr) (scopes : List (List Declaration)) (depth : ℕ) → (operand_code (some_in x scopes depth)).size ≤ 1 + 4 * value_weight x
operand_light None scopes depth = omega arith
operand_light (Some x) scopes depth = let h = (expr_light x).value scopes depth in omega (arith, h)

test_light : (x : Option Expr) (scopes : List (List Declaration)) (depth count : ℕ) → (test_code (some_in x scopes depth) count).size ≤ 2 + 4 * value_weight x
test_light None scopes depth count = omega arith
test_light (Some x) scopes depth count = let h = (expr_light x).value scopes depth in omega (arith, h)

cancel_size : (o : Option Meaning) (depth : ℕ) → body_size (cancel_of o depth ∷ []) ≡ 2
cancel_size (Some (m.Label there slot)) depth = single_size _ _ (sym (cm.rolls-Cancel (depth - there) slot))
cancel_size (Some what) depth = single_size _ _ (sym (cm.rolls-Cancel 0 0))
cancel_size None depth = single_size _ _ (sym (cm.rolls-Cancel 0 0))

-- ---- statements

abbrev IsShort : Told → ℕ → Type 0
IsShort q weight = (n : Names) (depth : ℕ) (texts : Texts) → body_size (q.commands n depth texts) ≤ 4 * weight

abbrev StmtClaim : Stmt → Type 0
StmtClaim x = IsShort (told x) (stmt_weight x)

abbrev Stmt_ : Type 0
Stmt_ = (x : Stmt) × StmtClaim x

abbrev stmts_of : List Stmt_ → List Stmt
stmts_of xs = map (λ x. x.0) xs

stmts_short : (xs : List Stmt_) (n : Names) (depth : ℕ) (texts : Texts) → body_size (commands (map told (stmts_of xs)) n depth texts) ≤ 4 * total (map stmt_weight (stmts_of xs))
stmts_short [] n depth texts = omega arith
stmts_short (x ∷ xs) n depth texts =
    let e = append_size ((told x.0).commands n depth texts) (commands (map told (stmts_of xs)) (listed (told x.0).shape depth n) depth ((told x.0).texts texts)) in
    let h = x.1 n depth texts in
    let k = stmts_short xs (listed (told x.0).shape depth n) depth ((told x.0).texts texts) in
    omega (arith, e, h, k)

abbrev told_of : Option Stmt_ → Option Told
told_of None = None
told_of (Some x) = Some (told x.0)

abbrev weight_of : Option Stmt_ → ℕ
weight_of None = 0
weight_of (Some x) = stmt_weight x.0

some_short : (x : Option Stmt_) (n : Names) (depth : ℕ) (texts : Texts) → body_size (some_commands (told_of x) n depth texts) ≤ 4 * weight_of x
some_short None n depth texts = omega arith
some_short (Some x) n depth texts = x.1 n depth texts

for_short : (init : Option Stmt_) (test : Option Expr) (next : Option Stmt_) (body : Stmt_) (n : Names) (depth : ℕ) (texts : Texts) →
    body_size (some_commands (told_of init) (opened n) depth texts
    ++ cm.For (some_in test (for_names (told_of init) depth n).scopes depth)
    (some_commands (told_of next) (for_names (told_of init) depth n) depth (some_texts (told_of init) texts))
    ((told body.0).commands (moved (for_names (told_of init) depth n) (some_words (some_shape (told_of next)))) depth (some_texts (told_of next) (some_texts (told_of init) texts)))
    ∷ []) ≤ 4 * (5 + (weight_of init + (value_weight test + (weight_of next + stmt_weight body.0))))
for_short init test next body n depth texts =
    let names = for_names (told_of init) depth n in
    let after = some_texts (told_of init) texts in
    let head = some_commands (told_of init) (opened n) depth texts in
    let tested = some_in test names.scopes depth in
    let nexts = some_commands (told_of next) names depth after in
    let inside = (told body.0).commands (moved names (some_words (some_shape (told_of next)))) depth (some_texts (told_of next) after) in
    let e = append_size head (cm.For tested nexts inside ∷ []) in
    let f = single_size (Command-F.For tested nexts inside) _ (sym (cm.rolls-For tested nexts inside)) in
    let g = test_light test names.scopes depth (body_size inside + (body_size nexts + 1)) in
    let h = some_short init (opened n) depth texts in
    let k = some_short next names depth after in
    let l = body.1 (moved names (some_words (some_shape (told_of next)))) depth (some_texts (told_of next) after) in
    omega (arith, e, f, g, h, k, l)

abbrev told_layer : Stmt-F Stmt_ → Told
told_layer y = told_step (map-Stmt Stmt Told told (map-Stmt Stmt_ Stmt (λ x. x.0) y))

abbrev stmt_layer_weight : Stmt-F Stmt_ → ℕ
stmt_layer_weight y = stmt_weigh (map-Stmt Stmt ℕ stmt_weight (map-Stmt Stmt_ Stmt (λ x. x.0) y))

-- The code of the form in its parts, each bounded by what that part weighs; the sums are then compared.
stmt_layer : (y : Stmt-F Stmt_) → IsShort (told_layer y) (stmt_layer_weight y)
stmt_layer (Stmt-F.Block at body) n depth texts = let h = stmts_short body (opened n) depth texts in omega (arith, h)
stmt_layer (Stmt-F.Empty at) n depth texts = let e = single_size Command-F.Nothing cm.Nothing (sym cm.rolls-Nothing) in omega (arith, e)
stmt_layer (Stmt-F.Int at name value) n depth texts =
    let e = single_size _ _ (sym (cm.rolls-Set (tg.Variable (p.Local 0 n.slot)) (initial_in value n.scopes depth))) in
    let h = initial_light value n.scopes depth in
    omega (arith, e, h)
stmt_layer (Stmt-F.Array at name size) n depth texts = let e = single_size _ _ (sym (cm.rolls-Clear n.slot (array_len size))) in omega (arith, e)
stmt_layer (Stmt-F.Assign at place value) n depth texts =
    let e = single_size _ _ (sym (cm.rolls-Set (target_in place n.scopes depth) (value_in value n.scopes depth))) in
    let h = (expr_light place).target n.scopes depth in
    let k = (expr_light value).value n.scopes depth in
    omega (arith, e, h, k)
stmt_layer (Stmt-F.Call at call) n depth texts =
    let e = single_size _ _ (sym (cm.rolls-Run (value_in call n.scopes depth))) in
    let h = (expr_light call).value n.scopes depth in
    omega (arith, e, h)
stmt_layer (Stmt-F.Print at format args) n depth texts =
    let e = single_size _ _ (sym (cm.rolls-Print (length texts) (values_in args n.scopes depth))) in
    let h = values_light args n.scopes depth in
    omega (arith, e, h)
stmt_layer (Stmt-F.If at test body None) n depth texts =
    let e = single_size (Command-F.If (value_in test n.scopes depth) ((told body.0).commands n depth texts) None) _
    (sym (cm.rolls-If (value_in test n.scopes depth) ((told body.0).commands n depth texts) None)) in
    let h = (expr_light test).value n.scopes depth in
    let k = body.1 n depth texts in
    omega (arith, e, h, k)
stmt_layer (Stmt-F.If at test body (Some other)) n depth texts =
    let inside = (told body.0).commands n depth texts in
    let after = moved n (part_words (told body.0).shape) in
    let others = (told other.0).commands after depth ((told body.0).texts texts) in
    let e = single_size (Command-F.If (value_in test n.scopes depth) inside (Some others)) _ (sym (cm.rolls-If (value_in test n.scopes depth) inside (Some others))) in
    let h = (expr_light test).value n.scopes depth in
    let k = body.1 n depth texts in
    let l = other.1 after depth ((told body.0).texts texts) in
    omega (arith, e, h, k, l)
stmt_layer (Stmt-F.While at test body) n depth texts =
    let e = single_size (Command-F.While (value_in test n.scopes depth) ((told body.0).commands n depth texts)) _
    (sym (cm.rolls-While (value_in test n.scopes depth) ((told body.0).commands n depth texts))) in
    let h = (expr_light test).value n.scopes depth in
    let k = body.1 n depth texts in
    omega (arith, e, h, k)
stmt_layer (Stmt-F.For at None test None body) n depth texts = for_short None test None body n depth texts
stmt_layer (Stmt-F.For at None test (Some y) body) n depth texts = for_short None test (Some y) body n depth texts
stmt_layer (Stmt-F.For at (Some x) test None body) n depth texts = for_short (Some x) test None body n depth texts
stmt_layer (Stmt-F.For at (Some x) test (Some y) body) n depth texts = for_short (Some x) test (Some y) body n depth texts
stmt_layer (Stmt-F.Break at) n depth texts = let e = single_size Command-F.Break cm.Break (sym cm.rolls-Break) in omega (arith, e)
stmt_layer (Stmt-F.Continue at) n depth texts = let e = single_size Command-F.Continue cm.Continue (sym cm.rolls-Continue) in omega (arith, e)
stmt_layer (Stmt-F.Return at value) n depth texts =
    let e = single_size _ _ (sym (cm.rolls-Return (some_in value n.scopes depth))) in
    let h = operand_light value n.scopes depth in
    omega (arith, e, h)
stmt_layer (Stmt-F.Do at label body) n depth texts =
    let names = opened (in_do label depth n) in
    let inside = commands (map told (stmts_of body)) names depth texts in
    let e = single_size (Command-F.Do n.slot inside) _ (sym (cm.rolls-Do n.slot inside)) in
    let h = stmts_short body names depth texts in
    omega (arith, e, h)
stmt_layer (Stmt-F.Async at body) n depth texts =
    let inside = (told body.0).commands (in_async n) (depth + 1) texts in
    let e = single_size (Command-F.Async (part_words (told body.0).shape) inside) _ (sym (cm.rolls-Async (part_words (told body.0).shape) inside)) in
    let h = body.1 (in_async n) (depth + 1) texts in
    omega (arith, e, h)
stmt_layer (Stmt-F.Cancel at label) n depth texts = let e = cancel_size (visible label n.labels) depth in omega (arith, e)
stmt_layer (Stmt-F.Yield at) n depth texts = let e = single_size Command-F.Yield cm.Yield (sym cm.rolls-Yield) in omega (arith, e)

same_short : (q q2 : Told) (k k2 : ℕ) → q ≡ q2 → k ≡ k2 → IsShort q2 k2 → IsShort q k
same_short q q2 k k2 e g h = subst (λ x. IsShort x k) (sym e) (subst (IsShort q2) (sym g) h)

stmt_short : (x : Stmt) → StmtClaim x
stmt_short = ind-Stmt StmtClaim
    (λ x y is.
    same_short _ (told_layer y) _ (stmt_layer_weight y)
    (fold-roll-Stmt Told told_step x ∙ sym (ap (λ z. told_step (map-Stmt Stmt Told told z)) is))
    (fold-roll-Stmt ℕ stmt_weigh x ∙ sym (ap (λ z. stmt_weigh (map-Stmt Stmt ℕ stmt_weight z)) is))
    (stmt_layer y))

body_short : (xs : List Stmt) (n : Names) (depth : ℕ) (texts : Texts) → body_size (commands (body_told xs) n depth texts) ≤ 4 * body_weight xs
body_short [] n depth texts = omega arith
body_short (x ∷ xs) n depth texts =
    let e = append_size ((told x).commands n depth texts) (commands (body_told xs) (listed (told x).shape depth n) depth ((told x).texts texts)) in
    let h = stmt_short x n depth texts in
    let k = body_short xs (listed (told x).shape depth n) depth ((told x).texts texts) in
    omega (arith, e, h, k)

-- ---- programs

functions_short : (items : List Item) (scopes : List (List Declaration)) (texts : Texts) → (functions_code (functions_in items scopes texts)).size ≤ 4 * items_weight items
functions_short [] scopes texts = omega arith
functions_short (i.Function f ∷ items) scopes texts =
    let h = body_short f.body (body_names f scopes) 0 texts in
    let k = functions_short items scopes (function_texts f texts) in
    omega (arith, h, k)
functions_short (i.Global at name size value ∷ items) scopes texts = let k = functions_short items scopes texts in omega (arith, k)
functions_short (i.Channel at name from to cap ∷ items) scopes texts = let k = functions_short items scopes texts in omega (arith, k)
functions_short (i.File at name path ∷ items) scopes texts = let k = functions_short items scopes texts in omega (arith, k)
functions_short (i.Core at name entry ∷ items) scopes texts = let k = functions_short items scopes texts in omega (arith, k)

code_short : (p : Program) → (functions_code (resolved p).functions).size ≤ 4 * items_weight p.items
code_short p = functions_short p.items (outermost p.items) []

-- numbers of 32 bits suffice for its addresses
pub code_small : (p : Program) → IsSmall p → (functions_code (resolved p).functions).size < 2 ^ 32
code_small p small = let h = code_short p in omega (arith, h, small)

-- each channel and each core weighs something
links_few : (all : List Item) (number : ℕ) (items : List Item) (scopes : List (List Declaration)) → length (channels_in all number items scopes) + length (cores_in items scopes) ≤ items_weight items
links_few all number [] scopes = omega arith
links_few all number (i.Function f ∷ items) scopes = let k = links_few all number items scopes in omega (arith, k)
links_few all number (i.Global at name size value ∷ items) scopes = let k = links_few all number items scopes in omega (arith, k)
links_few all number (i.Channel at name from to cap ∷ items) scopes = let k = links_few all (number + 1) items scopes in omega (arith, k)
links_few all number (i.File at name path ∷ items) scopes = let k = links_few all number items scopes in omega (arith, k)
links_few all number (i.Core at name entry ∷ items) scopes = let k = links_few all number items scopes in omega (arith, k)

-- and for its links
pub links_small : (p : Program) → IsSmall p → length (resolved p).channels + length (resolved p).cores < 2 ^ 32
links_small p small = let h = links_few p.items 0 p.items (outermost p.items) in omega (arith, h, small)

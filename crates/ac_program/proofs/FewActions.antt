-- A statement of a program has no more calls and operations than the program weighs tokens: each of them is spelled by some. By induction on
-- the tree, form by form, since what has no name weighs nothing of its own.
use Rattle.std.proofs.Common.{◌≡◌, ℕ, ◌+◌, ◌-◌, ◌≤◌, max, List, [], ◌∷◌, ◌++◌, length, map, Option, Some, None, refl, sym, ap, ◌∙◌, subst, arith}
use Rattle.std.specs.Prelude.{ℤ, pos}
use Rattle.std.proofs.lemmas.Bool.Decides.{nat_tests}
use Rattle.ac_tree.specs.declared.expr.UnaryOp.{UnaryOp}
use Rattle.ac_tree.specs.declared.expr.Expr.{Expr, ind-Expr, fold-roll-Expr, map-Expr}
use Rattle.ac_tree.specs.declared.expr.Expr.TheOpen.{Expr-F, Link-F}
use Rattle.ac_tree.specs.declared.expr.Link.{Link, fold-Link, fold-roll-Link}
use Rattle.ac_tree.specs.declared.stmt.Stmt.{Stmt}
use Rattle.ac_tree.specs.declared.stmt.Stmt.TheFolds.{fold-roll-Stmt, ind-Stmt, map-Stmt}
use Rattle.ac_tree.specs.declared.stmt.Stmt.TheOpen.{Stmt-F}
use Rattle.ac_tree.specs.declared.item.Item.{Item}
use Rattle.ac_tree.specs.declared.item.Item.TheVariants as i
use Rattle.ac_tree.specs.declared.item.Program.{Program}
use Rattle.ac_tree.specs.Weight.{total, expr_weigh, link_weigh, expr_weight, exprs_weight, value_weight, stmt_weigh, stmt_weight, body_weight, items_weight}
use Rattle.ac_names.specs.declared.meaning.Meaning.{Meaning}
use Rattle.ac_names.specs.declared.meaning.Meaning.TheVariants as m
use Rattle.ac_names.specs.declared.names.Names.{Names}
use Rattle.ac_names.specs.Items.{outermost}
use Rattle.ac_names.specs.Scopes.{Declaration, visible}
use Rattle.ac_names.specs.Statements.{part_words, listed, some_words, opened, moved, in_do, in_async, array_len}
use Rattle.ac_commands.specs.declared.value.Place.{Place}
use Rattle.ac_commands.specs.declared.value.Place.TheVariants as p
use Rattle.ac_commands.specs.declared.value.Action.{Action}
use Rattle.ac_commands.specs.declared.value.Action.TheVariants as act
use Rattle.ac_commands.specs.declared.value.Array.{Array}
use Rattle.ac_commands.specs.declared.value.Value.{Value, fold-roll-Value}
use Rattle.ac_commands.specs.declared.value.Value.TheVariants as v
use Rattle.ac_commands.specs.declared.value.Value.TheOpen.{Value-F}
use Rattle.ac_commands.specs.declared.value.ValueLink.{ValueLink, fold-ValueLink, fold-roll-ValueLink}
use Rattle.ac_commands.specs.declared.command.Target.{Target}
use Rattle.ac_commands.specs.declared.command.Target.TheVariants as tg
use Rattle.ac_commands.specs.declared.command.Command.{Command, roll-Command, map-Command, fold-roll-Command}
use Rattle.ac_commands.specs.declared.command.Command.TheOpen.{Command-F}
use Rattle.ac_commands.specs.declared.command.Command.TheVariants as cm
use Rattle.ac_resolve.specs.Places.{constant_value, place_of, array_of, name_argument, array_at, received_in, reference_to, function_of, channel_of, file_of, cancel_of}
use Rattle.ac_resolve.specs.Computed.{InScopes, Reading, read_step, read, link_in, arguments_step, value_in, argument_in, values_in, some_in, target_in, place_in, initial_in}
use Rattle.ac_resolve.specs.Computed.{link_step as reading_link, links_step as reading_links}
use Rattle.ac_resolve.specs.Commands.{Texts, Told, told_step, told, body_told, some_shape, commands, some_texts, some_commands, for_names}
use Rattle.ac_resolve.specs.Resolution.{body_names, function_texts, functions_in, resolved}
use Rattle.ac_semantics.specs.Statements.{operands_of, target_operands, some_operand}
use Rattle.journal_bounds.specs.Actions.{value_step, link_step, actions_in, actions_of, command_step, most_within, most_in, most_of, most_in_function, most_actions, greatest, total as together}

-- ---- values by their forms

abbrev actions_in_link : ValueLink → ℕ
actions_in_link = fold-ValueLink ℕ ℕ value_step link_step

number_has : (n : ℤ) → actions_in (v.Number n) ≡ 0
number_has n = ap actions_in (sym (v.rolls-Number n)) ∙ fold-roll-Value ℕ ℕ value_step link_step (Value-F.Number n)

variable_has : (place : Place) → actions_in (v.Variable place) ≡ 0
variable_has place = ap actions_in (sym (v.rolls-Variable place)) ∙ fold-roll-Value ℕ ℕ value_step link_step (Value-F.Variable place)

reference_has : (array : Array) → actions_in (v.Reference array) ≡ 0
reference_has array = ap actions_in (sym (v.rolls-Reference array)) ∙ fold-roll-Value ℕ ℕ value_step link_step (Value-F.Reference array)

element_has : (array : Array) (index : Value) → actions_in (v.Element array index) ≡ actions_in index
element_has array index = ap actions_in (sym (v.rolls-Element array index)) ∙ fold-roll-Value ℕ ℕ value_step link_step (Value-F.Element array index)

part_has : (array : Array) (index : Value) → actions_in (v.Part array index) ≡ actions_in index
part_has array index = ap actions_in (sym (v.rolls-Part array index)) ∙ fold-roll-Value ℕ ℕ value_step link_step (Value-F.Part array index)

unary_has : (op : UnaryOp) (operand : Value) → actions_in (v.Unary op operand) ≡ actions_in operand
unary_has op operand = ap actions_in (sym (v.rolls-Unary op operand)) ∙ fold-roll-Value ℕ ℕ value_step link_step (Value-F.Unary op operand)

chain_has : (first : Value) (rest : List ValueLink) → actions_in (v.Chain first rest) ≡ actions_in first + together (map actions_in_link rest)
chain_has first rest = ap actions_in (sym (v.rolls-Chain first rest)) ∙ fold-roll-Value ℕ ℕ value_step link_step (Value-F.Chain first rest)

act_has : (action : Action) (operands : List Value) → actions_in (v.Act action operands) ≡ 1 + actions_of operands
act_has action operands = ap actions_in (sym (v.rolls-Act action operands)) ∙ fold-roll-Value ℕ ℕ value_step link_step (Value-F.Act action operands)

link_has : (l : ValueLink) → actions_in_link l ≡ actions_in l.operand
link_has l = fold-roll-ValueLink ℕ ℕ value_step link_step (record { op = l.op; operand = l.operand })

-- ---- expressions

argument_has : (o : Option Meaning) (depth : ℕ) → actions_in (name_argument o depth) ≡ 0
argument_has (Some (m.GlobalArray slot len)) depth = reference_has _
argument_has (Some (m.LocalArray there slot len)) depth = reference_has _
argument_has (Some (m.ArrayParam slot)) depth = reference_has _
argument_has (Some what) depth = variable_has (place_of (Some what) depth)
argument_has None depth = variable_has (place_of None depth)

abbrev actions_at : Target → ℕ
actions_at target = actions_of (target_operands target)

-- what an expression of that weight gives, wherever it stands
record HasFew (q : Reading) (weight : ℕ) : Type 0 where
  value : (scopes : List (List Declaration)) (depth : ℕ) → actions_in (q.value scopes depth) ≤ weight
  argument : (scopes : List (List Declaration)) (depth : ℕ) → actions_in (q.argument scopes depth) ≤ weight
  target : (scopes : List (List Declaration)) (depth : ℕ) → actions_at (q.target scopes depth) ≤ weight
  received : (scopes : List (List Declaration)) (depth : ℕ) → actions_in (q.received scopes depth) ≤ weight

abbrev Claim : Expr → Type 0
Claim x = HasFew (read x) (expr_weight x)

abbrev link_weight : Link → ℕ
link_weight = fold-Link ℕ ℕ expr_weigh link_weigh

abbrev LinkClaim : Link → Type 0
LinkClaim l = (scopes : List (List Declaration)) (depth : ℕ) → actions_in_link (link_in l scopes depth) ≤ link_weight l

abbrev Expr_ : Type 0
Expr_ = (x : Expr) × Claim x

abbrev Link_ : Type 0
Link_ = (l : Link) × LinkClaim l

abbrev exprs_of : List Expr_ → List Expr
exprs_of xs = map (λ x. x.0) xs

abbrev links_of : List Link_ → List Link
links_of ls = map (λ l. l.0) ls

links_have : (ls : List Link_) (scopes : List (List Declaration)) (depth : ℕ)
    → together (map actions_in_link (reading_links (map link_in (links_of ls)) scopes depth)) ≤ total (map link_weight (links_of ls))
links_have [] scopes depth = omega arith
links_have (l ∷ ls) scopes depth = let h = l.1 scopes depth in let k = links_have ls scopes depth in omega (arith, h, k)

arguments_have : (xs : List Expr_) (scopes : List (List Declaration)) (depth : ℕ)
    → actions_of (arguments_step (map read (exprs_of xs)) scopes depth) ≤ total (map expr_weight (exprs_of xs))
arguments_have [] scopes depth = omega arith
arguments_have (x ∷ xs) scopes depth = let h = x.1.argument scopes depth in let k = arguments_have xs scopes depth in omega (arith, h, k)

abbrev read_layer : Expr-F Expr_ Link_ → Reading
read_layer y = read_step (map-Expr Expr Link Reading (InScopes ValueLink) read link_in (map-Expr Expr_ Link_ Expr Link (λ x. x.0) (λ l. l.0) y))

abbrev weight_layer : Expr-F Expr_ Link_ → ℕ
weight_layer y = expr_weigh (map-Expr Expr Link ℕ ℕ expr_weight link_weight (map-Expr Expr_ Link_ Expr Link (λ x. x.0) (λ l. l.0) y))

abbrev Few : InScopes Value → ℕ → Type 0
Few x weight = (scopes : List (List Declaration)) (depth : ℕ) → actions_in (x scopes depth) ≤ weight

-- what is no name and no place
only_value : (q : Reading) (weight : ℕ) → Few q.value weight →
    ((scopes : List (List Declaration)) (depth : ℕ) → q.argument scopes depth ≡ q.value scopes depth) →
    ((scopes : List (List Declaration)) (depth : ℕ) → q.target scopes depth ≡ tg.Variable (p.Global 0)) →
    ((scopes : List (List Declaration)) (depth : ℕ) → q.received scopes depth ≡ reference_to (tg.Variable (p.Global 0))) → HasFew q weight
only_value q weight value argument target received = record {
  value = value;
  argument = λ scopes depth. subst (λ x. actions_in x ≤ weight) (sym (argument scopes depth)) (value scopes depth);
  target = λ scopes depth. subst (λ x. actions_at x ≤ weight) (sym (target scopes depth)) (omega arith);
  received = λ scopes depth.
      let e = reference_has (array_at (p.Global 0)) in
      subst (λ x. actions_in x ≤ weight) (sym (received scopes depth)) (omega (arith, e));
}

-- where an operation takes its operands
moves_have : (action : InScopes Action) (from len : Expr_) (array : InScopes Array)
    → Few (λ scopes depth. v.Act (action scopes depth) (value_in from.0 scopes depth ∷ value_in len.0 scopes depth ∷ v.Reference (array scopes depth) ∷ []))
    (8 + (expr_weight from.0 + expr_weight len.0))
moves_have action from len array scopes depth =
    let e = act_has (action scopes depth) (value_in from.0 scopes depth ∷ value_in len.0 scopes depth ∷ v.Reference (array scopes depth) ∷ []) in
    let g = reference_has (array scopes depth) in
    let h = from.1.value scopes depth in
    let k = len.1.value scopes depth in
    omega (arith, e, g, h, k)

-- An expression may be read, be an argument, be set or receive, so each form has four bounds; most are values alone (`only_value`).
layer : (y : Expr-F Expr_ Link_) → HasFew (read_layer y) (weight_layer y)
layer (Expr-F.Number at n) =
    let few : Few (λ scopes depth. v.Number n) 1 = λ scopes depth. let e = number_has n in omega (arith, e) in
    only_value _ _ few (λ scopes depth. refl) (λ scopes depth. refl) (λ scopes depth. refl)
layer (Expr-F.Const at which) =
    let few : Few (λ scopes depth. v.Number (constant_value which)) 1 = λ scopes depth. let e = number_has (constant_value which) in omega (arith, e) in
    only_value _ _ few (λ scopes depth. refl) (λ scopes depth. refl) (λ scopes depth. refl)
layer (Expr-F.Name at name) = record {
  value = λ scopes depth. let e = variable_has (place_of (visible name scopes) depth) in omega (arith, e);
  argument = λ scopes depth. let e = argument_has (visible name scopes) depth in omega (arith, e);
  target = λ scopes depth. omega arith;
  received = λ scopes depth. let e = reference_has (received_in (visible name scopes) depth) in omega (arith, e);
}
layer (Expr-F.Index at name index) =
    let few : Few (λ scopes depth. v.Element (array_of (visible name scopes) depth) (value_in index.0 scopes depth)) (3 + expr_weight index.0)
    = λ scopes depth. let e = element_has (array_of (visible name scopes) depth) (value_in index.0 scopes depth) in let h = index.1.value scopes depth in omega (arith, e, h) in
    record {
      value = few;
      argument = few;
      target = λ scopes depth. let e = reference_has (array_of (visible name scopes) depth) in let h = index.1.value scopes depth in omega (arith, e, h);
      received = λ scopes depth.
          let e = part_has (array_of (visible name scopes) depth) (value_in index.0 scopes depth) in
          let h = index.1.value scopes depth in
          omega (arith, e, h);
    }
layer (Expr-F.Group at inner) =
    let few : Few (value_in inner.0) (2 + expr_weight inner.0) = λ scopes depth. let h = inner.1.value scopes depth in omega (arith, h) in
    only_value _ _ few (λ scopes depth. refl) (λ scopes depth. refl) (λ scopes depth. refl)
layer (Expr-F.Unary at op inner) =
    let few : Few (λ scopes depth. v.Unary op (value_in inner.0 scopes depth)) (1 + expr_weight inner.0)
    = λ scopes depth. let e = unary_has op (value_in inner.0 scopes depth) in let h = inner.1.value scopes depth in omega (arith, e, h) in
    only_value _ _ few (λ scopes depth. refl) (λ scopes depth. refl) (λ scopes depth. refl)
layer (Expr-F.Chain at level first rest) =
    let few : Few (λ scopes depth. v.Chain (value_in first.0 scopes depth) (reading_links (map link_in (links_of rest)) scopes depth))
    (expr_weight first.0 + total (map link_weight (links_of rest)))
    = λ scopes depth.
    let e = chain_has (value_in first.0 scopes depth) (reading_links (map link_in (links_of rest)) scopes depth) in
    let h = first.1.value scopes depth in
    let k = links_have rest scopes depth in
    omega (arith, e, h, k) in
    only_value _ _ few (λ scopes depth. refl) (λ scopes depth. refl) (λ scopes depth. refl)
layer (Expr-F.Call at name args) =
    let few : Few (λ scopes depth. v.Act (act.Call (function_of (visible name scopes))) (arguments_step (map read (exprs_of args)) scopes depth)) (3 + total (map expr_weight (exprs_of args)))
    = λ scopes depth.
    let e = act_has (act.Call (function_of (visible name scopes))) (arguments_step (map read (exprs_of args)) scopes depth) in
    let h = arguments_have args scopes depth in
    omega (arith, e, h) in
    only_value _ _ few (λ scopes depth. refl) (λ scopes depth. refl) (λ scopes depth. refl)
layer (Expr-F.Send at channel value) =
    let few : Few (λ scopes depth. v.Act (act.Send (channel_of (visible channel scopes))) (argument_in value.0 scopes depth ∷ [])) (5 + expr_weight value.0)
    = λ scopes depth. let e = act_has (act.Send (channel_of (visible channel scopes))) (argument_in value.0 scopes depth ∷ []) in let h = value.1.argument scopes depth in omega (arith, e, h) in
    only_value _ _ few (λ scopes depth. refl) (λ scopes depth. refl) (λ scopes depth. refl)
layer (Expr-F.Recv at channel place) =
    let few : Few (λ scopes depth. v.Act (act.Recv (channel_of (visible channel scopes))) (place_in place.0 scopes depth ∷ [])) (6 + expr_weight place.0)
    = λ scopes depth.
    let e = act_has (act.Recv (channel_of (visible channel scopes))) (place_in place.0 scopes depth ∷ []) in
    let h = place.1.received scopes depth in
    omega (arith, e, h) in
    only_value _ _ few (λ scopes depth. refl) (λ scopes depth. refl) (λ scopes depth. refl)
layer (Expr-F.Read at file from len array) =
    only_value _ _ (moves_have (λ scopes depth. act.Read (file_of (visible file scopes))) from len (λ scopes depth. array_of (visible array scopes) depth))
    (λ scopes depth. refl) (λ scopes depth. refl) (λ scopes depth. refl)
layer (Expr-F.Write at file from len array) =
    only_value _ _ (moves_have (λ scopes depth. act.Write (file_of (visible file scopes))) from len (λ scopes depth. array_of (visible array scopes) depth))
    (λ scopes depth. refl) (λ scopes depth. refl) (λ scopes depth. refl)

same_few : (q q2 : Reading) (n n2 : ℕ) → q ≡ q2 → n ≡ n2 → HasFew q2 n2 → HasFew q n
same_few q q2 n n2 e g h = subst (λ k. HasFew k n) (sym e) (subst (HasFew q2) (sym g) h)

link_few : (l l2 : ValueLink) (n n2 : ℕ) → l ≡ l2 → n ≡ n2 → actions_in_link l2 ≤ n2 → actions_in_link l ≤ n
link_few l l2 n n2 e g h = subst (λ k. actions_in_link k ≤ n) (sym e) (subst (λ k. actions_in_link l2 ≤ k) (sym g) h)

link_layer : (l : ValueLink) (weight : ℕ) → actions_in l.operand ≤ weight → actions_in_link l ≤ 1 + weight
link_layer l weight h = let e = link_has l in omega (arith, e)

expr_few : (x : Expr) → Claim x
expr_few = ind-Expr Claim LinkClaim
    (λ x y is.
    same_few _ (read_layer y) _ (weight_layer y)
    (fold-roll-Expr Reading (InScopes ValueLink) read_step reading_link x ∙ sym (ap (λ z. read_step (map-Expr Expr Link Reading (InScopes ValueLink) read link_in z)) is))
    (fold-roll-Expr ℕ ℕ expr_weigh link_weigh x ∙ sym (ap (λ z. expr_weigh (map-Expr Expr Link ℕ ℕ expr_weight link_weight z)) is))
    (layer y))
    (λ x y is scopes depth.
    link_few _ (record { op = x.op; operand = (read x.operand).value scopes depth }) _ (1 + expr_weight x.operand)
    (ap (λ (g : InScopes ValueLink). g scopes depth) (fold-roll-Link Reading (InScopes ValueLink) read_step reading_link x))
    (fold-roll-Link ℕ ℕ expr_weigh link_weigh x)
    (link_layer (record { op = x.op; operand = (read x.operand).value scopes depth }) (expr_weight x.operand)
    ((subst (λ (z : Link-F Expr Link). Claim z.operand) is y.operand.1).value scopes depth)))

values_few : (xs : List Expr) (scopes : List (List Declaration)) (depth : ℕ) → actions_of (values_in xs scopes depth) ≤ exprs_weight xs
values_few [] scopes depth = omega arith
values_few (x ∷ xs) scopes depth = let h = (expr_few x).value scopes depth in let k = values_few xs scopes depth in omega (arith, h, k)

-- ---- commands by their forms

both_few : (m n k : ℕ) → m ≤ k → n ≤ k → max m n ≤ k
both_few m n k a b = grind (arith, nat_tests)

abbrev step_within : Command-F Command → Command-F ℕ
step_within x = map-Command Command ℕ most_in x

-- a command that stands alone
alone : (x : Command-F Command) (c : Command) (n : ℕ) → c ≡ roll-Command x → actions_of (operands_of (step_within x)) ≤ n → most_within (step_within x) ≤ n → most_of (c ∷ []) ≤ n
alone x c n e own within =
    let same : most_in c ≡ command_step (step_within x) = ap most_in e ∙ fold-roll-Command ℕ command_step x in
    both_few (most_in c) 0 n (subst (λ k. k ≤ n) (sym same) (both_few (actions_of (operands_of (step_within x))) (most_within (step_within x)) n own within)) (omega arith)

append_few : (xs ys : List Command) (n : ℕ) → most_of xs ≤ n → most_of ys ≤ n → most_of (xs ++ ys) ≤ n
append_few [] ys n a b = b
append_few (x ∷ xs) ys n a b = both_few (most_in x) (most_of (xs ++ ys)) n (of_first (most_in x) (most_of xs) a) (append_few xs ys n (of_second (most_in x) (most_of xs) a) b) where
  of_first : (j k : ℕ) → max j k ≤ n → j ≤ n
  of_first j k h = grind (arith, nat_tests)

  of_second : (j k : ℕ) → max j k ≤ n → k ≤ n
  of_second j k h = grind (arith, nat_tests)

-- ---- parts of statements

initial_few : (x : Option Expr) (scopes : List (List Declaration)) (depth : ℕ) → actions_in (initial_in x scopes depth) ≤ value_weight x
initial_few None scopes depth = let e = number_has (pos 0) in omega (arith, e)
initial_few (Some x) scopes depth = (expr_few x).value scopes depth

operand_few : (x : Option Expr) (scopes : List (List Declaration)) (depth : ℕ) → actions_of (some_operand (some_in x scopes depth)) ≤ value_weight x
operand_few None scopes depth = omega arith
operand_few (Some x) scopes depth = let h = (expr_few x).value scopes depth in omega (arith, h)

cancel_few : (o : Option Meaning) (depth n : ℕ) → most_of (cancel_of o depth ∷ []) ≤ n
cancel_few (Some (m.Label there slot)) depth n = alone _ _ n (sym (cm.rolls-Cancel (depth - there) slot)) (omega arith) (omega arith)
cancel_few (Some what) depth n = alone _ _ n (sym (cm.rolls-Cancel 0 0)) (omega arith) (omega arith)
cancel_few None depth n = alone _ _ n (sym (cm.rolls-Cancel 0 0)) (omega arith) (omega arith)

-- ---- statements

abbrev IsFew : Told → ℕ → Type 0
IsFew q weight = (n : Names) (depth : ℕ) (texts : Texts) → most_of (q.commands n depth texts) ≤ weight

abbrev StmtClaim : Stmt → Type 0
StmtClaim x = IsFew (told x) (stmt_weight x)

abbrev Stmt_ : Type 0
Stmt_ = (x : Stmt) × StmtClaim x

abbrev stmts_of : List Stmt_ → List Stmt
stmts_of xs = map (λ x. x.0) xs

stmts_few : (xs : List Stmt_) (n : Names) (depth : ℕ) (texts : Texts) → most_of (commands (map told (stmts_of xs)) n depth texts) ≤ total (map stmt_weight (stmts_of xs))
stmts_few [] n depth texts = omega arith
stmts_few (x ∷ xs) n depth texts =
    let h = x.1 n depth texts in
    let k = stmts_few xs (listed (told x.0).shape depth n) depth ((told x.0).texts texts) in
    append_few ((told x.0).commands n depth texts) (commands (map told (stmts_of xs)) (listed (told x.0).shape depth n) depth ((told x.0).texts texts)) _ (omega (arith, h)) (omega (arith, k))

abbrev told_of : Option Stmt_ → Option Told
told_of None = None
told_of (Some x) = Some (told x.0)

abbrev weight_of : Option Stmt_ → ℕ
weight_of None = 0
weight_of (Some x) = stmt_weight x.0

some_few : (x : Option Stmt_) (n : Names) (depth : ℕ) (texts : Texts) → most_of (some_commands (told_of x) n depth texts) ≤ weight_of x
some_few None n depth texts = omega arith
some_few (Some x) n depth texts = x.1 n depth texts

for_few : (init : Option Stmt_) (test : Option Expr) (next : Option Stmt_) (body : Stmt_) (n : Names) (depth : ℕ) (texts : Texts) →
    most_of (some_commands (told_of init) (opened n) depth texts
    ++ cm.For (some_in test (for_names (told_of init) depth n).scopes depth)
    (some_commands (told_of next) (for_names (told_of init) depth n) depth (some_texts (told_of init) texts))
    ((told body.0).commands (moved (for_names (told_of init) depth n) (some_words (some_shape (told_of next)))) depth (some_texts (told_of next) (some_texts (told_of init) texts)))
    ∷ []) ≤ 5 + (weight_of init + (value_weight test + (weight_of next + stmt_weight body.0)))
for_few init test next body n depth texts =
    let names = for_names (told_of init) depth n in
    let after = some_texts (told_of init) texts in
    let head = some_commands (told_of init) (opened n) depth texts in
    let tested = some_in test names.scopes depth in
    let nexts = some_commands (told_of next) names depth after in
    let inside = (told body.0).commands (moved names (some_words (some_shape (told_of next)))) depth (some_texts (told_of next) after) in
    let all = 5 + (weight_of init + (value_weight test + (weight_of next + stmt_weight body.0))) in
    let g = operand_few test names.scopes depth in
    let h = some_few init (opened n) depth texts in
    let k = some_few next names depth after in
    let l = body.1 (moved names (some_words (some_shape (told_of next)))) depth (some_texts (told_of next) after) in
    append_few head (cm.For tested nexts inside ∷ []) all (omega (arith, h))
    (alone (Command-F.For tested nexts inside) _ all (sym (cm.rolls-For tested nexts inside)) (omega (arith, g))
    (both_few (most_of nexts) (most_of inside) all (omega (arith, k)) (omega (arith, l))))

abbrev told_layer : Stmt-F Stmt_ → Told
told_layer y = told_step (map-Stmt Stmt Told told (map-Stmt Stmt_ Stmt (λ x. x.0) y))

abbrev stmt_layer_weight : Stmt-F Stmt_ → ℕ
stmt_layer_weight y = stmt_weigh (map-Stmt Stmt ℕ stmt_weight (map-Stmt Stmt_ Stmt (λ x. x.0) y))

-- Of each form, what its own expressions have and what the statements within it have, each bounded by what that part weighs.
stmt_layer : (y : Stmt-F Stmt_) → IsFew (told_layer y) (stmt_layer_weight y)
stmt_layer (Stmt-F.Block at body) n depth texts = let h = stmts_few body (opened n) depth texts in omega (arith, h)
stmt_layer (Stmt-F.Empty at) n depth texts = alone Command-F.Nothing cm.Nothing _ (sym cm.rolls-Nothing) (omega arith) (omega arith)
stmt_layer (Stmt-F.Int at name value) n depth texts =
    let h = initial_few value n.scopes depth in
    alone (Command-F.Set (tg.Variable (p.Local 0 n.slot)) (initial_in value n.scopes depth)) _ _ (sym (cm.rolls-Set (tg.Variable (p.Local 0 n.slot)) (initial_in value n.scopes depth)))
    (omega (arith, h)) (omega arith)
stmt_layer (Stmt-F.Array at name size) n depth texts = alone _ _ _ (sym (cm.rolls-Clear n.slot (array_len size))) (omega arith) (omega arith)
stmt_layer (Stmt-F.Assign at place value) n depth texts =
    let h = (expr_few place).target n.scopes depth in
    let k = (expr_few value).value n.scopes depth in
    alone (Command-F.Set (target_in place n.scopes depth) (value_in value n.scopes depth)) _ _ (sym (cm.rolls-Set (target_in place n.scopes depth) (value_in value n.scopes depth)))
    (omega (arith, h, k)) (omega arith)
stmt_layer (Stmt-F.Call at call) n depth texts =
    let h = (expr_few call).value n.scopes depth in
    alone (Command-F.Run (value_in call n.scopes depth)) _ _ (sym (cm.rolls-Run (value_in call n.scopes depth))) (omega (arith, h)) (omega arith)
stmt_layer (Stmt-F.Print at format args) n depth texts =
    let h = values_few args n.scopes depth in
    alone (Command-F.Print (length texts) (values_in args n.scopes depth)) _ _ (sym (cm.rolls-Print (length texts) (values_in args n.scopes depth))) (omega (arith, h)) (omega arith)
stmt_layer (Stmt-F.If at test body None) n depth texts =
    let inside = (told body.0).commands n depth texts in
    let h = (expr_few test).value n.scopes depth in
    let k = body.1 n depth texts in
    alone (Command-F.If (value_in test n.scopes depth) inside None) _ _ (sym (cm.rolls-If (value_in test n.scopes depth) inside None)) (omega (arith, h))
    (both_few (most_of inside) 0 _ (omega (arith, k)) (omega arith))
stmt_layer (Stmt-F.If at test body (Some other)) n depth texts =
    let inside = (told body.0).commands n depth texts in
    let after = moved n (part_words (told body.0).shape) in
    let others = (told other.0).commands after depth ((told body.0).texts texts) in
    let h = (expr_few test).value n.scopes depth in
    let k = body.1 n depth texts in
    let l = other.1 after depth ((told body.0).texts texts) in
    alone (Command-F.If (value_in test n.scopes depth) inside (Some others)) _ _ (sym (cm.rolls-If (value_in test n.scopes depth) inside (Some others))) (omega (arith, h))
    (both_few (most_of inside) (most_of others) _ (omega (arith, k)) (omega (arith, l)))
stmt_layer (Stmt-F.While at test body) n depth texts =
    let inside = (told body.0).commands n depth texts in
    let h = (expr_few test).value n.scopes depth in
    let k = body.1 n depth texts in
    alone (Command-F.While (value_in test n.scopes depth) inside) _ _ (sym (cm.rolls-While (value_in test n.scopes depth) inside)) (omega (arith, h)) (omega (arith, k))
stmt_layer (Stmt-F.For at None test None body) n depth texts = for_few None test None body n depth texts
stmt_layer (Stmt-F.For at None test (Some y) body) n depth texts = for_few None test (Some y) body n depth texts
stmt_layer (Stmt-F.For at (Some x) test None body) n depth texts = for_few (Some x) test None body n depth texts
stmt_layer (Stmt-F.For at (Some x) test (Some y) body) n depth texts = for_few (Some x) test (Some y) body n depth texts
stmt_layer (Stmt-F.Break at) n depth texts = alone Command-F.Break cm.Break _ (sym cm.rolls-Break) (omega arith) (omega arith)
stmt_layer (Stmt-F.Continue at) n depth texts = alone Command-F.Continue cm.Continue _ (sym cm.rolls-Continue) (omega arith) (omega arith)
stmt_layer (Stmt-F.Return at value) n depth texts =
    let h = operand_few value n.scopes depth in
    alone (Command-F.Return (some_in value n.scopes depth)) _ _ (sym (cm.rolls-Return (some_in value n.scopes depth))) (omega (arith, h)) (omega arith)
stmt_layer (Stmt-F.Do at label body) n depth texts =
    let names = opened (in_do label depth n) in
    let inside = commands (map told (stmts_of body)) names depth texts in
    let h = stmts_few body names depth texts in
    alone (Command-F.Do n.slot inside) _ _ (sym (cm.rolls-Do n.slot inside)) (omega arith) (omega (arith, h))
stmt_layer (Stmt-F.Async at body) n depth texts =
    let inside = (told body.0).commands (in_async n) (depth + 1) texts in
    let h = body.1 (in_async n) (depth + 1) texts in
    alone (Command-F.Async (part_words (told body.0).shape) inside) _ _ (sym (cm.rolls-Async (part_words (told body.0).shape) inside)) (omega arith) (omega (arith, h))
stmt_layer (Stmt-F.Cancel at label) n depth texts = cancel_few (visible label n.labels) depth 3
stmt_layer (Stmt-F.Yield at) n depth texts = alone Command-F.Yield cm.Yield _ (sym cm.rolls-Yield) (omega arith) (omega arith)

same_few_of : (q q2 : Told) (k k2 : ℕ) → q ≡ q2 → k ≡ k2 → IsFew q2 k2 → IsFew q k
same_few_of q q2 k k2 e g h = subst (λ x. IsFew x k) (sym e) (subst (IsFew q2) (sym g) h)

stmt_few : (x : Stmt) → StmtClaim x
stmt_few = ind-Stmt StmtClaim
    (λ x y is.
    same_few_of _ (told_layer y) _ (stmt_layer_weight y)
    (fold-roll-Stmt Told told_step x ∙ sym (ap (λ z. told_step (map-Stmt Stmt Told told z)) is))
    (fold-roll-Stmt ℕ stmt_weigh x ∙ sym (ap (λ z. stmt_weigh (map-Stmt Stmt ℕ stmt_weight z)) is))
    (stmt_layer y))

body_few : (xs : List Stmt) (n : Names) (depth : ℕ) (texts : Texts) → most_of (commands (body_told xs) n depth texts) ≤ body_weight xs
body_few [] n depth texts = omega arith
body_few (x ∷ xs) n depth texts =
    let h = stmt_few x n depth texts in
    let k = body_few xs (listed (told x).shape depth n) depth ((told x).texts texts) in
    append_few ((told x).commands n depth texts) (commands (body_told xs) (listed (told x).shape depth n) depth ((told x).texts texts)) _ (omega (arith, h)) (omega (arith, k))

-- ---- programs

functions_few : (items : List Item) (scopes : List (List Declaration)) (texts : Texts) → greatest (map most_in_function (functions_in items scopes texts)) ≤ items_weight items
functions_few [] scopes texts = omega arith
functions_few (i.Function f ∷ items) scopes texts =
    let h = body_few f.body (body_names f scopes) 0 texts in
    let k = functions_few items scopes (function_texts f texts) in
    both_few (most_of (commands (body_told f.body) (body_names f scopes) 0 texts)) (greatest (map most_in_function (functions_in items scopes (function_texts f texts)))) _
    (omega (arith, h)) (omega (arith, k))
functions_few (i.Global at name size value ∷ items) scopes texts = let k = functions_few items scopes texts in omega (arith, k)
functions_few (i.Channel at name from to cap ∷ items) scopes texts = let k = functions_few items scopes texts in omega (arith, k)
functions_few (i.File at name path ∷ items) scopes texts = let k = functions_few items scopes texts in omega (arith, k)
functions_few (i.Core at name entry ∷ items) scopes texts = let k = functions_few items scopes texts in omega (arith, k)

pub few_actions : (p : Program) → most_actions (resolved p) ≤ items_weight p.items
few_actions p = functions_few p.items (outermost p.items) []

-- A program whose calls and operations stand alone has them alone without its names too.
-- The expressions of a program without its names have no more calls, and no more nested ones, than those of its tree; a group that goes takes
-- none away. By induction on the tree, form by form, as with the weight of its code (Weights).
use Rattle.std.proofs.Common.{◌≡◌, ℕ, ◌+◌, ◌≤◌, List, [], ◌∷◌, ◌++◌, map, Option, Some, None, refl, sym, ap, ◌∙◌, subst, arith}
use Rattle.std.specs.Prelude.{ℤ, pos, length}
use Rattle.ac_tree.specs.declared.expr.UnaryOp.{UnaryOp}
use Rattle.ac_tree.specs.declared.expr.Expr.{Expr, ind-Expr, fold-roll-Expr, map-Expr}
use Rattle.ac_tree.specs.declared.expr.Expr.TheOpen.{Expr-F, Link-F}
use Rattle.ac_tree.specs.declared.expr.Link.{Link, fold-Link, fold-roll-Link}
use Rattle.ac_tree.specs.declared.stmt.Stmt.{Stmt}
use Rattle.ac_tree.specs.declared.stmt.Stmt.TheFolds.{fold-roll-Stmt, ind-Stmt, map-Stmt}
use Rattle.ac_tree.specs.declared.stmt.Stmt.TheOpen.{Stmt-F}
use Rattle.ac_tree.specs.declared.item.Item.{Item}
use Rattle.ac_tree.specs.declared.item.Item.TheVariants as i
use Rattle.ac_tree.specs.declared.item.Program.{Program}
use Rattle.ac_tree.specs.Weight.{total}
use Rattle.ac_names.specs.declared.meaning.Meaning.{Meaning}
use Rattle.ac_names.specs.declared.meaning.Meaning.TheVariants as m
use Rattle.ac_names.specs.declared.names.Names.{Names}
use Rattle.ac_names.specs.Items.{outermost}
use Rattle.ac_names.specs.Scopes.{Declaration, visible}
use Rattle.ac_names.specs.Statements.{part_words, listed, some_words, opened, moved, in_do, in_async, array_len}
use Rattle.ac_commands.specs.declared.value.Place.{Place}
use Rattle.ac_commands.specs.declared.value.Place.TheVariants as p
use Rattle.ac_commands.specs.declared.value.Action.{Action}
use Rattle.ac_commands.specs.declared.value.Action.TheVariants as act
use Rattle.ac_commands.specs.declared.value.Array.{Array}
use Rattle.ac_commands.specs.declared.value.Value.{Value}
use Rattle.ac_commands.specs.declared.value.Value.TheVariants as v
use Rattle.ac_commands.specs.declared.value.Value.TheOpen.{Value-F}
use Rattle.ac_commands.specs.declared.value.ValueLink.{ValueLink}
use Rattle.ac_commands.specs.declared.command.Target.{Target}
use Rattle.ac_commands.specs.declared.command.Target.TheVariants as tg
use Rattle.ac_commands.specs.declared.command.Command.{Command, roll-Command, map-Command, fold-roll-Command}
use Rattle.ac_commands.specs.declared.command.Command.TheOpen.{Command-F}
use Rattle.ac_commands.specs.declared.command.Command.TheVariants as cm
use Rattle.ac_semantics.specs.Statements.{target_operands, some_operand}
use Rattle.ac_resolve.specs.Places.{constant_value, place_of, array_of, name_argument, array_at, received_in, reference_to, function_of, channel_of, file_of, cancel_of}
use Rattle.ac_resolve.specs.Computed.{InScopes, Reading, read_step, read, link_in, arguments_step, value_in, argument_in, values_in, some_in, target_in, place_in, initial_in}
use Rattle.ac_resolve.specs.Computed.{link_step as reading_link, links_step as reading_links}
use Rattle.ac_resolve.specs.Commands.{Texts, Told, told_step, told, body_told, some_shape, commands, some_texts, some_commands, for_names}
use Rattle.ac_resolve.specs.Resolution.{body_names, function_texts, functions_in, resolved}
use Rattle.ac_compile.specs.StandAlone.{Acts, no_act, one_act, total_acts, expr_step, acts_in, some_acts, some_nested, stmt_step, stmt_nested, item_nested, StandAlone}
use Rattle.ac_compile.specs.StandAlone as tree
use Rattle.ac_compile.specs.Alone.{acts, all_acts, after_act, command_step, command_nested, body_nested, function_nested, AreAlone}
use Rattle.ac_compile.proofs.Plainly.{link_acts, acts_form, link_count, nested_few}

-- ---- values by their forms

number_acts : (n : ℤ) → acts (v.Number n) ≡ no_act 0
number_acts n = ap acts (sym (v.rolls-Number n)) ∙ acts_form (Value-F.Number n)

variable_acts : (place : Place) → acts (v.Variable place) ≡ no_act 0
variable_acts place = ap acts (sym (v.rolls-Variable place)) ∙ acts_form (Value-F.Variable place)

reference_acts : (array : Array) → acts (v.Reference array) ≡ no_act 0
reference_acts array = ap acts (sym (v.rolls-Reference array)) ∙ acts_form (Value-F.Reference array)

element_acts : (array : Array) (index : Value) → acts (v.Element array index) ≡ no_act (acts index).all
element_acts array index = ap acts (sym (v.rolls-Element array index)) ∙ acts_form (Value-F.Element array index)

part_acts : (array : Array) (index : Value) → acts (v.Part array index) ≡ no_act (acts index).all
part_acts array index = ap acts (sym (v.rolls-Part array index)) ∙ acts_form (Value-F.Part array index)

unary_acts : (op : UnaryOp) (operand : Value) → acts (v.Unary op operand) ≡ no_act (acts operand).all
unary_acts op operand = ap acts (sym (v.rolls-Unary op operand)) ∙ acts_form (Value-F.Unary op operand)

chain_acts : (first : Value) (rest : List ValueLink) → acts (v.Chain first rest) ≡ no_act ((acts first).all + total (map link_acts rest))
chain_acts first rest = ap acts (sym (v.rolls-Chain first rest)) ∙ acts_form (Value-F.Chain first rest)

act_acts : (action : Action) (operands : List Value) → acts (v.Act action operands) ≡ one_act (all_acts operands)
act_acts action operands = ap acts (sym (v.rolls-Act action operands)) ∙ acts_form (Value-F.Act action operands)

-- ---- expressions

-- no more than these
record Within (x : Value) (a : Acts) : Type 0 where
  all : (acts x).all ≤ a.all
  nested : (acts x).nested ≤ a.nested

within_as : (x : Value) (b a : Acts) → acts x ≡ b → b.all ≤ a.all → b.nested ≤ a.nested → Within x a
within_as x b a e h k = record { all = subst (λ (z : Acts). z.all ≤ a.all) (sym e) h; nested = subst (λ (z : Acts). z.nested ≤ a.nested) (sym e) k }

argument_acts : (o : Option Meaning) (depth : ℕ) → acts (name_argument o depth) ≡ no_act 0
argument_acts (Some (m.GlobalArray slot len)) depth = reference_acts _
argument_acts (Some (m.LocalArray there slot len)) depth = reference_acts _
argument_acts (Some (m.ArrayParam slot)) depth = reference_acts _
argument_acts (Some what) depth = variable_acts (place_of (Some what) depth)
argument_acts None depth = variable_acts (place_of None depth)

abbrev target_acts : Target → ℕ
target_acts target = all_acts (target_operands target)

element_target : (array : Array) (index : Value) → target_acts (tg.Element array index) ≡ (acts index).all
element_target array index = let e = ap (λ (a : Acts). a.all) (reference_acts array) in omega (arith, e)

-- what an expression with so many gives, wherever it stands
record IsAlike (q : Reading) (a : Acts) : Type 0 where
  value : (scopes : List (List Declaration)) (depth : ℕ) → Within (q.value scopes depth) a
  argument : (scopes : List (List Declaration)) (depth : ℕ) → (acts (q.argument scopes depth)).all ≤ a.all
  target : (scopes : List (List Declaration)) (depth : ℕ) → target_acts (q.target scopes depth) ≤ a.all
  received : (scopes : List (List Declaration)) (depth : ℕ) → (acts (q.received scopes depth)).all ≤ a.all

abbrev Claim : Expr → Type 0
Claim x = IsAlike (read x) (tree.acts x)

abbrev link_total : Link → ℕ
link_total = fold-Link Acts ℕ expr_step tree.link_step

abbrev LinkClaim : Link → Type 0
LinkClaim l = (scopes : List (List Declaration)) (depth : ℕ) → link_acts (link_in l scopes depth) ≤ link_total l

abbrev Expr_ : Type 0
Expr_ = (x : Expr) × Claim x

abbrev Link_ : Type 0
Link_ = (l : Link) × LinkClaim l

abbrev exprs_of : List Expr_ → List Expr
exprs_of xs = map (λ x. x.0) xs

abbrev links_of : List Link_ → List Link
links_of ls = map (λ l. l.0) ls

links_alike : (ls : List Link_) (scopes : List (List Declaration)) (depth : ℕ)
    → total (map link_acts (reading_links (map link_in (links_of ls)) scopes depth)) ≤ total (map link_total (links_of ls))
links_alike [] scopes depth = omega arith
links_alike (l ∷ ls) scopes depth = let h = l.1 scopes depth in let k = links_alike ls scopes depth in omega (arith, h, k)

arguments_alike : (xs : List Expr_) (scopes : List (List Declaration)) (depth : ℕ)
    → all_acts (arguments_step (map read (exprs_of xs)) scopes depth) ≤ total_acts (map tree.acts (exprs_of xs))
arguments_alike [] scopes depth = omega arith
arguments_alike (x ∷ xs) scopes depth = let h = x.1.argument scopes depth in let k = arguments_alike xs scopes depth in omega (arith, h, k)

abbrev read_layer : Expr-F Expr_ Link_ → Reading
read_layer y = read_step (map-Expr Expr Link Reading (InScopes ValueLink) read link_in (map-Expr Expr_ Link_ Expr Link (λ x. x.0) (λ l. l.0) y))

abbrev acts_layer : Expr-F Expr_ Link_ → Acts
acts_layer y = expr_step (map-Expr Expr Link Acts ℕ tree.acts link_total (map-Expr Expr_ Link_ Expr Link (λ x. x.0) (λ l. l.0) y))

abbrev Gives : InScopes Value → Acts → Type 0
Gives x a = (scopes : List (List Declaration)) (depth : ℕ) → Within (x scopes depth) a

-- what is no name and no place
only_value : (q : Reading) (a : Acts) → Gives q.value a →
    ((scopes : List (List Declaration)) (depth : ℕ) → q.argument scopes depth ≡ q.value scopes depth) →
    ((scopes : List (List Declaration)) (depth : ℕ) → q.target scopes depth ≡ tg.Variable (p.Global 0)) →
    ((scopes : List (List Declaration)) (depth : ℕ) → q.received scopes depth ≡ reference_to (tg.Variable (p.Global 0))) → IsAlike q a
only_value q a value argument target received = record {
  value = value;
  argument = λ scopes depth. subst (λ x. (acts x).all ≤ a.all) (sym (argument scopes depth)) (value scopes depth).all;
  target = λ scopes depth. subst (λ t. target_acts t ≤ a.all) (sym (target scopes depth)) (omega arith);
  received = λ scopes depth.
      let e = ap (λ (z : Acts). z.all) (reference_acts (array_at (p.Global 0))) in
      subst (λ x. (acts x).all ≤ a.all) (sym (received scopes depth)) (omega (arith, e));
}

-- where an operation takes its operands
moves_alike : (action : InScopes Action) (from len : Expr_) (array : InScopes Array)
    → Gives (λ scopes depth. v.Act (action scopes depth) (value_in from.0 scopes depth ∷ value_in len.0 scopes depth ∷ v.Reference (array scopes depth) ∷ []))
    (one_act (acts_in from.0 + acts_in len.0))
moves_alike action from len array scopes depth =
    let e = ap (λ (a : Acts). a.all) (reference_acts (array scopes depth)) in
    let h = (from.1.value scopes depth).all in
    let k = (len.1.value scopes depth).all in
    within_as _ _ _ (act_acts (action scopes depth) (value_in from.0 scopes depth ∷ value_in len.0 scopes depth ∷ v.Reference (array scopes depth) ∷ []))
    (omega (arith, e, h, k)) (omega (arith, e, h, k))

-- An expression may be read, be an argument, be set or receive, so each form has four bounds; most are values alone (`only_value`).
layer : (y : Expr-F Expr_ Link_) → IsAlike (read_layer y) (acts_layer y)
layer (Expr-F.Number at n) = only_value _ _ (λ scopes depth. within_as _ _ _ (number_acts n) (omega arith) (omega arith)) (λ scopes depth. refl) (λ scopes depth. refl) (λ scopes depth. refl)
layer (Expr-F.Const at which) =
    only_value _ _ (λ scopes depth. within_as _ _ _ (number_acts (constant_value which)) (omega arith) (omega arith)) (λ scopes depth. refl) (λ scopes depth. refl) (λ scopes depth. refl)
layer (Expr-F.Name at name) = record {
  value = λ scopes depth. within_as _ _ _ (variable_acts (place_of (visible name scopes) depth)) (omega arith) (omega arith);
  argument = λ scopes depth. let e = ap (λ (a : Acts). a.all) (argument_acts (visible name scopes) depth) in omega (arith, e);
  target = λ scopes depth. omega arith;
  received = λ scopes depth. let e = ap (λ (a : Acts). a.all) (reference_acts (received_in (visible name scopes) depth)) in omega (arith, e);
}
layer (Expr-F.Index at name index) =
    let light : Gives (λ scopes depth. v.Element (array_of (visible name scopes) depth) (value_in index.0 scopes depth)) (no_act (acts_in index.0))
    = λ scopes depth.
    let h = (index.1.value scopes depth).all in
    within_as _ _ _ (element_acts (array_of (visible name scopes) depth) (value_in index.0 scopes depth)) (omega (arith, h)) (omega (arith, h)) in
    record {
      value = light;
      argument = λ scopes depth. (light scopes depth).all;
      target = λ scopes depth.
          let e = element_target (array_of (visible name scopes) depth) (value_in index.0 scopes depth) in
          let h = (index.1.value scopes depth).all in
          omega (arith, e, h);
      received = λ scopes depth.
          let e = ap (λ (a : Acts). a.all) (part_acts (array_of (visible name scopes) depth) (value_in index.0 scopes depth)) in
          let h = (index.1.value scopes depth).all in
          omega (arith, e, h);
    }
layer (Expr-F.Group at inner) =
    let light : Gives (value_in inner.0) (no_act (acts_in inner.0))
    = λ scopes depth.
    let h = (inner.1.value scopes depth).all in
    let k = nested_few (value_in inner.0 scopes depth) in
    record { all = h; nested = omega (arith, h, k) } in
    only_value _ _ light (λ scopes depth. refl) (λ scopes depth. refl) (λ scopes depth. refl)
layer (Expr-F.Unary at op inner) =
    let light : Gives (λ scopes depth. v.Unary op (value_in inner.0 scopes depth)) (no_act (acts_in inner.0))
    = λ scopes depth.
    let h = (inner.1.value scopes depth).all in
    within_as _ _ _ (unary_acts op (value_in inner.0 scopes depth)) (omega (arith, h)) (omega (arith, h)) in
    only_value _ _ light (λ scopes depth. refl) (λ scopes depth. refl) (λ scopes depth. refl)
layer (Expr-F.Chain at level first rest) =
    let light : Gives (λ scopes depth. v.Chain (value_in first.0 scopes depth) (reading_links (map link_in (links_of rest)) scopes depth))
    (no_act (acts_in first.0 + total (map link_total (links_of rest))))
    = λ scopes depth.
    let h = (first.1.value scopes depth).all in
    let k = links_alike rest scopes depth in
    within_as _ _ _ (chain_acts (value_in first.0 scopes depth) (reading_links (map link_in (links_of rest)) scopes depth)) (omega (arith, h, k)) (omega (arith, h, k)) in
    only_value _ _ light (λ scopes depth. refl) (λ scopes depth. refl) (λ scopes depth. refl)
layer (Expr-F.Call at name args) =
    let light : Gives (λ scopes depth. v.Act (act.Call (function_of (visible name scopes))) (arguments_step (map read (exprs_of args)) scopes depth))
    (one_act (total_acts (map tree.acts (exprs_of args))))
    = λ scopes depth.
    let h = arguments_alike args scopes depth in
    within_as _ _ _ (act_acts (act.Call (function_of (visible name scopes))) (arguments_step (map read (exprs_of args)) scopes depth)) (omega (arith, h)) (omega (arith, h)) in
    only_value _ _ light (λ scopes depth. refl) (λ scopes depth. refl) (λ scopes depth. refl)
layer (Expr-F.Send at channel value) =
    let light : Gives (λ scopes depth. v.Act (act.Send (channel_of (visible channel scopes))) (argument_in value.0 scopes depth ∷ [])) (one_act (acts_in value.0))
    = λ scopes depth.
    let h = value.1.argument scopes depth in
    within_as _ _ _ (act_acts (act.Send (channel_of (visible channel scopes))) (argument_in value.0 scopes depth ∷ [])) (omega (arith, h)) (omega (arith, h)) in
    only_value _ _ light (λ scopes depth. refl) (λ scopes depth. refl) (λ scopes depth. refl)
layer (Expr-F.Recv at channel place) =
    let light : Gives (λ scopes depth. v.Act (act.Recv (channel_of (visible channel scopes))) (place_in place.0 scopes depth ∷ [])) (one_act (acts_in place.0))
    = λ scopes depth.
    let h = place.1.received scopes depth in
    within_as _ _ _ (act_acts (act.Recv (channel_of (visible channel scopes))) (place_in place.0 scopes depth ∷ [])) (omega (arith, h)) (omega (arith, h)) in
    only_value _ _ light (λ scopes depth. refl) (λ scopes depth. refl) (λ scopes depth. refl)
layer (Expr-F.Read at file from len array) =
    only_value _ _ (moves_alike (λ scopes depth. act.Read (file_of (visible file scopes))) from len (λ scopes depth. array_of (visible array scopes) depth))
    (λ scopes depth. refl) (λ scopes depth. refl) (λ scopes depth. refl)
layer (Expr-F.Write at file from len array) =
    only_value _ _ (moves_alike (λ scopes depth. act.Write (file_of (visible file scopes))) from len (λ scopes depth. array_of (visible array scopes) depth))
    (λ scopes depth. refl) (λ scopes depth. refl) (λ scopes depth. refl)

same_alike : (q q2 : Reading) (a a2 : Acts) → q ≡ q2 → a ≡ a2 → IsAlike q2 a2 → IsAlike q a
same_alike q q2 a a2 e g h = subst (λ k. IsAlike k a) (sym e) (subst (IsAlike q2) (sym g) h)

-- a link is as its operand
link_layer : (l : Link) → Claim l.operand → LinkClaim l
link_layer l h scopes depth =
    let e : link_acts (link_in l scopes depth) ≡ (acts (value_in l.operand scopes depth)).all
    = ap (λ (g : InScopes ValueLink). link_acts (g scopes depth)) (fold-roll-Link Reading (InScopes ValueLink) read_step reading_link (record { op = l.op; operand = l.operand }))
    ∙ link_count (record { op = l.op; operand = value_in l.operand scopes depth }) in
    let g : link_total l ≡ acts_in l.operand = fold-roll-Link Acts ℕ expr_step tree.link_step (record { op = l.op; operand = l.operand }) in
    let k = (h.value scopes depth).all in
    omega (arith, e, g, k)

expr_alike : (x : Expr) → Claim x
expr_alike = ind-Expr Claim LinkClaim
    (λ x y is.
    same_alike _ (read_layer y) _ (acts_layer y)
    (fold-roll-Expr Reading (InScopes ValueLink) read_step reading_link x ∙ sym (ap (λ z. read_step (map-Expr Expr Link Reading (InScopes ValueLink) read link_in z)) is))
    (fold-roll-Expr Acts ℕ expr_step tree.link_step x ∙ sym (ap (λ z. expr_step (map-Expr Expr Link Acts ℕ tree.acts link_total z)) is))
    (layer y))
    (λ x y is. link_layer (record { op = x.op; operand = x.operand }) (subst (λ (z : Link-F Expr Link). Claim z.operand) is y.operand.1))

values_alike : (xs : List Expr) (scopes : List (List Declaration)) (depth : ℕ) → all_acts (values_in xs scopes depth) ≤ total (map acts_in xs)
values_alike [] scopes depth = omega arith
values_alike (x ∷ xs) scopes depth = let h = ((expr_alike x).value scopes depth).all in let k = values_alike xs scopes depth in omega (arith, h, k)

-- ---- commands by their forms

abbrev step_nested : Command-F Command → ℕ
step_nested x = command_step (map-Command Command ℕ command_nested x)

single_nested : (x : Command-F Command) (c : Command) → c ≡ roll-Command x → body_nested (c ∷ []) ≡ step_nested x
single_nested x c e = let h = ap command_nested e ∙ fold-roll-Command ℕ command_step x in omega (arith, h)

append_nested : (xs ys : List Command) → body_nested (xs ++ ys) ≡ body_nested xs + body_nested ys
append_nested [] ys = omega arith
append_nested (x ∷ xs) ys = let h = append_nested xs ys in omega (arith, h)

-- ---- parts of statements

initial_alike : (x : Option Expr) (scopes : List (List Declaration)) (depth : ℕ) → (acts (initial_in x scopes depth)).nested ≤ some_nested x
initial_alike None scopes depth = let e = ap (λ (a : Acts). a.nested) (number_acts (pos 0)) in omega (arith, e)
initial_alike (Some x) scopes depth = ((expr_alike x).value scopes depth).nested

operand_alike : (x : Option Expr) (scopes : List (List Declaration)) (depth : ℕ) → after_act (some_operand (some_in x scopes depth)) ≤ some_nested x
operand_alike None scopes depth = omega arith
operand_alike (Some x) scopes depth = let h = ((expr_alike x).value scopes depth).nested in omega (arith, h)

test_alike : (x : Option Expr) (scopes : List (List Declaration)) (depth : ℕ) → all_acts (some_operand (some_in x scopes depth)) ≤ some_acts x
test_alike None scopes depth = omega arith
test_alike (Some x) scopes depth = let h = ((expr_alike x).value scopes depth).all in omega (arith, h)

cancel_nested : (o : Option Meaning) (depth : ℕ) → body_nested (cancel_of o depth ∷ []) ≡ 0
cancel_nested (Some (m.Label there slot)) depth = single_nested _ _ (sym (cm.rolls-Cancel _ slot))
cancel_nested (Some what) depth = single_nested _ _ (sym (cm.rolls-Cancel 0 0))
cancel_nested None depth = single_nested _ _ (sym (cm.rolls-Cancel 0 0))

-- ---- statements

abbrev IsCalm : Told → ℕ → Type 0
IsCalm q count = (n : Names) (depth : ℕ) (texts : Texts) → body_nested (q.commands n depth texts) ≤ count

abbrev StmtClaim : Stmt → Type 0
StmtClaim x = IsCalm (told x) (stmt_nested x)

abbrev Stmt_ : Type 0
Stmt_ = (x : Stmt) × StmtClaim x

abbrev stmts_of : List Stmt_ → List Stmt
stmts_of xs = map (λ x. x.0) xs

stmts_calm : (xs : List Stmt_) (n : Names) (depth : ℕ) (texts : Texts) → body_nested (commands (map told (stmts_of xs)) n depth texts) ≤ total (map stmt_nested (stmts_of xs))
stmts_calm [] n depth texts = omega arith
stmts_calm (x ∷ xs) n depth texts =
    let e = append_nested ((told x.0).commands n depth texts) (commands (map told (stmts_of xs)) (listed (told x.0).shape depth n) depth ((told x.0).texts texts)) in
    let h = x.1 n depth texts in
    let k = stmts_calm xs (listed (told x.0).shape depth n) depth ((told x.0).texts texts) in
    omega (arith, e, h, k)

abbrev told_of : Option Stmt_ → Option Told
told_of None = None
told_of (Some x) = Some (told x.0)

abbrev nested_of : Option Stmt_ → ℕ
nested_of None = 0
nested_of (Some x) = stmt_nested x.0

some_calm : (x : Option Stmt_) (n : Names) (depth : ℕ) (texts : Texts) → body_nested (some_commands (told_of x) n depth texts) ≤ nested_of x
some_calm None n depth texts = omega arith
some_calm (Some x) n depth texts = x.1 n depth texts

for_calm : (init : Option Stmt_) (test : Option Expr) (next : Option Stmt_) (body : Stmt_) (n : Names) (depth : ℕ) (texts : Texts) →
    body_nested (some_commands (told_of init) (opened n) depth texts
    ++ cm.For (some_in test (for_names (told_of init) depth n).scopes depth)
    (some_commands (told_of next) (for_names (told_of init) depth n) depth (some_texts (told_of init) texts))
    ((told body.0).commands (moved (for_names (told_of init) depth n) (some_words (some_shape (told_of next)))) depth (some_texts (told_of next) (some_texts (told_of init) texts)))
    ∷ []) ≤ nested_of init + (some_acts test + (nested_of next + stmt_nested body.0))
for_calm init test next body n depth texts =
    let names = for_names (told_of init) depth n in
    let after = some_texts (told_of init) texts in
    let head = some_commands (told_of init) (opened n) depth texts in
    let tested = some_in test names.scopes depth in
    let nexts = some_commands (told_of next) names depth after in
    let inside = (told body.0).commands (moved names (some_words (some_shape (told_of next)))) depth (some_texts (told_of next) after) in
    let e = append_nested head (cm.For tested nexts inside ∷ []) in
    let f = single_nested (Command-F.For tested nexts inside) _ (sym (cm.rolls-For tested nexts inside)) in
    let g = test_alike test names.scopes depth in
    let h = some_calm init (opened n) depth texts in
    let k = some_calm next names depth after in
    let l = body.1 (moved names (some_words (some_shape (told_of next)))) depth (some_texts (told_of next) after) in
    omega (arith, e, f, g, h, k, l)

abbrev told_layer : Stmt-F Stmt_ → Told
told_layer y = told_step (map-Stmt Stmt Told told (map-Stmt Stmt_ Stmt (λ x. x.0) y))

abbrev nested_layer : Stmt-F Stmt_ → ℕ
nested_layer y = stmt_step (map-Stmt Stmt ℕ stmt_nested (map-Stmt Stmt_ Stmt (λ x. x.0) y))

-- One form of statement at a time: its own expressions, and what stands within it.
stmt_layer : (y : Stmt-F Stmt_) → IsCalm (told_layer y) (nested_layer y)
stmt_layer (Stmt-F.Block at body) n depth texts = stmts_calm body (opened n) depth texts
stmt_layer (Stmt-F.Empty at) n depth texts = let e = single_nested Command-F.Nothing cm.Nothing (sym cm.rolls-Nothing) in omega (arith, e)
stmt_layer (Stmt-F.Int at name value) n depth texts =
    let e = single_nested _ _ (sym (cm.rolls-Set (tg.Variable (p.Local 0 n.slot)) (initial_in value n.scopes depth))) in
    let h = initial_alike value n.scopes depth in
    omega (arith, e, h)
stmt_layer (Stmt-F.Array at name size) n depth texts = let e = single_nested _ _ (sym (cm.rolls-Clear n.slot (array_len size))) in omega (arith, e)
stmt_layer (Stmt-F.Assign at place value) n depth texts =
    let e = single_nested _ _ (sym (cm.rolls-Set (target_in place n.scopes depth) (value_in value n.scopes depth))) in
    let h = (expr_alike place).target n.scopes depth in
    let k = ((expr_alike value).value n.scopes depth).nested in
    omega (arith, e, h, k)
stmt_layer (Stmt-F.Call at call) n depth texts =
    let e = single_nested _ _ (sym (cm.rolls-Run (value_in call n.scopes depth))) in
    let h = ((expr_alike call).value n.scopes depth).nested in
    omega (arith, e, h)
stmt_layer (Stmt-F.Print at format args) n depth texts =
    let e = single_nested _ _ (sym (cm.rolls-Print (length texts) (values_in args n.scopes depth))) in
    let h = values_alike args n.scopes depth in
    omega (arith, e, h)
stmt_layer (Stmt-F.If at test body None) n depth texts =
    let e = single_nested (Command-F.If (value_in test n.scopes depth) ((told body.0).commands n depth texts) None) _
    (sym (cm.rolls-If (value_in test n.scopes depth) ((told body.0).commands n depth texts) None)) in
    let h = ((expr_alike test).value n.scopes depth).all in
    let k = body.1 n depth texts in
    omega (arith, e, h, k)
stmt_layer (Stmt-F.If at test body (Some other)) n depth texts =
    let inside = (told body.0).commands n depth texts in
    let after = moved n (part_words (told body.0).shape) in
    let others = (told other.0).commands after depth ((told body.0).texts texts) in
    let e = single_nested (Command-F.If (value_in test n.scopes depth) inside (Some others)) _ (sym (cm.rolls-If (value_in test n.scopes depth) inside (Some others))) in
    let h = ((expr_alike test).value n.scopes depth).all in
    let k = body.1 n depth texts in
    let l = other.1 after depth ((told body.0).texts texts) in
    omega (arith, e, h, k, l)
stmt_layer (Stmt-F.While at test body) n depth texts =
    let e = single_nested (Command-F.While (value_in test n.scopes depth) ((told body.0).commands n depth texts)) _
    (sym (cm.rolls-While (value_in test n.scopes depth) ((told body.0).commands n depth texts))) in
    let h = ((expr_alike test).value n.scopes depth).all in
    let k = body.1 n depth texts in
    omega (arith, e, h, k)
stmt_layer (Stmt-F.For at None test None body) n depth texts = for_calm None test None body n depth texts
stmt_layer (Stmt-F.For at None test (Some y) body) n depth texts = for_calm None test (Some y) body n depth texts
stmt_layer (Stmt-F.For at (Some x) test None body) n depth texts = for_calm (Some x) test None body n depth texts
stmt_layer (Stmt-F.For at (Some x) test (Some y) body) n depth texts = for_calm (Some x) test (Some y) body n depth texts
stmt_layer (Stmt-F.Break at) n depth texts = let e = single_nested Command-F.Break cm.Break (sym cm.rolls-Break) in omega (arith, e)
stmt_layer (Stmt-F.Continue at) n depth texts = let e = single_nested Command-F.Continue cm.Continue (sym cm.rolls-Continue) in omega (arith, e)
stmt_layer (Stmt-F.Return at value) n depth texts =
    let e = single_nested _ _ (sym (cm.rolls-Return (some_in value n.scopes depth))) in
    let h = operand_alike value n.scopes depth in
    omega (arith, e, h)
stmt_layer (Stmt-F.Do at label body) n depth texts =
    let names = opened (in_do label depth n) in
    let inside = commands (map told (stmts_of body)) names depth texts in
    let e = single_nested (Command-F.Do n.slot inside) _ (sym (cm.rolls-Do n.slot inside)) in
    let h = stmts_calm body names depth texts in
    omega (arith, e, h)
stmt_layer (Stmt-F.Async at body) n depth texts =
    let inside = (told body.0).commands (in_async n) (depth + 1) texts in
    let e = single_nested (Command-F.Async (part_words (told body.0).shape) inside) _ (sym (cm.rolls-Async (part_words (told body.0).shape) inside)) in
    let h = body.1 (in_async n) (depth + 1) texts in
    omega (arith, e, h)
stmt_layer (Stmt-F.Cancel at label) n depth texts = let e = cancel_nested (visible label n.labels) depth in omega (arith, e)
stmt_layer (Stmt-F.Yield at) n depth texts = let e = single_nested Command-F.Yield cm.Yield (sym cm.rolls-Yield) in omega (arith, e)

same_calm : (q q2 : Told) (k k2 : ℕ) → q ≡ q2 → k ≡ k2 → IsCalm q2 k2 → IsCalm q k
same_calm q q2 k k2 e g h = subst (λ x. IsCalm x k) (sym e) (subst (IsCalm q2) (sym g) h)

stmt_calm : (x : Stmt) → StmtClaim x
stmt_calm = ind-Stmt StmtClaim
    (λ x y is.
    same_calm _ (told_layer y) _ (nested_layer y)
    (fold-roll-Stmt Told told_step x ∙ sym (ap (λ z. told_step (map-Stmt Stmt Told told z)) is))
    (fold-roll-Stmt ℕ stmt_step x ∙ sym (ap (λ z. stmt_step (map-Stmt Stmt ℕ stmt_nested z)) is))
    (stmt_layer y))

body_calm : (xs : List Stmt) (n : Names) (depth : ℕ) (texts : Texts) → body_nested (commands (body_told xs) n depth texts) ≤ total (map stmt_nested xs)
body_calm [] n depth texts = omega arith
body_calm (x ∷ xs) n depth texts =
    let e = append_nested ((told x).commands n depth texts) (commands (body_told xs) (listed (told x).shape depth n) depth ((told x).texts texts)) in
    let h = stmt_calm x n depth texts in
    let k = body_calm xs (listed (told x).shape depth n) depth ((told x).texts texts) in
    omega (arith, e, h, k)

-- ---- programs

functions_calm : (items : List Item) (scopes : List (List Declaration)) (texts : Texts) → total (map function_nested (functions_in items scopes texts)) ≤ total (map item_nested items)
functions_calm [] scopes texts = omega arith
functions_calm (i.Function f ∷ items) scopes texts =
    let h = body_calm f.body (body_names f scopes) 0 texts in
    let k = functions_calm items scopes (function_texts f texts) in
    omega (arith, h, k)
functions_calm (i.Global at name size value ∷ items) scopes texts = let k = functions_calm items scopes texts in omega (arith, k)
functions_calm (i.Channel at name from to cap ∷ items) scopes texts = let k = functions_calm items scopes texts in omega (arith, k)
functions_calm (i.File at name path ∷ items) scopes texts = let k = functions_calm items scopes texts in omega (arith, k)
functions_calm (i.Core at name entry ∷ items) scopes texts = let k = functions_calm items scopes texts in omega (arith, k)

pub stand_alone : (program : Program) → StandAlone program → AreAlone (resolved program)
stand_alone program h = let k = functions_calm program.items (outermost program.items) [] in omega (arith, h, k)

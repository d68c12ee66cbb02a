-- A program whose calls and operations stand alone has its plain code.
-- The code of an expression without calls is its plain code, by induction on it; where one may stand, it is that of the operands before its
-- instruction. Then by induction on statements.
use Rattle.std.proofs.Common.{◌≡◌, ℕ, ◌+◌, List, [], ◌∷◌, map, length, Option, Some, None, refl, sym, ap, ◌∙◌, subst, arith}
use Rattle.std.proofs.lemmas.List.{length-map}
use Rattle.ac_tree.specs.Weight.{total}
use Rattle.ac_tree.specs.declared.expr.BinaryOp.{BinaryOp}
use Rattle.ac_commands.specs.declared.value.Action.{Action}
use Rattle.ac_commands.specs.declared.value.Value.{Value, roll-Value, out-roll-Value, map-Value, ind-Value, fold-roll-Value}
use Rattle.ac_commands.specs.declared.value.Value.TheOpen.{Value-F, ValueLink-F}
use Rattle.ac_commands.specs.declared.value.ValueLink.{ValueLink, fold-ValueLink, fold-roll-ValueLink}
use Rattle.ac_commands.specs.declared.command.Target.{Target}
use Rattle.ac_commands.specs.declared.command.Target.TheVariants as t
use Rattle.ac_commands.specs.declared.command.Command.{Command, roll-Command, map-Command, ind-Command, fold-roll-Command}
use Rattle.ac_commands.specs.declared.command.Command.TheOpen.{Command-F}
use Rattle.ac_commands.specs.declared.program.Function.{Function}
use Rattle.ac_commands.specs.declared.program.Resolved.{Resolved}
use Rattle.stack_code.specs.declared.instr.Instr.TheVariants as i
use Rattle.stack_code.specs.declared.parts.Entered.{Entered}
use Rattle.ac_semantics.specs.Statements.{target_operands, some_operand}
use Rattle.ac_translation.specs.Pieces.{Piece, no_code, one, ◌⨾◌, all, over, loop}
use Rattle.ac_translation.specs.Translation.{unary_code, array_code, action_code, chained_code, value_step, link_step, value_code, link_code, values_code, target_code, if_code, test_code}
use Rattle.ac_translation.specs.Translation.{at_loop, at_next, operand_code, command_step, command_code, last_code, function_code, functions_from, no_exits, code_of}
use Rattle.ac_compile.specs.StandAlone.{Acts}
use Rattle.ac_compile.specs.Alone.{acts, all_acts, after_act, command_nested, body_nested, function_nested, IsAlone, AreAlone}
use Rattle.ac_compile.specs.Alone as alone
use Rattle.ac_compile.specs.PlainCode.{plain_step, plain_code, row_code, alone_form, alone_code, plain_target, plain_test, plain_operand, plain_command_step, plain_command}
use Rattle.ac_compile.specs.PlainCode.{plain_function, plain_from, plain_code_of, HasPlainCode}
use Rattle.ac_compile.proofs.Forms.{link_form}
use Rattle.ac_compile.proofs.Plainly.{link_acts, link_count, nested_form, all_form}

-- ---- expressions

abbrev pub plain_link : ValueLink → BinaryOp × Piece
plain_link = fold-ValueLink Piece (BinaryOp × Piece) plain_step link_step

pub plain_form : (x : Value-F Value ValueLink) → plain_code (roll-Value x) ≡ plain_step (map-Value Value ValueLink Piece (BinaryOp × Piece) plain_code plain_link x)
plain_form = fold-roll-Value Piece (BinaryOp × Piece) plain_step link_step

value_form : (x : Value-F Value ValueLink) → value_code (roll-Value x) ≡ value_step (map-Value Value ValueLink Piece (BinaryOp × Piece) value_code link_code x)
value_form = fold-roll-Value Piece (BinaryOp × Piece) value_step link_step

pub plain_link_form : (l : ValueLink) → plain_link l ≡ (l.op, plain_code l.operand)
plain_link_form l = fold-roll-ValueLink Piece (BinaryOp × Piece) plain_step link_step (record { op = l.op; operand = l.operand })

abbrev Same : Value → Type 0
Same x = (acts x).all ≡ 0 → value_code x ≡ plain_code x

abbrev Value_ : Type 0
Value_ = (x : Value) × Same x

abbrev Link_ : Type 0
Link_ = (l : ValueLink) × Same l.operand

abbrev links_of : List Link_ → List ValueLink
links_of ls = map (λ (l : Link_). l.0) ls

same_cons : {A : Type 0} {x y : A} {xs ys : List A} → x ≡ y → xs ≡ ys → x ∷ xs ≡ y ∷ ys
same_cons e f = cc

links_same : (ls : List Link_) → total (map link_acts (links_of ls)) ≡ 0 → map link_code (links_of ls) ≡ map plain_link (links_of ls)
links_same [] none = refl
links_same (l ∷ ls) none =
    let count = link_count l.0 in
    let right = l.1 (omega (arith, count, none)) in
    same_cons (link_form l.0 ∙ ap (λ (p : Piece). (l.0.op, p)) right ∙ sym (plain_link_form l.0)) (links_same ls (omega (arith, none)))

abbrev form_of : Value-F Value_ Link_ → Value-F Value ValueLink
form_of y = map-Value Value_ Link_ Value ValueLink (λ x. x.0) (λ l. l.0) y

abbrev coded_in : Value-F Value ValueLink → Piece
coded_in x = value_step (map-Value Value ValueLink Piece (BinaryOp × Piece) value_code link_code x)

abbrev plain_in : Value-F Value ValueLink → Piece
plain_in x = plain_step (map-Value Value ValueLink Piece (BinaryOp × Piece) plain_code plain_link x)

abbrev acts_of : Value-F Value ValueLink → Acts
acts_of x = alone.value_step (map-Value Value ValueLink Acts ℕ acts link_acts x)

chain_same : (p q : Piece) (ls ms : List (BinaryOp × Piece)) → p ≡ q → ls ≡ ms → p ⨾ chained_code ls ≡ q ⨾ chained_code ms
chain_same p q ls ms e f = cc

-- one form, whose parts have their plain code
layer : (y : Value-F Value_ Link_) → (acts_of (form_of y)).all ≡ 0 → coded_in (form_of y) ≡ plain_in (form_of y)
layer (Value-F.Number value) none = refl
layer (Value-F.Variable place) none = refl
layer (Value-F.Reference whole) none = refl
layer (Value-F.Element whole index) none = ap (λ (p : Piece). one (array_code whole) ⨾ p ⨾ one i.Elem) (index.1 none)
layer (Value-F.Part whole index) none = ap (λ (p : Piece). one (array_code whole) ⨾ p ⨾ one i.Place) (index.1 none)
layer (Value-F.Unary op operand) none = ap (λ (p : Piece). p ⨾ one (unary_code op)) (operand.1 none)
layer (Value-F.Chain first rest) none = chain_same _ _ _ _ (first.1 (omega (arith, none))) (links_same rest (omega (arith, none)))
layer (Value-F.Act action operands) none = absurd (omega (arith, none))

rolled_same : (y : Value-F Value_ Link_) → Same (roll-Value (form_of y))
rolled_same y none = value_form (form_of y) ∙ layer y (sym (all_form (form_of y)) ∙ none) ∙ sym (plain_form (form_of y))

value_same : (x : Value) → Same x
value_same =
    ind-Value Same (λ l. Same l.operand)
    (λ x y is. subst (λ z. Same (roll-Value z)) is (rolled_same y))
    (λ x y is. subst (λ (z : ValueLink-F Value ValueLink). Same z.operand) is y.operand.1)

row_same : (xs : List Value) → all_acts xs ≡ 0 → values_code xs ≡ row_code xs
row_same [] none = refl
row_same (x ∷ xs) none = let e = value_same x (omega (arith, none)) in let f = row_same xs (omega (arith, none)) in cc

-- ---- where one may stand

act_same : (action : Action) (operands : List Value) → all_acts operands ≡ 0 → value_code (roll-Value (Value-F.Act action operands)) ≡ row_code operands ⨾ one (action_code action (length operands))
act_same action operands none =
    value_form (Value-F.Act action operands) ∙ ap (λ n. values_code operands ⨾ one (action_code action n)) (length-map operands value_code)
    ∙ ap (λ (p : Piece). p ⨾ one (action_code action (length operands))) (row_same operands none)

alone_form_same : (x : Value-F Value ValueLink) → (acts (roll-Value x)).nested ≡ 0 → value_code (roll-Value x) ≡ alone_form x (roll-Value x)
alone_form_same (Value-F.Act action operands) none = let n = nested_form (Value-F.Act action operands) in act_same action operands (omega (arith, n, none))
alone_form_same (Value-F.Number value) none =
    let x = Value-F.Number value in let n = nested_form x in let m = all_form x in value_same (roll-Value x) (omega (arith, n, m, none))
alone_form_same (Value-F.Variable place) none =
    let x = Value-F.Variable place in let n = nested_form x in let m = all_form x in value_same (roll-Value x) (omega (arith, n, m, none))
alone_form_same (Value-F.Reference whole) none =
    let x = Value-F.Reference whole in let n = nested_form x in let m = all_form x in value_same (roll-Value x) (omega (arith, n, m, none))
alone_form_same (Value-F.Element whole index) none =
    let x = Value-F.Element whole index in let n = nested_form x in let m = all_form x in value_same (roll-Value x) (omega (arith, n, m, none))
alone_form_same (Value-F.Part whole index) none =
    let x = Value-F.Part whole index in let n = nested_form x in let m = all_form x in value_same (roll-Value x) (omega (arith, n, m, none))
alone_form_same (Value-F.Unary op operand) none =
    let x = Value-F.Unary op operand in let n = nested_form x in let m = all_form x in value_same (roll-Value x) (omega (arith, n, m, none))
alone_form_same (Value-F.Chain first links) none =
    let x = Value-F.Chain first links in let n = nested_form x in let m = all_form x in value_same (roll-Value x) (omega (arith, n, m, none))

abbrev Alone_ : Value → Type 0
Alone_ x = (acts x).nested ≡ 0 → value_code x ≡ alone_code x

alone_same : (x : Value) → Alone_ x
alone_same =
    ind-Value Alone_ (λ l. Alone_ l.operand)
    (λ x y is none. alone_form_same x none ∙ ap (λ z. alone_form z (roll-Value x)) (sym (out-roll-Value x)))
    (λ x y is. subst (λ (z : ValueLink-F Value ValueLink). Alone_ z.operand) is y.operand.1)

-- ---- parts of statements

target_same : (target : Target) → all_acts (target_operands target) ≡ 0 → target_code target ≡ plain_target target
target_same (t.Variable place) none = refl
target_same (t.Element array index) none = ap (λ (p : Piece). one (array_code array) ⨾ p ⨾ one i.SetElem) (value_same index (omega (arith, none)))

test_same : (test : Option Value) → all_acts (some_operand test) ≡ 0 → (count : ℕ) → test_code test count ≡ plain_test test count
test_same None none count = refl
test_same (Some test) none count = ap (λ (p : Piece). one i.Step ⨾ p ⨾ over i.Jz count) (value_same test (omega (arith, none)))

operand_same : (value : Option Value) → after_act (some_operand value) ≡ 0 → operand_code value ≡ plain_operand value
operand_same None none = refl
operand_same (Some value) none = alone_same value (omega (arith, none))

-- ---- statements

abbrev Claim : Command → Type 0
Claim c = IsAlone c → command_code c ≡ plain_command c

abbrev Command_ : Type 0
Command_ = (c : Command) × Claim c

abbrev commands_of : List Command_ → List Command
commands_of cs = map (λ (c : Command_). c.0) cs

commands_same : (cs : List Command_) → body_nested (commands_of cs) ≡ 0 → map command_code (commands_of cs) ≡ map plain_command (commands_of cs)
commands_same [] none = refl
commands_same (c ∷ cs) none = same_cons (c.1 (omega (arith, none))) (commands_same cs (omega (arith, none)))

abbrev command_of : Command-F Command_ → Command-F Command
command_of y = map-Command Command_ Command (λ c. c.0) y

abbrev nested_in : Command-F Command → ℕ
nested_in x = alone.command_step (map-Command Command ℕ command_nested x)

set_same : (value : Value) (target : Target) → (acts value).nested ≡ 0 → all_acts (target_operands target) ≡ 0 → one i.Step ⨾ value_code value ⨾ target_code target
    ≡ one i.Step ⨾ alone_code value ⨾ plain_target target
set_same value target h k = let e = alone_same value h in let f = target_same target k in cc

choice_same : (p q : Piece) (cs ds : List Piece) (os us : Option (List Piece)) → p ≡ q → cs ≡ ds → os ≡ us → if_code p (all cs) os ≡ if_code q (all ds) us
choice_same p q cs ds os us e f g = cc

while_same : (test : Value) (cs ds : List Piece) → all_acts (test ∷ []) ≡ 0 → cs ≡ ds →
    loop at_loop (test_code (Some test) ((all cs).size + 1)) (all cs) no_code ≡ loop at_loop (plain_test (Some test) ((all ds).size + 1)) (all ds) no_code
while_same test cs ds none e =
    ap (λ xs. loop at_loop (test_code (Some test) ((all xs).size + 1)) (all xs) no_code) e ∙ ap (λ (p : Piece). loop at_loop p (all ds) no_code) (test_same (Some test) none ((all ds).size + 1))

for_same : (test : Option Value) (cs ds ms ns : List Piece) → all_acts (some_operand test) ≡ 0 → cs ≡ ds → ms ≡ ns →
    loop at_next (test_code test ((all cs).size + ((all ms).size + 1))) (all cs) (all ms) ≡ loop at_next (plain_test test ((all ds).size + ((all ns).size + 1))) (all ds) (all ns)
for_same test cs ds ms ns none e f =
    ap (λ xs. loop at_next (test_code test ((all xs).size + ((all ms).size + 1))) (all xs) (all ms)) e
    ∙ ap (λ xs. loop at_next (test_code test ((all ds).size + ((all xs).size + 1))) (all ds) (all xs)) f
    ∙ ap (λ (p : Piece). loop at_next p (all ds) (all ns)) (test_same test none ((all ds).size + ((all ns).size + 1)))

command_layer : (y : Command-F Command_) → nested_in (command_of y) ≡ 0 →
    command_step (map-Command Command Piece command_code (command_of y)) ≡ plain_command_step (map-Command Command Piece plain_command (command_of y))
command_layer Command-F.Nothing none = refl
command_layer (Command-F.Set target value) none = set_same value target (omega (arith, none)) (omega (arith, none))
command_layer (Command-F.Clear slot len) none = refl
command_layer (Command-F.Run value) none = ap (λ (p : Piece). one i.Step ⨾ p ⨾ one i.Drop) (alone_same value (omega (arith, none)))
command_layer (Command-F.Print text args) none = ap (λ (p : Piece). one i.Step ⨾ p ⨾ one (i.Print text (length args))) (row_same args (omega (arith, none)))
command_layer (Command-F.If test body None) none =
    choice_same _ _ _ _ None None (value_same test (omega (arith, none))) (commands_same body (omega (arith, none))) refl
command_layer (Command-F.If test body (Some other)) none =
    choice_same _ _ _ _ (Some (map command_code (commands_of other))) (Some (map plain_command (commands_of other))) (value_same test (omega (arith, none))) (commands_same body (omega (arith, none)))
    (ap (λ (xs : List Piece). Some xs) (commands_same other (omega (arith, none))))
command_layer (Command-F.While test body) none = while_same test _ _ (omega (arith, none)) (commands_same body (omega (arith, none)))
command_layer (Command-F.For test next body) none = for_same test _ _ _ _ (omega (arith, none)) (commands_same body (omega (arith, none))) (commands_same next (omega (arith, none)))
command_layer Command-F.Break none = refl
command_layer Command-F.Continue none = refl
command_layer (Command-F.Return value) none = ap (λ (p : Piece). one i.Step ⨾ p ⨾ one i.Ret) (operand_same value (omega (arith, none)))
command_layer (Command-F.Do slot body) none = ap (λ xs. one i.Step ⨾ one (i.Enter slot) ⨾ all xs ⨾ one i.Step ⨾ one (i.Finish slot)) (commands_same body (omega (arith, none)))
command_layer (Command-F.Async slots body) none = ap (λ xs. one i.Step ⨾ over (i.Async slots) ((all xs).size + 1) ⨾ all xs ⨾ one i.End) (commands_same body (omega (arith, none)))
command_layer (Command-F.Cancel level slot) none = refl
command_layer Command-F.Yield none = refl

rolled_command : (y : Command-F Command_) → Claim (roll-Command (command_of y))
rolled_command y none =
    fold-roll-Command Piece command_step (command_of y) ∙ command_layer y (sym (fold-roll-Command ℕ alone.command_step (command_of y)) ∙ none)
    ∙ sym (fold-roll-Command Piece plain_command_step (command_of y))

command_same : (c : Command) → Claim c
command_same = ind-Command Claim (λ x y is. subst (λ z. Claim (roll-Command z)) is (rolled_command y))

-- ---- programs

body_same : (cs : List Command) → body_nested cs ≡ 0 → map command_code cs ≡ map plain_command cs
body_same [] none = refl
body_same (c ∷ cs) none = same_cons (command_same c (omega (arith, none))) (body_same cs (omega (arith, none)))

function_same : (f : Function) → function_nested f ≡ 0 → function_code f ≡ plain_function f
function_same f none = ap (λ xs. all xs ⨾ last_code) (body_same f.body none)

functions_same : (fs : List Function) → total (map function_nested fs) ≡ 0 → map function_code fs ≡ map plain_function fs
functions_same [] none = refl
functions_same (f ∷ fs) none = same_cons (function_same f (omega (arith, none))) (functions_same fs (omega (arith, none)))

from_same : (at : ℕ) (fs : List Function) → total (map function_nested fs) ≡ 0 → functions_from at fs ≡ plain_from at fs
from_same at [] none = refl
from_same at (f ∷ fs) none =
    ap (λ (p : Piece). record { name = f.name; at = at; params = f.params; words = f.slots } ∷ functions_from (at + p.size) fs) (function_same f (omega (arith, none)))
    ∙ ap (λ (xs : List Entered). record { name = f.name; at = at; params = f.params; words = f.slots } ∷ xs) (from_same (at + (plain_function f).size) fs (omega (arith, none)))

pub plainly_coded : (program : Resolved) → AreAlone program → HasPlainCode program
plainly_coded program none =
    ap (λ (xs : List Piece). record (code_of program) { instrs = (all xs).at no_exits 0 }) (functions_same program.functions none)
    ∙ ap (λ (xs : List Entered). record (plain_code_of program) { functions = xs }) (from_same 0 program.functions none)

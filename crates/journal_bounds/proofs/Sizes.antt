-- No statement of a program has more calls and operations than the code of the program has instructions. For `actions_are_few`.
-- By induction on expressions and statements: the code of each has at least an instruction for each of its calls and operations, and the parts stand in it one behind another.
use Rattle.std.proofs.Common.{◌≡◌, ℕ, ◌+◌, ◌≤◌, max, List, [], ◌∷◌, map, Option, Some, None, length, sym, ap, ◌∙◌, subst, arith}
use Rattle.std.proofs.lemmas.Bool.Decides.{nat_tests}
use Rattle.ac_tree.specs.declared.expr.BinaryOp.{BinaryOp}
use Rattle.ac_tree.specs.declared.expr.BinaryOp.TheVariants as b
use Rattle.ac_commands.specs.declared.value.Value.{Value, map-Value, ind-Value, fold-roll-Value}
use Rattle.ac_commands.specs.declared.value.ValueLink.{ValueLink, fold-ValueLink, fold-roll-ValueLink}
use Rattle.ac_commands.specs.declared.value.Value.TheVariants as v
use Rattle.ac_commands.specs.declared.value.Value.TheOpen.{Value-F, ValueLink-F}
use Rattle.ac_commands.specs.declared.value.Array.{Array}
use Rattle.ac_commands.specs.declared.value.Place.TheVariants as p
use Rattle.ac_commands.specs.declared.command.Target.{Target}
use Rattle.ac_commands.specs.declared.command.Target.TheVariants as t
use Rattle.ac_commands.specs.declared.command.Command.{Command, map-Command, ind-Command, fold-roll-Command}
use Rattle.ac_commands.specs.declared.command.Command.TheOpen.{Command-F}
use Rattle.ac_commands.specs.declared.program.Function.{Function}
use Rattle.ac_commands.specs.declared.program.Resolved.{Resolved}
use Rattle.ac_semantics.specs.Statements.{target_operands, some_operand}
use Rattle.ac_translation.specs.Pieces.{Piece, all}
use Rattle.ac_translation.specs.Translation as code
use Rattle.ac_translation.specs.Translation.{joined_code, chained_code, value_code, link_code, values_code, target_code, test_code, operand_code, command_code, body_code}
use Rattle.ac_translation.specs.Translation.{function_code, functions_code, no_exits, code_of}
use Rattle.ac_translation.proofs.Sized.{functions_sized}
use Rattle.journal_bounds.specs.Actions.{total, greatest, value_step, link_step, actions_in, actions_of, command_step, most_in, most_of, most_in_function, most_actions}

-- ---- expressions

abbrev actions_in_link : ValueLink → ℕ
actions_in_link = fold-ValueLink ℕ ℕ value_step link_step

joined_more : (op : BinaryOp) (right : Piece) → right.size ≤ (joined_code op right).size
joined_more b.Or right = omega arith
joined_more b.And right = omega arith
joined_more op right = omega arith

abbrev Value_ : Type 0
Value_ = (x : Value) × (actions_in x ≤ (value_code x).size)

abbrev Link_ : Type 0
Link_ = (l : ValueLink) × (actions_in_link l ≤ (link_code l).1.size)

chained : (links : List Link_) → total (map actions_in_link (map (λ (l : Link_). l.0) links)) ≤ (chained_code (map link_code (map (λ (l : Link_). l.0) links))).size
chained [] = omega arith
chained (l ∷ links) =
    let ih = chained links in
    let h = l.1 in
    let m = joined_more (link_code l.0).0 (link_code l.0).1 in
    omega arith

each : (xs : List Value_) → total (map actions_in (map (λ (x : Value_). x.0) xs)) ≤ (all (map value_code (map (λ (x : Value_). x.0) xs))).size
each [] = omega arith
each (x ∷ xs) = let ih = each xs in let h = x.1 in omega arith

abbrev counted : Value-F Value ValueLink → ℕ
counted z = value_step (map-Value Value ValueLink ℕ ℕ actions_in actions_in_link z)

abbrev coded : Value-F Value ValueLink → Piece
coded z = code.value_step (map-Value Value ValueLink Piece (BinaryOp × Piece) value_code link_code z)

value_layer : (y : Value-F Value_ Link_) → counted (map-Value Value_ Link_ Value ValueLink (λ x. x.0) (λ l. l.0) y) ≤ (coded (map-Value Value_ Link_ Value ValueLink (λ x. x.0) (λ l. l.0) y)).size
value_layer (Value-F.Number value) = omega arith
value_layer (Value-F.Variable place) = omega arith
value_layer (Value-F.Reference array) = omega arith
value_layer (Value-F.Element array index) = let h = index.1 in omega arith
value_layer (Value-F.Part array index) = let h = index.1 in omega arith
value_layer (Value-F.Unary op operand) = let h = operand.1 in omega arith
value_layer (Value-F.Chain first rest) = let h = first.1 in let k = chained rest in omega arith
value_layer (Value-F.Act action operands) = let h = each operands in omega arith

few_as : (m n : ℕ) (p q : Piece) → m ≡ n → p ≡ q → m ≤ p.size → n ≤ q.size
few_as m n p q d e h = subst (λ (r : Piece). n ≤ r.size) e (subst (λ k. k ≤ p.size) d h)

link_as : (m n : ℕ) (p q : BinaryOp × Piece) → m ≡ n → p ≡ q → m ≤ p.1.size → n ≤ q.1.size
link_as m n p q d e h = subst (λ (r : BinaryOp × Piece). n ≤ r.1.size) e (subst (λ k. k ≤ p.1.size) d h)

value_few : (x : Value) → actions_in x ≤ (value_code x).size
value_few =
    ind-Value (λ x. actions_in x ≤ (value_code x).size) (λ l. actions_in_link l ≤ (link_code l).1.size)
    (λ x y is.
    few_as _ _ _ _ (sym (fold-roll-Value ℕ ℕ value_step link_step x)) (sym (fold-roll-Value Piece (BinaryOp × Piece) code.value_step code.link_step x))
    (subst (λ z. counted z ≤ (coded z).size) is (value_layer y)))
    (λ x y is.
    link_as _ _ _ _ (sym (fold-roll-ValueLink ℕ ℕ value_step link_step x)) (sym (fold-roll-ValueLink Piece (BinaryOp × Piece) code.value_step code.link_step x))
    (subst (λ (z : ValueLink-F Value ValueLink). actions_in z.operand ≤ (value_code z.operand).size) is y.operand.1))

row_few : (xs : List Value) → actions_of xs ≤ (values_code xs).size
row_few [] = omega arith
row_few (x ∷ xs) = let ih = row_few xs in let h = value_few x in omega arith

-- ---- statements

no_action : (array : Array) → actions_in (v.Reference array) ≡ 0
no_action array = ap actions_in (sym (v.rolls-Reference array)) ∙ fold-roll-Value ℕ ℕ value_step link_step (Value-F.Reference array)

target_few : (x : Target) → actions_of (target_operands x) ≤ (target_code x).size
target_few (t.Variable (p.Global slot)) = omega arith
target_few (t.Variable (p.Local level slot)) = omega arith
target_few (t.Element array index) = let h = value_few index in let e = no_action array in omega arith

test_few : (x : Option Value) (count : ℕ) → actions_of (some_operand x) ≤ (test_code x count).size
test_few None count = omega arith
test_few (Some test) count = let h = value_few test in omega arith

operand_few : (x : Option Value) → actions_of (some_operand x) ≤ (operand_code x).size
operand_few None = omega arith
operand_few (Some value) = let h = value_few value in omega arith

both_few : (m n k : ℕ) → m ≤ k → n ≤ k → max m n ≤ k
both_few m n k a b = grind (arith, nat_tests)

abbrev Command_ : Type 0
Command_ = (c : Command) × (most_in c ≤ (command_code c).size)

commands : (xs : List Command_) → greatest (map most_in (map (λ (c : Command_). c.0) xs)) ≤ (all (map command_code (map (λ (c : Command_). c.0) xs))).size
commands [] = omega arith
commands (x ∷ xs) = let ih = commands xs in let h = x.1 in both_few (most_in x.0) (greatest (map most_in (map (λ (c : Command_). c.0) xs))) _ (omega arith) (omega arith)

abbrev counted_in : Command-F Command → ℕ
counted_in z = command_step (map-Command Command ℕ most_in z)

abbrev coded_in : Command-F Command → Piece
coded_in z = code.command_step (map-Command Command Piece command_code z)

-- One form of statement at a time: what it has itself is in the code of its operands, what it has within in that of its bodies, and the greater of both is in the whole.
command_layer : (y : Command-F Command_) → counted_in (map-Command Command_ Command (λ c. c.0) y) ≤ (coded_in (map-Command Command_ Command (λ c. c.0) y)).size
command_layer Command-F.Nothing = omega arith
command_layer (Command-F.Set target value) = let h = value_few value in let k = target_few target in both_few (actions_of (value ∷ target_operands target)) 0 _ (omega arith) (omega arith)
command_layer (Command-F.Clear slot len) = omega arith
command_layer (Command-F.Run value) = let h = value_few value in both_few (actions_of (value ∷ [])) 0 _ (omega arith) (omega arith)
command_layer (Command-F.Print text args) = let h = row_few args in both_few (actions_of args) 0 _ (omega arith) (omega arith)
command_layer (Command-F.If test body None) =
    let h = value_few test in let k = commands body in
    both_few (actions_of (test ∷ [])) _ _ (omega arith) (both_few (greatest (map most_in (map (λ (c : Command_). c.0) body))) 0 _ (omega arith) (omega arith))
command_layer (Command-F.If test body (Some other)) =
    let h = value_few test in let k = commands body in let m = commands other in
    both_few (actions_of (test ∷ [])) _ _ (omega arith)
    (both_few (greatest (map most_in (map (λ (c : Command_). c.0) body))) (greatest (map most_in (map (λ (c : Command_). c.0) other))) _ (omega arith) (omega arith))
command_layer (Command-F.While test body) = let h = value_few test in let k = commands body in both_few (actions_of (test ∷ [])) _ _ (omega arith) (omega arith)
command_layer (Command-F.For test next body) =
    let h = test_few test ((all (map command_code (map (λ (c : Command_). c.0) body))).size + ((all (map command_code (map (λ (c : Command_). c.0) next))).size + 1)) in
    let k = commands body in let m = commands next in
    both_few (actions_of (some_operand test)) _ _ (omega arith)
    (both_few (greatest (map most_in (map (λ (c : Command_). c.0) next))) (greatest (map most_in (map (λ (c : Command_). c.0) body))) _ (omega arith) (omega arith))
command_layer Command-F.Break = omega arith
command_layer Command-F.Continue = omega arith
command_layer (Command-F.Return value) = let h = operand_few value in both_few (actions_of (some_operand value)) 0 _ (omega arith) (omega arith)
command_layer (Command-F.Do slot body) = let k = commands body in both_few 0 _ _ (omega arith) (omega arith)
command_layer (Command-F.Async slots body) = let k = commands body in both_few 0 _ _ (omega arith) (omega arith)
command_layer (Command-F.Cancel level slot) = omega arith
command_layer Command-F.Yield = omega arith

command_few : (c : Command) → most_in c ≤ (command_code c).size
command_few =
    ind-Command (λ c. most_in c ≤ (command_code c).size)
    (λ x y is.
    few_as _ _ _ _ (sym (fold-roll-Command ℕ command_step x)) (sym (fold-roll-Command Piece code.command_step x))
    (subst (λ z. counted_in z ≤ (coded_in z).size) is (command_layer y)))

body_size : (body : List Command) → most_of body ≤ (body_code body).size
body_size [] = omega arith
body_size (c ∷ body) = let ih = body_size body in let h = command_few c in both_few (most_in c) (most_of body) _ (omega arith) (omega arith)

-- ---- the whole

functions_size : (fs : List Function) → greatest (map most_in_function fs) ≤ (functions_code fs).size
functions_size [] = omega arith
functions_size (f ∷ fs) = let ih = functions_size fs in let h = body_size f.body in both_few (most_of f.body) (greatest (map most_in_function fs)) _ (omega arith) (omega arith)

pub actions_few : (program : Resolved) → most_actions program ≤ length (code_of program).instrs
actions_few program = let h = functions_size program.functions in let n = (functions_sized program.functions).sized no_exits 0 in omega arith

-- The code of each form of a value and of a statement.
-- Folds do not compute on a form as it is written; here each gets its equation, so that the other files need no fold.
use Rattle.std.proofs.Common.{◌≡◌, ℕ, ◌+◌, List, map, length, Option, Some, None, sym, ap, ◌∙◌}
use Rattle.std.specs.Prelude.{ℤ}
use Rattle.std.proofs.lemmas.List.{length-map}
use Rattle.ac_tree.specs.declared.expr.UnaryOp.{UnaryOp}
use Rattle.ac_tree.specs.declared.expr.BinaryOp.{BinaryOp}
use Rattle.ac_commands.specs.declared.value.Action.{Action}
use Rattle.ac_commands.specs.declared.value.Place.{Place}
use Rattle.ac_commands.specs.declared.value.Array.{Array}
use Rattle.ac_commands.specs.declared.value.Value.{Value, fold-roll-Value}
use Rattle.ac_commands.specs.declared.value.Value.TheVariants as v
use Rattle.ac_commands.specs.declared.value.ValueLink.{ValueLink, fold-roll-ValueLink}
use Rattle.ac_commands.specs.declared.value.Value.TheOpen.{Value-F}
use Rattle.ac_commands.specs.declared.command.Target.{Target}
use Rattle.ac_commands.specs.declared.command.Command.{Command, fold-roll-Command}
use Rattle.ac_commands.specs.declared.command.Command.TheVariants as c
use Rattle.ac_commands.specs.declared.command.Command.TheOpen.{Command-F}
use Rattle.stack_code.specs.declared.instr.Instr.TheVariants as i
use Rattle.ac_translation.specs.Pieces.{Piece, no_code, one, ◌⨾◌, over, loop, out_past, out_turn}
use Rattle.ac_translation.specs.Translation.{unary_code, chained_code, variable_code, array_code, action_code, value_step, link_step, value_code, link_code, values_code}
use Rattle.ac_translation.specs.Translation.{target_code, if_code, test_code, at_loop, at_next, operand_code, command_step, command_code, body_code}

-- ---- values

pub number_form : (value : ℤ) → value_code (v.Number value) ≡ one (i.Push value)
number_form value = ap value_code (sym (v.rolls-Number value)) ∙ fold-roll-Value Piece (BinaryOp × Piece) value_step link_step (Value-F.Number value)

pub variable_form : (place : Place) → value_code (v.Variable place) ≡ one (variable_code place)
variable_form place = ap value_code (sym (v.rolls-Variable place)) ∙ fold-roll-Value Piece (BinaryOp × Piece) value_step link_step (Value-F.Variable place)

pub element_form : (array : Array) (index : Value) → value_code (v.Element array index) ≡ one (array_code array) ⨾ value_code index ⨾ one i.Elem
element_form array index = ap value_code (sym (v.rolls-Element array index)) ∙ fold-roll-Value Piece (BinaryOp × Piece) value_step link_step (Value-F.Element array index)

pub reference_form : (array : Array) → value_code (v.Reference array) ≡ one (array_code array)
reference_form array = ap value_code (sym (v.rolls-Reference array)) ∙ fold-roll-Value Piece (BinaryOp × Piece) value_step link_step (Value-F.Reference array)

pub part_form : (array : Array) (index : Value) → value_code (v.Part array index) ≡ one (array_code array) ⨾ value_code index ⨾ one i.Place
part_form array index = ap value_code (sym (v.rolls-Part array index)) ∙ fold-roll-Value Piece (BinaryOp × Piece) value_step link_step (Value-F.Part array index)

pub act_form : (action : Action) (operands : List Value) → value_code (v.Act action operands) ≡ values_code operands ⨾ one (action_code action (length operands))
act_form action operands =
    ap value_code (sym (v.rolls-Act action operands))
    ∙ fold-roll-Value Piece (BinaryOp × Piece) value_step link_step (Value-F.Act action operands)
    ∙ ap (λ n. values_code operands ⨾ one (action_code action n)) (length-map operands value_code)

pub unary_form : (op : UnaryOp) (operand : Value) → value_code (v.Unary op operand) ≡ value_code operand ⨾ one (unary_code op)
unary_form op operand = ap value_code (sym (v.rolls-Unary op operand)) ∙ fold-roll-Value Piece (BinaryOp × Piece) value_step link_step (Value-F.Unary op operand)

pub chain_form : (first : Value) (rest : List ValueLink) → value_code (v.Chain first rest) ≡ value_code first ⨾ chained_code (map link_code rest)
chain_form first rest = ap value_code (sym (v.rolls-Chain first rest)) ∙ fold-roll-Value Piece (BinaryOp × Piece) value_step link_step (Value-F.Chain first rest)

pub link_form : (l : ValueLink) → link_code l ≡ (l.op, value_code l.operand)
link_form l = fold-roll-ValueLink Piece (BinaryOp × Piece) value_step link_step (record { op = l.op; operand = l.operand })

-- ---- statements

pub nothing_form : command_code c.Nothing ≡ one i.Step
nothing_form = ap command_code (sym c.rolls-Nothing) ∙ fold-roll-Command Piece command_step Command-F.Nothing

pub set_form : (target : Target) (value : Value) → command_code (c.Set target value) ≡ one i.Step ⨾ value_code value ⨾ target_code target
set_form target value = ap command_code (sym (c.rolls-Set target value)) ∙ fold-roll-Command Piece command_step (Command-F.Set target value)

pub clear_form : (slot len : ℕ) → command_code (c.Clear slot len) ≡ one i.Step ⨾ one (i.Clear slot len)
clear_form slot len = ap command_code (sym (c.rolls-Clear slot len)) ∙ fold-roll-Command Piece command_step (Command-F.Clear slot len)

pub print_form : (text : ℕ) (args : List Value) → command_code (c.Print text args) ≡ one i.Step ⨾ values_code args ⨾ one (i.Print text (length args))
print_form text args = ap command_code (sym (c.rolls-Print text args)) ∙ fold-roll-Command Piece command_step (Command-F.Print text args)

pub if_alone_form : (test : Value) (body : List Command) → command_code (c.If test body None) ≡ if_code (value_code test) (body_code body) None
if_alone_form test body = ap command_code (sym (c.rolls-If test body None)) ∙ fold-roll-Command Piece command_step (Command-F.If test body None)

pub if_else_form : (test : Value) (body other : List Command) → command_code (c.If test body (Some other)) ≡ if_code (value_code test) (body_code body) (Some (map command_code other))
if_else_form test body other = ap command_code (sym (c.rolls-If test body (Some other))) ∙ fold-roll-Command Piece command_step (Command-F.If test body (Some other))

pub while_form : (test : Value) (body : List Command) → command_code (c.While test body) ≡ loop at_loop (test_code (Some test) ((body_code body).size + 1)) (body_code body) no_code
while_form test body = ap command_code (sym (c.rolls-While test body)) ∙ fold-roll-Command Piece command_step (Command-F.While test body)

pub for_form : (test : Option Value) (next body : List Command) → command_code (c.For test next body)
    ≡ loop at_next (test_code test ((body_code body).size + ((body_code next).size + 1))) (body_code body) (body_code next)
for_form test next body = ap command_code (sym (c.rolls-For test next body)) ∙ fold-roll-Command Piece command_step (Command-F.For test next body)

pub break_form : command_code c.Break ≡ one i.Step ⨾ out_past
break_form = ap command_code (sym c.rolls-Break) ∙ fold-roll-Command Piece command_step Command-F.Break

pub continue_form : command_code c.Continue ≡ one i.Step ⨾ out_turn
continue_form = ap command_code (sym c.rolls-Continue) ∙ fold-roll-Command Piece command_step Command-F.Continue

pub return_form : (value : Option Value) → command_code (c.Return value) ≡ one i.Step ⨾ operand_code value ⨾ one i.Ret
return_form value = ap command_code (sym (c.rolls-Return value)) ∙ fold-roll-Command Piece command_step (Command-F.Return value)

pub run_form : (value : Value) → command_code (c.Run value) ≡ one i.Step ⨾ value_code value ⨾ one i.Drop
run_form value = ap command_code (sym (c.rolls-Run value)) ∙ fold-roll-Command Piece command_step (Command-F.Run value)

pub do_form : (slot : ℕ) (body : List Command) → command_code (c.Do slot body) ≡ one i.Step ⨾ one (i.Enter slot) ⨾ body_code body ⨾ one i.Step ⨾ one (i.Finish slot)
do_form slot body = ap command_code (sym (c.rolls-Do slot body)) ∙ fold-roll-Command Piece command_step (Command-F.Do slot body)

pub async_form : (slots : ℕ) (body : List Command) → command_code (c.Async slots body) ≡ one i.Step ⨾ over (i.Async slots) ((body_code body).size + 1) ⨾ body_code body ⨾ one i.End
async_form slots body = ap command_code (sym (c.rolls-Async slots body)) ∙ fold-roll-Command Piece command_step (Command-F.Async slots body)

pub cancel_form : (level slot : ℕ) → command_code (c.Cancel level slot) ≡ one i.Step ⨾ one (i.Cancel level slot)
cancel_form level slot = ap command_code (sym (c.rolls-Cancel level slot)) ∙ fold-roll-Command Piece command_step (Command-F.Cancel level slot)

pub yield_form : command_code c.Yield ≡ one i.Step ⨾ one i.Yield
yield_form = ap command_code (sym c.rolls-Yield) ∙ fold-roll-Command Piece command_step Command-F.Yield

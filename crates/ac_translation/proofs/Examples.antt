-- Pieces of code where they stand, and the code of small forms.
-- Each way to make a piece at an address, with its size and its jumps; then the code of values, statements and functions, instruction by
-- instruction.
use Rattle.std.proofs.Common.{◌≡◌, refl, sym, ap, ◌∙◌, ℕ, pos, List, [], ◌∷◌, Some, None, true, false}
use Rattle.ac_tree.specs.declared.expr.BinaryOp.TheVariants as b
use Rattle.ac_tree.specs.declared.expr.UnaryOp.TheVariants as u
use Rattle.ac_commands.specs.declared.value.Place.TheVariants as p
use Rattle.ac_commands.specs.declared.value.Array.TheVariants as a
use Rattle.ac_commands.specs.declared.value.Action.TheVariants.{Call, Send, Recv, Read, Write}
use Rattle.ac_commands.specs.declared.value.Value.TheVariants as v
use Rattle.ac_commands.specs.declared.command.Target.TheVariants as t
use Rattle.stack_code.specs.declared.instr.Instr.{Instr}
use Rattle.stack_code.specs.declared.instr.Instr.TheVariants as i
use Rattle.ac_translation.specs.Pieces.{Exits, Piece, no_code, one, ◌⨾◌, all, over, out_past, out_turn, loop_end, loop_exits, loop, no_jump}
use Rattle.ac_translation.specs.Translation.{unary_code, operator_code, joined_code, variable_code, array_code, value_code, target_code, if_code, test_code, at_loop, at_next, operand_code}
use Rattle.ac_translation.specs.Translation.{link_step, functions_code, no_exits}
use Rattle.ac_translation.specs.Translation.{functions_from, start_of, ends_of, request_capacity}
use Rattle.ac_translation.specs.Translation.{lazily, chained_code, action_code, value_step, values_code, command_step, command_code, body_code, last_code, function_code}
use Rattle.ac_translation.proofs.WellFormed.{takes, fits_step}
use Rattle.ac_translation.proofs.Codes.{number_code, reference_code, chain_code, act_code, link_is}
use Rattle.std.specs.Prelude.{codes}
use Rattle.ac_commands.specs.declared.value.Value.TheOpen.{Value-F}
use Rattle.ac_commands.specs.declared.command.Command.{fold-roll-Command}
use Rattle.ac_commands.specs.declared.command.Command.TheVariants as c
use Rattle.ac_commands.specs.declared.command.Command.TheOpen.{Command-F}
use Rattle.ac_commands.specs.declared.program.Function.{Function}

-- a loop that is left at 90 and goes on at 80
abbrev pub exits : Exits
exits = record { past = 90; turn = 80 }

abbrev pub code_at : ℕ → Piece → List Instr
code_at place piece = piece.at exits place

-- ---- pieces

pub one_after_the_other : code_at 5 (one i.Step ⨾ one i.Ret) ≡ i.Step ∷ i.Ret ∷ []
one_after_the_other = refl

pub their_size : (one i.Step ⨾ one i.Ret).size ≡ 2
their_size = refl

pub over_two_instructions : code_at 5 (over i.Jz 2) ≡ i.Jz 8 ∷ []
over_two_instructions = refl

pub out_of_the_loop : code_at 5 out_past ≡ i.Jump 90 ∷ []
out_of_the_loop = refl

pub to_its_next_turn : code_at 5 out_turn ≡ i.Jump 80 ∷ []
to_its_next_turn = refl

pub where_it_jumps_out : (one i.Step ⨾ out_past).pasts 5 ≡ 6 ∷ []
where_it_jumps_out = refl

pub where_it_jumps_on : (one i.Step ⨾ out_turn).turns 5 ≡ 6 ∷ []
where_it_jumps_on = refl

pub no_pieces : code_at 5 (all []) ≡ []
no_pieces = refl

-- the head of a `while` whose test is 1, before a body of one instruction
abbrev pub head : Piece
head = one i.Step ⨾ one (i.Push (pos 1)) ⨾ over i.Jz 2

-- its body leaves the loop itself, and not the one round it
pub a_loop_that_is_left : code_at 5 (loop at_loop head out_past no_code) ≡ i.Step ∷ i.Push (pos 1) ∷ i.Jz 10 ∷ i.Jump 10 ∷ i.Jump 5 ∷ []
a_loop_that_is_left = refl

pub its_end : loop_end 5 head out_past no_code ≡ 10
its_end = refl

-- `continue` leads to the test of a `while`, and to the third part of a `for`
pub a_while_goes_on : (loop_exits at_loop 5 head out_turn (one i.Drop)).turn ≡ 5
a_while_goes_on = refl

pub a_for_goes_on : (loop_exits at_next 5 head out_turn (one i.Drop)).turn ≡ 9
a_for_goes_on = refl

-- ---- values

pub a_minus_sign : unary_code u.Neg ≡ i.Neg
a_minus_sign = refl

pub a_remainder : operator_code b.Rem ≡ i.Rem
a_remainder = refl

-- `.. && 7`: where the left side is 0, the right side is passed over
pub both_sides : code_at 4 (joined_code b.And (one (i.Push (pos 7)))) ≡ i.Jz 8 ∷ i.Push (pos 7) ∷ i.Bool ∷ i.Jump 9 ∷ i.Push (pos 0) ∷ []
both_sides = refl

pub either_side : code_at 4 (joined_code b.Or (one (i.Push (pos 7)))) ≡ i.Jnz 8 ∷ i.Push (pos 7) ∷ i.Bool ∷ i.Jump 9 ∷ i.Push (pos 1) ∷ []
either_side = refl

pub a_difference : code_at 4 (joined_code b.Sub (one (i.Push (pos 7)))) ≡ i.Push (pos 7) ∷ i.Sub ∷ []
a_difference = refl

pub a_global : variable_code (p.Global 3) ≡ i.LoadG 3
a_global = refl

pub a_variable_two_bodies_up : variable_code (p.Local 2 3) ≡ i.Load 2 3
a_variable_two_bodies_up = refl

pub an_array : array_code (a.Local 1 3 5) ≡ i.Arr 1 3 5
an_array = refl

-- an array parameter holds a reference
pub a_parameter : array_code (a.Param 1 3) ≡ i.Load 1 3
a_parameter = refl

-- 1+f(2): the left operand stays below while f is called
pub a_call_in_a_sum : code_at 5 (value_code (v.Chain (v.Number (pos 1)) (record { op = b.Add; operand = v.Act (Call 0) (v.Number (pos 2) ∷ []) } ∷ [])))
    ≡ i.Push (pos 1) ∷ i.Push (pos 2) ∷ i.Call 0 1 ∷ i.Add ∷ []
a_call_in_a_sum = simp (chain_code, link_is, act_code, number_code)

-- g(f(1), 2)
pub a_call_in_a_call : code_at 5 (value_code (v.Act (Call 1) (v.Act (Call 0) (v.Number (pos 1) ∷ []) ∷ v.Number (pos 2) ∷ [])))
    ≡ i.Push (pos 1) ∷ i.Call 0 1 ∷ i.Push (pos 2) ∷ i.Call 1 2 ∷ []
a_call_in_a_call = simp (act_code, number_code)

-- what is received is put through a reference
pub a_variable_to_receive_into : code_at 5 (value_code (v.Act (Recv 2) (v.Reference (a.Local 0 3 1) ∷ []))) ≡ i.Arr 0 3 1 ∷ i.Recv 2 ∷ []
a_variable_to_receive_into = simp (act_code, reference_code)

-- ---- statements

pub into_a_variable : code_at 5 (target_code (t.Variable (p.Local 0 3))) ≡ i.Store 0 3 ∷ []
into_a_variable = refl

pub without_an_else : code_at 0 (if_code (one (i.Push (pos 1))) (one i.Ret) None) ≡ i.Step ∷ i.Push (pos 1) ∷ i.Jz 4 ∷ i.Ret ∷ []
without_an_else = refl

pub with_an_else :
    code_at 0 (if_code (one (i.Push (pos 1))) (one i.Ret) (Some (one i.Drop ∷ []))) ≡ i.Step ∷ i.Push (pos 1) ∷ i.Jz 5 ∷ i.Ret ∷ i.Jump 6 ∷ i.Drop ∷ []
with_an_else = refl

pub a_missing_test : code_at 5 (test_code None 3) ≡ i.Step ∷ []
a_missing_test = refl

-- `return;` gives 0
pub a_missing_operand : code_at 5 (operand_code None) ≡ i.Push (pos 0) ∷ []
a_missing_operand = refl

-- ---- the parts of these

pub no_jump_to_an_exit : no_jump 5 ∷ (one i.Ret).pasts 5 ∷ [] ≡ [] ∷ [] ∷ []
no_jump_to_an_exit = refl

pub a_side_passed_over : code_at 4 (lazily i.Jz (i.Push (pos 0)) (one (i.Push (pos 7)))) ≡ i.Jz 8 ∷ i.Push (pos 7) ∷ i.Bool ∷ i.Jump 9 ∷ i.Push (pos 0) ∷ []
a_side_passed_over = refl

-- `.. + 2 - 3`
pub the_rest_of_a_chain : code_at 4 (chained_code ((b.Add, one (i.Push (pos 2))) ∷ (b.Sub, one (i.Push (pos 3))) ∷ [])) ≡ i.Push (pos 2) ∷ i.Add ∷ i.Push (pos 3) ∷ i.Sub ∷ []
the_rest_of_a_chain = refl

-- only a call tells how many operands it takes
pub actions_after_their_operands : action_code (Call 3) 2 ∷ action_code (Send 3) 1 ∷ action_code (Recv 3) 1 ∷ action_code (Read 3) 3 ∷ action_code (Write 3) 3 ∷ []
    ≡ i.Call 3 2 ∷ i.Send 3 ∷ i.Recv 3 ∷ i.Read 3 ∷ i.Write 3 ∷ []
actions_after_their_operands = refl

-- a call takes any number of operands, an operation on a channel takes one, and one of a file takes three
pub how_many_an_action_takes : takes (Call 3) 2 ∷ takes (Send 3) 1 ∷ takes (Send 3) 2 ∷ takes (Recv 3) 0 ∷ takes (Read 3) 3 ∷ takes (Read 3) 2 ∷ takes (Write 3) 3 ∷ takes (Write 3) 4 ∷ []
    ≡ true ∷ true ∷ false ∷ false ∷ true ∷ false ∷ true ∷ false ∷ []
how_many_an_action_takes = refl

-- of a send with a part that does not fit, and of one with two parts that do
pub expressions_that_do_not_fit : fits_step (Value-F.Act (Send 3) (true ∷ [])) ∷ fits_step (Value-F.Act (Send 3) (false ∷ [])) ∷ fits_step (Value-F.Act (Send 3) (true ∷ true ∷ [])) ∷ []
    ≡ true ∷ false ∷ false ∷ []
expressions_that_do_not_fit = refl

-- -2, and the second of two globals
pub forms_of_values : (code_at 4 (value_step (Value-F.Unary u.Neg (one (i.Push (pos 2))))) ≡ i.Push (pos 2) ∷ i.Neg ∷ [])
    × (code_at 4 (value_step (Value-F.Element (a.Global 0 2) (one (i.Push (pos 1))))) ≡ i.ArrG 0 2 ∷ i.Push (pos 1) ∷ i.Elem ∷ [])
forms_of_values = (refl, refl)

pub one_value_after_the_other : code_at 5 (values_code (v.Number (pos 1) ∷ v.Number (pos 2) ∷ [])) ≡ i.Push (pos 1) ∷ i.Push (pos 2) ∷ []
one_value_after_the_other = simp (number_code)

-- the creator of a thread goes on past the body
pub forms_of_statements : (code_at 5 (command_step (Command-F.Do 2 (one i.Drop ∷ []))) ≡ i.Step ∷ i.Enter 2 ∷ i.Drop ∷ i.Step ∷ i.Finish 2 ∷ [])
    × (code_at 5 (command_step (Command-F.Async 1 (one i.Drop ∷ []))) ≡ i.Step ∷ i.Async 1 9 ∷ i.Drop ∷ i.End ∷ [])
    × (code_at 5 (command_step Command-F.Break) ≡ i.Step ∷ i.Jump 90 ∷ [])
forms_of_statements = (refl, refl, refl)

yield_code : command_code c.Yield ≡ one i.Step ⨾ one i.Yield
yield_code = ap command_code (sym c.rolls-Yield) ∙ fold-roll-Command Piece command_step Command-F.Yield

pub the_code_of_a_body : code_at 5 (body_code (c.Yield ∷ c.Yield ∷ [])) ≡ i.Step ∷ i.Yield ∷ i.Step ∷ i.Yield ∷ []
the_code_of_a_body = rw (yield_code) refl

-- ---- functions

abbrev pub empty : Function
empty = record { name = codes "f"; is_async = false; gives_int = true; params = true ∷ []; slots = 3; body = [] }

pub it_gives_nought_at_its_end : code_at 5 last_code ∷ code_at 5 (function_code empty) ∷ [] ≡ (i.Push (pos 0) ∷ i.Ret ∷ []) ∷ (i.Push (pos 0) ∷ i.Ret ∷ []) ∷ []
it_gives_nought_at_its_end = refl

pub functions_in_a_row : functions_from 4 (empty ∷ record empty { name = codes "g" } ∷ [])
    ≡ record { name = codes "f"; at = 4; params = true ∷ []; words = 3 } ∷ record { name = codes "g"; at = 6; params = true ∷ []; words = 3 } ∷ []
functions_in_a_row = refl

pub the_rest_of_a_program : (start_of (record { slot = 1; value = pos 5 }) ≡ record { slot = 1; value = pos 5 }) × (ends_of (record { from = 2; to = 0; capacity = 9; width = 3 })
    ≡ record { from = 2; to = 0 })
    × (request_capacity ≡ 16)
the_rest_of_a_program = (refl, refl, refl)

pub sizes_and_exits : ((functions_code (empty ∷ empty ∷ [])).size ≡ 4) × (no_exits ≡ record { past = 0; turn = 0 }) × ((link_step (record { op = b.Add; operand = no_code })).0 ≡ b.Add)
sizes_and_exits = (refl, refl, refl)

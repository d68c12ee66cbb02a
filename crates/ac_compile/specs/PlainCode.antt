-- The code of a program where each call and each operation stands alone: that of its operands, and then its own instruction. Here no other
-- expression has code for a call in it.
use Rattle.std.specs.Prelude.{◌≡◌, ℕ, ◌+◌, pos, List, [], ◌∷◌, length, map, Option, Some, None}
use Rattle.ac_tree.specs.declared.expr.BinaryOp.{BinaryOp}
use Rattle.ac_commands.specs.declared.value.Value.{Value, out-Value, fold-Value}
use Rattle.ac_commands.specs.declared.value.ValueLink.{ValueLink}
use Rattle.ac_commands.specs.declared.value.Value.TheOpen.{Value-F}
use Rattle.ac_commands.specs.declared.command.Target.{Target}
use Rattle.ac_commands.specs.declared.command.Target.TheVariants as t
use Rattle.ac_commands.specs.declared.command.Command.{Command, fold-Command}
use Rattle.ac_commands.specs.declared.command.Command.TheOpen.{Command-F}
use Rattle.ac_commands.specs.declared.program.Function.{Function}
use Rattle.ac_commands.specs.declared.program.Resolved.{Resolved}
use Rattle.stack_code.specs.declared.instr.Instr.TheVariants as i
use Rattle.stack_code.specs.declared.parts.Entered.{Entered}
use Rattle.stack_code.specs.Parts.{Parts}
use Rattle.ac_translation.specs.Pieces.{Piece, no_code, one, ◌⨾◌, all, over, loop}
use Rattle.ac_translation.specs.Translation.{array_code, action_code, value_step, link_step, target_code, if_code, at_loop, at_next}
use Rattle.ac_translation.specs.Translation.{command_step, last_code, no_exits, code_of}

-- ---- expressions

-- without calls and operations
abbrev pub plain_step : Value-F Piece (BinaryOp × Piece) → Piece
plain_step (Value-F.Act action operands) = no_code
plain_step x = value_step x

abbrev pub plain_code : Value → Piece
plain_code = fold-Value Piece (BinaryOp × Piece) plain_step link_step

abbrev pub row_code : List Value → Piece
row_code xs = all (map plain_code xs)

-- one that may be a call or an operation
abbrev pub alone_form : Value-F Value ValueLink → Value → Piece
alone_form (Value-F.Act action operands) x = row_code operands ⨾ one (action_code action (length operands))
alone_form _ x = plain_code x

abbrev pub alone_code : Value → Piece
alone_code x = alone_form (out-Value x) x

-- ---- statements

abbrev pub plain_target : Target → Piece
plain_target (t.Variable place) = target_code (t.Variable place)
plain_target (t.Element array index) = one (array_code array) ⨾ plain_code index ⨾ one i.SetElem

abbrev pub plain_test : Option Value → ℕ → Piece
plain_test None count = one i.Step
plain_test (Some test) count = one i.Step ⨾ plain_code test ⨾ over i.Jz count

abbrev pub plain_operand : Option Value → Piece
plain_operand None = one (i.Push (pos 0))
plain_operand (Some value) = alone_code value

abbrev pub plain_command_step : Command-F Piece → Piece
plain_command_step (Command-F.Set target value) = one i.Step ⨾ alone_code value ⨾ plain_target target
plain_command_step (Command-F.Run value) = one i.Step ⨾ alone_code value ⨾ one i.Drop
plain_command_step (Command-F.Print text args) = one i.Step ⨾ row_code args ⨾ one (i.Print text (length args))
plain_command_step (Command-F.If test body other) = if_code (plain_code test) (all body) other
plain_command_step (Command-F.While test body) = loop at_loop (plain_test (Some test) ((all body).size + 1)) (all body) no_code
plain_command_step (Command-F.For test next body) =
    loop at_next (plain_test test ((all body).size + ((all next).size + 1))) (all body) (all next)
plain_command_step (Command-F.Return value) = one i.Step ⨾ plain_operand value ⨾ one i.Ret
plain_command_step x = command_step x

abbrev pub plain_command : Command → Piece
plain_command = fold-Command Piece plain_command_step

-- ---- programs

abbrev pub plain_function : Function → Piece
plain_function f = all (map plain_command f.body) ⨾ last_code

abbrev pub plain_from : ℕ → List Function → List Entered
plain_from at [] = []
plain_from at (f ∷ fs) = record { name = f.name; at = at; params = f.params; words = f.slots }
    ∷ plain_from (at + (plain_function f).size) fs

abbrev pub plain_code_of : Resolved → Parts
plain_code_of p = record (code_of p) {
  instrs = (all (map plain_function p.functions)).at no_exits 0;
  functions = plain_from 0 p.functions;
}

abbrev pub HasPlainCode : Resolved → Type 0
HasPlainCode program = code_of program ≡ plain_code_of program

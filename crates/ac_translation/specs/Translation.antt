-- The code of a program. Addresses run from 0 over all functions, and texts keep their numbers.
use Rattle.std.specs.Prelude.{ℕ, ◌+◌, pos, List, [], ◌∷◌, ◌++◌, length, map, replicate, Option, Some, None}
use Rattle.ac_tree.specs.declared.expr.UnaryOp.{UnaryOp}
use Rattle.ac_tree.specs.declared.expr.UnaryOp.TheVariants as u
use Rattle.ac_tree.specs.declared.expr.BinaryOp.{BinaryOp}
use Rattle.ac_tree.specs.declared.expr.BinaryOp.TheVariants as b
use Rattle.ac_commands.specs.declared.value.Place.{Place}
use Rattle.ac_commands.specs.declared.value.Place.TheVariants as p
use Rattle.ac_commands.specs.declared.value.Array.{Array}
use Rattle.ac_commands.specs.declared.value.Array.TheVariants as a
use Rattle.ac_commands.specs.declared.value.Action.{Action}
use Rattle.ac_commands.specs.declared.value.Action.TheVariants as c
use Rattle.ac_commands.specs.declared.value.Value.{Value, fold-Value}
use Rattle.ac_commands.specs.declared.value.ValueLink.{ValueLink, fold-ValueLink}
use Rattle.ac_commands.specs.declared.value.Value.TheOpen.{Value-F, ValueLink-F}
use Rattle.ac_commands.specs.declared.command.Target.{Target}
use Rattle.ac_commands.specs.declared.command.Target.TheVariants as t
use Rattle.ac_commands.specs.declared.command.Command.{Command, fold-Command}
use Rattle.ac_commands.specs.declared.command.Command.TheOpen.{Command-F}
use Rattle.ac_commands.specs.declared.program.Function.{Function}
use Rattle.ac_commands.specs.declared.program.Start as program
use Rattle.ac_commands.specs.declared.program.Channel.{Channel}
use Rattle.ac_commands.specs.declared.program.Resolved.{Resolved}
use Rattle.stack_code.specs.declared.instr.Instr.{Instr}
use Rattle.stack_code.specs.declared.instr.Instr.TheVariants as i
use Rattle.stack_code.specs.declared.parts.Entered.{Entered}
use Rattle.stack_code.specs.declared.parts.Start.{Start}
use Rattle.stack_code.specs.declared.parts.ChannelEnds.{ChannelEnds}
use Rattle.stack_code.specs.Parts.{Parts}
use Rattle.ac_translation.specs.Pieces.{Exits, Piece, no_code, one, ◌⨾◌, all, over, out_past, out_turn, loop}

-- ---- values

abbrev pub unary_code : UnaryOp → Instr
unary_code u.Neg = i.Neg
unary_code u.Not = i.Not
unary_code u.Flip = i.Flip

-- `||` and `&&` have jumps, and no instruction of their own
abbrev pub operator_code : BinaryOp → Instr
operator_code b.Or = i.Bool
operator_code b.And = i.Bool
operator_code b.BitOr = i.BitOr
operator_code b.BitXor = i.BitXor
operator_code b.BitAnd = i.BitAnd
operator_code b.Eq = i.Eq
operator_code b.Ne = i.Ne
operator_code b.Less = i.Less
operator_code b.LessEq = i.LessEq
operator_code b.More = i.More
operator_code b.MoreEq = i.MoreEq
operator_code b.Shl = i.Shl
operator_code b.Shr = i.Shr
operator_code b.Add = i.Add
operator_code b.Sub = i.Sub
operator_code b.Mul = i.Mul
operator_code b.Div = i.Div
operator_code b.Rem = i.Rem

-- the right side is passed over where the left decides
abbrev pub lazily : (ℕ → Instr) → Instr → Piece → Piece
lazily jump decided right = over jump (right.size + 2) ⨾ right ⨾ one i.Bool ⨾ over i.Jump 1 ⨾ one decided

-- after the left operand
abbrev pub joined_code : BinaryOp → Piece → Piece
joined_code b.Or right = lazily i.Jnz (i.Push (pos 1)) right
joined_code b.And right = lazily i.Jz (i.Push (pos 0)) right
joined_code op right = right ⨾ one (operator_code op)

abbrev pub chained_code : List (BinaryOp × Piece) → Piece
chained_code [] = no_code
chained_code (l ∷ links) = joined_code l.0 l.1 ⨾ chained_code links

abbrev pub variable_code : Place → Instr
variable_code (p.Global slot) = i.LoadG slot
variable_code (p.Local level slot) = i.Load level slot

abbrev pub array_code : Array → Instr
array_code (a.Global slot len) = i.ArrG slot len
array_code (a.Local level slot len) = i.Arr level slot len
array_code (a.Param level slot) = i.Load level slot

-- after its operands, of which there are so many
abbrev pub action_code : Action → ℕ → Instr
action_code (c.Call function) count = i.Call function count
action_code (c.Send channel) count = i.Send channel
action_code (c.Recv channel) count = i.Recv channel
action_code (c.Read file) count = i.Read file
action_code (c.Write file) count = i.Write file

abbrev pub value_step : Value-F Piece (BinaryOp × Piece) → Piece
value_step (Value-F.Number value) = one (i.Push value)
value_step (Value-F.Variable place) = one (variable_code place)
value_step (Value-F.Reference array) = one (array_code array)
value_step (Value-F.Element array index) = one (array_code array) ⨾ index ⨾ one i.Elem
value_step (Value-F.Part array index) = one (array_code array) ⨾ index ⨾ one i.Place
value_step (Value-F.Unary op operand) = operand ⨾ one (unary_code op)
value_step (Value-F.Chain first rest) = first ⨾ chained_code rest
value_step (Value-F.Act action operands) = all operands ⨾ one (action_code action (length operands))

abbrev pub link_step : ValueLink-F Piece (BinaryOp × Piece) → BinaryOp × Piece
link_step link = (link.op, link.operand)

abbrev pub value_code : Value → Piece
value_code = fold-Value Piece (BinaryOp × Piece) value_step link_step

abbrev pub link_code : ValueLink → BinaryOp × Piece
link_code = fold-ValueLink Piece (BinaryOp × Piece) value_step link_step

abbrev pub values_code : List Value → Piece
values_code xs = all (map value_code xs)

-- ---- statements

-- after the value
abbrev pub target_code : Target → Piece
target_code (t.Variable (p.Global slot)) = one (i.StoreG slot)
target_code (t.Variable (p.Local level slot)) = one (i.Store level slot)
target_code (t.Element array index) = one (array_code array) ⨾ value_code index ⨾ one i.SetElem

abbrev pub if_code : Piece → Piece → Option (List Piece) → Piece
if_code test body None = one i.Step ⨾ test ⨾ over i.Jz body.size ⨾ body
if_code test body (Some other) = one i.Step ⨾ test ⨾ over i.Jz (body.size + 1) ⨾ body ⨾ over i.Jump (all other).size ⨾ all other

-- what decides whether a loop goes on, before so many instructions; a missing test is true
abbrev pub test_code : Option Value → ℕ → Piece
test_code None count = one i.Step
test_code (Some test) count = one i.Step ⨾ value_code test ⨾ over i.Jz count

-- the next part of a `while` is its test
abbrev pub at_loop : ℕ → ℕ → ℕ
at_loop place next = place

abbrev pub at_next : ℕ → ℕ → ℕ
at_next place next = next

abbrev pub operand_code : Option Value → Piece
operand_code None = one (i.Push (pos 0))
operand_code (Some value) = value_code value

abbrev pub command_step : Command-F Piece → Piece
command_step Command-F.Nothing = one i.Step
command_step (Command-F.Set target value) = one i.Step ⨾ value_code value ⨾ target_code target
command_step (Command-F.Clear slot len) = one i.Step ⨾ one (i.Clear slot len)
command_step (Command-F.Run value) = one i.Step ⨾ value_code value ⨾ one i.Drop
command_step (Command-F.Print text args) = one i.Step ⨾ values_code args ⨾ one (i.Print text (length args))
command_step (Command-F.If test body other) = if_code (value_code test) (all body) other
command_step (Command-F.While test body) = loop at_loop (test_code (Some test) ((all body).size + 1)) (all body) no_code
command_step (Command-F.For test next body) = loop at_next (test_code test ((all body).size + ((all next).size + 1))) (all body) (all next)
command_step Command-F.Break = one i.Step ⨾ out_past
command_step Command-F.Continue = one i.Step ⨾ out_turn
command_step (Command-F.Return value) = one i.Step ⨾ operand_code value ⨾ one i.Ret
command_step (Command-F.Do slot body) = one i.Step ⨾ one (i.Enter slot) ⨾ all body ⨾ one i.Step ⨾ one (i.Finish slot)
command_step (Command-F.Async slots body) = one i.Step ⨾ over (i.Async slots) ((all body).size + 1) ⨾ all body ⨾ one i.End
command_step (Command-F.Cancel level slot) = one i.Step ⨾ one (i.Cancel level slot)
command_step Command-F.Yield = one i.Step ⨾ one i.Yield

abbrev pub command_code : Command → Piece
command_code = fold-Command Piece command_step

abbrev pub body_code : List Command → Piece
body_code body = all (map command_code body)

-- ---- functions

-- a function gives 0 at its end
abbrev pub last_code : Piece
last_code = one (i.Push (pos 0)) ⨾ one i.Ret

abbrev pub function_code : Function → Piece
function_code f = body_code f.body ⨾ last_code

-- no loop is round a function
abbrev pub no_exits : Exits
no_exits = record { past = 0; turn = 0 }

abbrev pub functions_from : ℕ → List Function → List Entered
functions_from at [] = []
functions_from at (f ∷ fs) = record { name = f.name; at = at; params = f.params; words = f.slots }
    ∷ functions_from (at + (function_code f).size) fs

abbrev pub functions_code : List Function → Piece
functions_code fs = all (map function_code fs)

-- ---- the whole

abbrev pub start_of : program.Start → Start
start_of x = record { slot = x.slot; value = x.value }

abbrev pub ends_of : Channel → ChannelEnds
ends_of x = record { from = x.from; to = x.to }

-- a core's link of requests holds so many
abbrev pub request_capacity : ℕ
request_capacity = 16

abbrev pub code_of : Resolved → Parts
code_of p = record {
  instrs = (functions_code p.functions).at no_exits 0;
  functions = functions_from 0 p.functions;
  texts = p.texts;
  entries = map (λ core. core.entry) p.cores;
  names = map (λ core. core.name) p.cores;
  globals = p.slots;
  capacities = map (λ channel. channel.capacity) p.channels ++ replicate (length p.cores) request_capacity;
  ends = map ends_of p.channels;
  starts = map start_of p.starts;
  widths = map (λ channel. channel.width) p.channels;
}

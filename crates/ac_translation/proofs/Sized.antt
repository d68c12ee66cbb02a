-- A piece has as many instructions as its size says, in each loop and at each address.
-- One use of Closed: each of the ways to make a piece keeps it.
use Rattle.std.proofs.Common.{◌≡◌, ℕ, ◌+◌, ◌∷◌, ◌++◌, [], List, length, Option, refl, arith, length-append}
use Rattle.ac_tree.specs.declared.expr.BinaryOp.{BinaryOp}
use Rattle.ac_commands.specs.declared.value.Value.{Value}
use Rattle.ac_commands.specs.declared.command.Command.{Command}
use Rattle.ac_commands.specs.declared.program.Function.{Function}
use Rattle.stack_code.specs.declared.instr.Instr.{Instr}
use Rattle.stack_code.specs.declared.instr.Instr.TheVariants as i
use Rattle.ac_translation.specs.Pieces.{Exits, Piece, no_code, one, ◌⨾◌, over, out_past, out_turn, loop_exits, loop}
use Rattle.ac_translation.specs.Translation.{joined_code, value_code, values_code}
use Rattle.ac_translation.specs.Translation.{operand_code, test_code, command_code, body_code, function_code, functions_code}
use Rattle.ac_translation.proofs.Closed as closed

pub record IsSized (p : Piece) : Type 0 where
  pub sized : (exits : Exits) (place : ℕ) → length (p.at exits place) ≡ p.size

-- ---- ways to make a piece

pub no_sized : IsSized no_code
no_sized = record { sized = λ exits place. refl }

pub one_sized : (instr : Instr) → IsSized (one instr)
one_sized instr = record { sized = λ exits place. refl }

pub over_sized : (jump : ℕ → Instr) (count : ℕ) → IsSized (over jump count)
over_sized jump count = record { sized = λ exits place. refl }

pub past_sized : IsSized out_past
past_sized = record { sized = λ exits place. refl }

pub turn_sized : IsSized out_turn
turn_sized = record { sized = λ exits place. refl }

pub both_sized : (a b : Piece) → IsSized a → IsSized b → IsSized (a ⨾ b)
both_sized a b x y = record {
  sized = λ exits place. omega (arith, x.sized exits place, y.sized exits (place + a.size), length-append (a.at exits place) (b.at exits (place + a.size)));
}

-- one instruction, and then a piece
pub after_one : (instr : Instr) (b : Piece) → IsSized b → IsSized (one instr ⨾ b)
after_one instr b y = both_sized (one instr) b (one_sized instr) y

pub loop_sized : (turns : ℕ → ℕ → ℕ) (head body next : Piece) → IsSized head → IsSized body → IsSized next → IsSized (loop turns head body next)
loop_sized turns head body next x y z = record {
  sized = λ exits place.
      let within = loop_exits turns place head body next in
      let front = head.at exits place in
      let middle = body.at within (place + head.size) in
      let back = next.at exits (place + (head.size + body.size)) in
      omega (
        arith,
        x.sized exits place,
        y.sized within (place + head.size),
        z.sized exits (place + (head.size + body.size)),
        length-append front (middle ++ (back ++ i.Jump place ∷ [])),
        length-append middle (back ++ i.Jump place ∷ []),
        length-append back (i.Jump place ∷ []),
      );
}

-- ---- every code

pub kept : closed.IsKept IsSized
kept = record { none = no_sized; single = one_sized; both = both_sized; jump = over_sized; past = past_sized; turn = turn_sized; round = loop_sized }

pub joined_sized : (op : BinaryOp) (right : Piece) → IsSized right → IsSized (joined_code op right)
joined_sized = closed.joined_has IsSized kept

pub value_sized : (x : Value) → IsSized (value_code x)
value_sized = closed.value_has IsSized kept

pub values_sized : (xs : List Value) → IsSized (values_code xs)
values_sized = closed.values_have IsSized kept

pub operand_sized : (x : Option Value) → IsSized (operand_code x)
operand_sized = closed.operand_has IsSized kept

pub test_sized : (x : Option Value) (count : ℕ) → IsSized (test_code x count)
test_sized = closed.test_has IsSized kept

pub command_sized : (c : Command) → IsSized (command_code c)
command_sized = closed.command_has IsSized kept

pub body_sized : (body : List Command) → IsSized (body_code body)
body_sized = closed.body_has IsSized kept

pub function_sized : (x : Function) → IsSized (function_code x)
function_sized = closed.function_has IsSized kept

pub functions_sized : (xs : List Function) → IsSized (functions_code xs)
functions_sized = closed.functions_have IsSized kept

-- The code of each form of a statement that has statements in it: its parts are smaller.
-- For the function that emits statements, which calls itself on their bodies: the measure by which it ends, and that there is room for each
-- part where there is for the whole.
use Rattle.std.proofs.Common.{◌≡◌, ℕ, ◌+◌, ◌*◌, ◌<◌, ◌≤◌, List, map, Option, Some, None, sym, ap, ◌∙◌, arith}
use Rattle.std.specs.Option.{option_map}
use Rattle.ac_commands.specs.declared.value.Value.{Value}
use Rattle.ac_commands.specs.declared.command.Command.{Command, fold-roll-Command}
use Rattle.ac_commands.specs.declared.command.Command.TheVariants as c
use Rattle.ac_commands.specs.declared.command.Command.TheOpen.{Command-F}
use Rattle.stack_code.specs.declared.instr.Instr.TheVariants as i
use Rattle.ac_translation.specs.Pieces.{Piece, no_code, one, ◌⨾◌, over, loop}
use Rattle.ac_translation.specs.Translation.{value_code, test_code, if_code, at_loop, at_next, command_step, command_code, body_code}
use Rattle.ac_compile.specs.inner.Emission.{Emitted, HasRoom}

-- what stands after an `else`
abbrev pub other_code : Option (List Command) → Piece
other_code None = no_code
other_code (Some other) = body_code other

abbrev pub if_piece : Value → List Command → Option (List Command) → Piece
if_piece test body other = if_code (value_code test) (body_code body) (option_map (map command_code) other)

abbrev pub while_piece : Value → List Command → Piece
while_piece test body = loop at_loop (test_code (Some test) ((body_code body).size + 1)) (body_code body) no_code

abbrev pub for_piece : Option Value → List Command → List Command → Piece
for_piece test next body = loop at_next (test_code test ((body_code body).size + ((body_code next).size + 1))) (body_code body) (body_code next)

abbrev pub do_piece : ℕ → List Command → Piece
do_piece slot body = one i.Step ⨾ one (i.Enter slot) ⨾ body_code body ⨾ one i.Step ⨾ one (i.Finish slot)

abbrev pub async_piece : ℕ → List Command → Piece
async_piece slots body = one i.Step ⨾ over (i.Async slots) ((body_code body).size + 1) ⨾ body_code body ⨾ one i.End

pub if_is : (test : Value) (body : List Command) (other : Option (List Command)) → command_code (c.If test body other) ≡ if_piece test body other
if_is test body None = ap command_code (sym (c.rolls-If test body None)) ∙ fold-roll-Command Piece command_step (Command-F.If test body None)
if_is test body (Some other) = ap command_code (sym (c.rolls-If test body (Some other))) ∙ fold-roll-Command Piece command_step (Command-F.If test body (Some other))

while_is : (test : Value) (body : List Command) → command_code (c.While test body) ≡ while_piece test body
while_is test body = ap command_code (sym (c.rolls-While test body)) ∙ fold-roll-Command Piece command_step (Command-F.While test body)

for_is : (test : Option Value) (next body : List Command) → command_code (c.For test next body) ≡ for_piece test next body
for_is test next body = ap command_code (sym (c.rolls-For test next body)) ∙ fold-roll-Command Piece command_step (Command-F.For test next body)

do_is : (slot : ℕ) (body : List Command) → command_code (c.Do slot body) ≡ do_piece slot body
do_is slot body = ap command_code (sym (c.rolls-Do slot body)) ∙ fold-roll-Command Piece command_step (Command-F.Do slot body)

async_is : (slots : ℕ) (body : List Command) → command_code (c.Async slots body) ≡ async_piece slots body
async_is slots body = ap command_code (sym (c.rolls-Async slots body)) ∙ fold-roll-Command Piece command_step (Command-F.Async slots body)

if_size : (test : Value) (body : List Command) (other : Option (List Command)) → 2 + ((body_code body).size + (other_code other).size) ≤ (if_piece test body other).size
if_size test body None = omega arith
if_size test body (Some other) = omega arith

-- what a statement gives its parts: a smaller measure, and room
module _ (x : Command) (e : Emitted) (n : ℕ) (d : 2 * (command_code x).size ≡ n) (room : HasRoom (command_code x) e) where
  pub if_fits : (test : Value) (body ys : List Command) (other : Option (List Command)) → x ≡ c.If test body other → ys ≡ body
      → (2 * ((body_code ys).size + (other_code other).size) + 3 < n) × HasRoom (if_piece test ys other) e
  if_fits test body ys other is same =
      let m = ap (λ z. (command_code z).size) is ∙ ap (λ (p : Piece). p.size) (if_is test body other) ∙ ap (λ zs. (if_piece test zs other).size) (sym same) in
      let k = if_size test ys other in
      (omega (arith, d, m, k), omega (arith, m, room))

  pub while_fits : (test : Value) (body ys : List Command) → x ≡ c.While test body → ys ≡ body → (2 * (body_code ys).size + 3 < n) × HasRoom (while_piece test ys) e
  while_fits test body ys is same =
      let m = ap (λ z. (command_code z).size) is ∙ ap (λ (p : Piece). p.size) (while_is test body) ∙ ap (λ zs. (while_piece test zs).size) (sym same) in
      (omega (arith, d, m), omega (arith, m, room))

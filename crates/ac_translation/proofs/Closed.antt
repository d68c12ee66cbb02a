-- What each way to make a piece keeps holds of every code.
-- One induction over values, statements and functions, so that a property of all code (its size, the jumps that it leaves open) is shown by
-- its seven ways to make a piece.
use Rattle.std.proofs.Common.{ℕ, ◌+◌, List, [], ◌∷◌, map, Option, Some, None, sym, subst}
use Rattle.std.specs.Prelude.{pos}
use Rattle.ac_tree.specs.declared.expr.BinaryOp.{BinaryOp}
use Rattle.ac_tree.specs.declared.expr.BinaryOp.TheVariants as b
use Rattle.ac_commands.specs.declared.value.Place.TheVariants as p
use Rattle.ac_commands.specs.declared.value.Value.{Value, map-Value, ind-Value, fold-roll-Value}
use Rattle.ac_commands.specs.declared.value.ValueLink.{ValueLink, fold-roll-ValueLink}
use Rattle.ac_commands.specs.declared.value.Value.TheOpen.{Value-F, ValueLink-F}
use Rattle.ac_commands.specs.declared.command.Target.{Target}
use Rattle.ac_commands.specs.declared.command.Target.TheVariants as t
use Rattle.ac_commands.specs.declared.command.Command.{Command, map-Command, ind-Command, fold-roll-Command}
use Rattle.ac_commands.specs.declared.command.Command.TheOpen.{Command-F}
use Rattle.ac_commands.specs.declared.program.Function.{Function}
use Rattle.stack_code.specs.declared.instr.Instr.{Instr}
use Rattle.stack_code.specs.declared.instr.Instr.TheVariants as i
use Rattle.ac_translation.specs.Pieces.{Piece, no_code, one, ◌⨾◌, all, over, out_past, out_turn, loop}
use Rattle.ac_translation.specs.Translation.{lazily, joined_code, chained_code, value_step, link_step, value_code, link_code, values_code}
use Rattle.ac_translation.specs.Translation.{target_code, test_code, at_loop, at_next, operand_code, command_step, command_code, body_code, last_code, function_code, functions_code}

-- each way to make a piece keeps it
pub record IsKept (P : Piece → Type 0) : Type 0 where
  pub none : P no_code
  pub single : (instr : Instr) → P (one instr)
  pub both : (a b : Piece) → P a → P b → P (a ⨾ b)
  pub jump : (to : ℕ → Instr) (count : ℕ) → P (over to count)
  pub past : P out_past
  pub turn : P out_turn
  pub round : (turns : ℕ → ℕ → ℕ) (head body next : Piece) → P head → P body → P next → P (loop turns head body next)

module _ (P : Piece → Type 0) (k : IsKept P) where
  -- one instruction, and then a piece
  after_one : (instr : Instr) (b : Piece) → P b → P (one instr ⨾ b)
  after_one instr b y = k.both (one instr) b (k.single instr) y

  -- a piece, and then one instruction
  then_one : (a : Piece) (instr : Instr) → P a → P (a ⨾ one instr)
  then_one a instr x = k.both a (one instr) x (k.single instr)

  -- ---- values

  lazily_has : (jump : ℕ → Instr) (decided : Instr) (right : Piece) → P right → P (lazily jump decided right)
  lazily_has jump decided right y =
      k.both (over jump (right.size + 2)) _ (k.jump jump _) (k.both right _ y (after_one i.Bool _ (then_one (over i.Jump 1) decided (k.jump i.Jump 1))))

  pub joined_has : (op : BinaryOp) (right : Piece) → P right → P (joined_code op right)
  joined_has b.Or right y = lazily_has i.Jnz (i.Push (pos 1)) right y
  joined_has b.And right y = lazily_has i.Jz (i.Push (pos 0)) right y
  joined_has op right y = then_one right _ y

  abbrev Value_ : Type 0
  Value_ = (x : Value) × P (value_code x)

  abbrev Link_ : Type 0
  Link_ = (l : ValueLink) × P (link_code l).1

  chained : (links : List Link_) → P (chained_code (map link_code (map (λ (l : Link_). l.0) links)))
  chained [] = k.none
  chained (l ∷ links) = k.both _ _ (joined_has (link_code l.0).0 (link_code l.0).1 l.1) (chained links)

  each : (xs : List Value_) → P (all (map value_code (map (λ (x : Value_). x.0) xs)))
  each [] = k.none
  each (x ∷ xs) = k.both _ _ x.1 (each xs)

  value_layer : (y : Value-F Value_ Link_) → P (value_step (map-Value Value ValueLink Piece (BinaryOp × Piece) value_code link_code (map-Value Value_ Link_ Value ValueLink (λ x. x.0) (λ l. l.0) y)))
  value_layer (Value-F.Number value) = k.single _
  value_layer (Value-F.Variable place) = k.single _
  value_layer (Value-F.Reference array) = k.single _
  value_layer (Value-F.Element array index) = after_one _ _ (then_one _ i.Elem index.1)
  value_layer (Value-F.Part array index) = after_one _ _ (then_one _ i.Place index.1)
  value_layer (Value-F.Unary op operand) = then_one _ _ operand.1
  value_layer (Value-F.Chain first rest) = k.both _ _ first.1 (chained rest)
  value_layer (Value-F.Act action operands) = then_one _ _ (each operands)

  pub value_has : (x : Value) → P (value_code x)
  value_has =
      ind-Value (λ x. P (value_code x)) (λ l. P (link_code l).1)
      (λ x y is. subst P (sym (fold-roll-Value Piece (BinaryOp × Piece) value_step link_step x))
      (subst (λ z. P (value_step (map-Value Value ValueLink Piece (BinaryOp × Piece) value_code link_code z))) is (value_layer y)))
      (λ x y is. subst (λ (z : BinaryOp × Piece). P z.1) (sym (fold-roll-ValueLink Piece (BinaryOp × Piece) value_step link_step x))
      (subst (λ (z : ValueLink-F Value ValueLink). P (value_code z.operand)) is y.operand.1))

  pub links_have : (links : List ValueLink) → P (chained_code (map link_code links))
  links_have [] = k.none
  links_have (l ∷ links) = k.both _ _ (joined_has (link_code l).0 (link_code l).1 (link_has l)) (links_have links) where
    link_has : (l : ValueLink) → P (link_code l).1
    link_has l = subst (λ (z : BinaryOp × Piece). P z.1) (sym (fold-roll-ValueLink Piece (BinaryOp × Piece) value_step link_step (record { op = l.op; operand = l.operand }))) (value_has l.operand)

  pub values_have : (xs : List Value) → P (values_code xs)
  values_have [] = k.none
  values_have (x ∷ xs) = k.both _ _ (value_has x) (values_have xs)

  -- ---- statements

  pub target_has : (x : Target) → P (target_code x)
  target_has (t.Variable (p.Global slot)) = k.single _
  target_has (t.Variable (p.Local level slot)) = k.single _
  target_has (t.Element array index) = after_one _ _ (then_one _ i.SetElem (value_has index))

  pub operand_has : (x : Option Value) → P (operand_code x)
  operand_has None = k.single _
  operand_has (Some value) = value_has value

  pub test_has : (x : Option Value) (count : ℕ) → P (test_code x count)
  test_has None count = k.single i.Step
  test_has (Some test) count = after_one i.Step _ (k.both _ _ (value_has test) (k.jump i.Jz count))

  abbrev Command_ : Type 0
  Command_ = (c : Command) × P (command_code c)

  commands : (xs : List Command_) → P (all (map command_code (map (λ (c : Command_). c.0) xs)))
  commands [] = k.none
  commands (x ∷ xs) = k.both _ _ x.1 (commands xs)

  command_layer : (y : Command-F Command_) → P (command_step (map-Command Command Piece command_code (map-Command Command_ Command (λ c. c.0) y)))
  command_layer Command-F.Nothing = k.single i.Step
  command_layer (Command-F.Set target value) = after_one i.Step _ (k.both _ _ (value_has value) (target_has target))
  command_layer (Command-F.Clear slot len) = after_one i.Step _ (k.single _)
  command_layer (Command-F.Run value) = after_one i.Step _ (then_one _ i.Drop (value_has value))
  command_layer (Command-F.Print text args) = after_one i.Step _ (then_one _ _ (values_have args))
  command_layer (Command-F.If test body None) = after_one i.Step _ (k.both _ _ (value_has test) (k.both _ _ (k.jump i.Jz _) (commands body)))
  command_layer (Command-F.If test body (Some other)) =
      after_one i.Step _ (k.both _ _ (value_has test) (k.both _ _ (k.jump i.Jz _) (k.both _ _ (commands body) (k.both _ _ (k.jump i.Jump _) (commands other)))))
  command_layer (Command-F.While test body) = k.round at_loop _ _ _ (test_has (Some test) _) (commands body) k.none
  command_layer (Command-F.For test next body) = k.round at_next _ _ _ (test_has test _) (commands body) (commands next)
  command_layer Command-F.Break = after_one i.Step _ k.past
  command_layer Command-F.Continue = after_one i.Step _ k.turn
  command_layer (Command-F.Return value) = after_one i.Step _ (then_one _ i.Ret (operand_has value))
  command_layer (Command-F.Do slot body) = after_one i.Step _ (after_one (i.Enter slot) _ (k.both _ _ (commands body) (after_one i.Step _ (k.single (i.Finish slot)))))
  command_layer (Command-F.Async slots body) = after_one i.Step _ (k.both _ _ (k.jump (i.Async slots) _) (then_one _ i.End (commands body)))
  command_layer (Command-F.Cancel level slot) = after_one i.Step _ (k.single _)
  command_layer Command-F.Yield = after_one i.Step _ (k.single i.Yield)

  pub command_has : (c : Command) → P (command_code c)
  command_has =
      ind-Command (λ c. P (command_code c))
      (λ x y is. subst P (sym (fold-roll-Command Piece command_step x))
      (subst (λ z. P (command_step (map-Command Command Piece command_code z))) is (command_layer y)))

  pub body_has : (body : List Command) → P (body_code body)
  body_has [] = k.none
  body_has (c ∷ body) = k.both _ _ (command_has c) (body_has body)

  -- ---- functions

  pub last_has : P last_code
  last_has = after_one _ _ (k.single i.Ret)

  pub function_has : (x : Function) → P (function_code x)
  function_has x = k.both _ _ (body_has x.body) last_has

  pub functions_have : (xs : List Function) → P (functions_code xs)
  functions_have [] = k.none
  functions_have (x ∷ xs) = k.both _ _ (function_has x) (functions_have xs)

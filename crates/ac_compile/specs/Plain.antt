-- What a statement did where each call and each operation stood alone: an expression comes to a cell or to the first trap, from left to
-- right, and only a whole operand waits for a value. Nothing here knows of what is round an open place.
use Rattle.std.specs.Prelude.{ℤ, pos, List, [], ◌∷◌, Result, Ok, Err}
use Rattle.ac_base.specs.declared.ends.Trap.{Trap}
use Rattle.ac_tree.specs.declared.expr.BinaryOp.{BinaryOp}
use Rattle.ac_tree.specs.declared.expr.BinaryOp.TheVariants as b
use Rattle.work_item.specs.declared.ids.FrameId.{FrameId}
use Rattle.work_item.specs.declared.cell.Place as cells
use Rattle.work_item.specs.declared.cell.Cell.{Cell}
use Rattle.work_item.specs.declared.cell.Cell.TheVariants as c
use Rattle.work_item.specs.Store.{Store, no_int, int_in}
use Rattle.core_state.specs.Arithmetic.{Computed, at_zero, truth}
use Rattle.core_state.specs.Frames.{element, part_at}
use Rattle.ac_commands.specs.declared.value.Action.{Action}
use Rattle.ac_commands.specs.declared.value.Value.{Value, out-Value, fold-Value}
use Rattle.ac_commands.specs.declared.value.ValueLink.{ValueLink}
use Rattle.ac_commands.specs.declared.value.Value.TheOpen.{Value-F, ValueLink-F}
use Rattle.ac_commands.specs.declared.command.Command.{Command, out-Command}
use Rattle.ac_commands.specs.declared.program.Resolved.{Resolved}
use Rattle.ac_semantics.specs.Evaluation.{variable, reference, array, unary, operate, Acting, Ending, Operands, Stops}
use Rattle.ac_semantics.specs.Held.{Held}
use Rattle.ac_semantics.specs.Work.{Work}
use Rattle.ac_semantics.specs.Statements.{Next, or_trap, operands_of, finish, settles}

-- ---- expressions

abbrev pub Plain : Type 0
Plain = Result Cell Trap

abbrev pub and_then : {A B : Type 0} → Result A Trap → (A → Result B Trap) → Result B Trap
and_then (Ok x) f = f x
and_then (Err trap) f = Err trap

abbrev pub int : Computed → Plain
int x = and_then x (λ n. Ok (c.Int n))

abbrev pub part : Result cells.Place Trap → Plain
part x = and_then x (λ place. Ok (c.Array place))

-- one operator: the left operand of `||` and `&&` may decide alone
abbrev pub joined : BinaryOp → ℤ → Plain → Computed
joined b.Or x right = at_zero x (and_then right (λ y. Ok (truth (int_in y)))) (Ok (pos 1))
joined b.And x right = at_zero x (Ok (pos 0)) (and_then right (λ y. Ok (truth (int_in y))))
joined op x right = and_then right (λ y. operate op x (int_in y))

-- a chain groups to the left
abbrev pub chained : Cell → List (BinaryOp × Plain) → Plain
chained x [] = Ok x
chained x (l ∷ links) = and_then (joined l.0 (int_in x) l.1) (λ n. chained (c.Int n) links)

-- a call or an operation is never asked for its value
abbrev pub value_step : Store → FrameId → Value-F Plain (BinaryOp × Plain) → Plain
value_step s frame (Value-F.Number value) = Ok (c.Int value)
value_step s frame (Value-F.Variable place) = Ok (variable s frame place)
value_step s frame (Value-F.Reference whole) = Ok (reference s frame whole)
value_step s frame (Value-F.Element whole index) = and_then index (λ y. int (element s (array s frame whole) (int_in y)))
value_step s frame (Value-F.Part whole index) = and_then index (λ y. part (part_at (array s frame whole) (int_in y)))
value_step s frame (Value-F.Unary op operand) = and_then operand (λ x. Ok (c.Int (unary op (int_in x))))
value_step s frame (Value-F.Chain first rest) = and_then first (λ x. chained x rest)
value_step s frame (Value-F.Act action operands) = Ok no_int

abbrev pub link_step : ValueLink-F Plain (BinaryOp × Plain) → BinaryOp × Plain
link_step link = (link.op, link.operand)

abbrev pub plain_value : Store → FrameId → Value → Plain
plain_value s frame = fold-Value Plain (BinaryOp × Plain) (value_step s frame) link_step

-- operands from left to right, after those that have come; the last is the first
abbrev pub plain_row : Store → FrameId → List Cell → List Value → Result (List Cell) Trap
plain_row s frame operands [] = Ok operands
plain_row s frame operands (x ∷ xs) = and_then (plain_value s frame x) (λ y. plain_row s frame (y ∷ operands) xs)

-- ---- statements

-- what is left of a row
abbrev pub rest_of : List Value → List Value
rest_of [] = []
rest_of (x ∷ xs) = xs

abbrev pub waits_for : Command → List Value
waits_for command = rest_of (operands_of (out-Command command))

module _ (program : Resolved) (command : Command) (frame : FrameId) (ws : List Work) (s : Held) where
  -- it is finished, after the operands that have come and the rest
  abbrev pub ends_plainly : List Cell → List Value → Next
  ends_plainly operands rest = or_trap s (plain_row s.store frame operands rest) (λ all. finish program command all frame ws s)

  -- an action starts, and the statement waits with the rest of its operands
  abbrev pub acts_plainly : Action → List Value → List Value → Next
  acts_plainly action operands rest =
      or_trap s (plain_row s.store frame [] operands)
      (λ cells. settles program command frame ws s (Stops (Acting action) cells (Operands Ending [] rest ∷ [])))

  -- by the form of the first operand
  abbrev pub begins_plainly : Value-F Value ValueLink → Value → List Value → Next
  begins_plainly (Value-F.Act action operands) x rest = acts_plainly action operands rest
  begins_plainly _ x rest = ends_plainly [] (x ∷ rest)

  abbrev pub goes_plainly : List Value → Next
  goes_plainly [] = ends_plainly [] []
  goes_plainly (x ∷ rest) = begins_plainly (out-Value x) x rest

  abbrev pub plain_does : Next
  plain_does = goes_plainly (operands_of (out-Command command))

  -- the value of its first operand has come
  abbrev pub plain_goes_on : Cell → Next
  plain_goes_on value = ends_plainly (value ∷ []) (waits_for command)

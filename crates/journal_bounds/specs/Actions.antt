-- How many calls and operations an expression has, and how many a statement of a program has at most, those in it not counted.
use Rattle.std.specs.Prelude.{ℕ, ◌+◌, max, List, [], ◌∷◌, map, Option, Some, None}
use Rattle.ac_commands.specs.declared.value.Value.{Value, fold-Value}
use Rattle.ac_commands.specs.declared.value.Value.TheOpen.{Value-F, ValueLink-F}
use Rattle.ac_commands.specs.declared.command.Command.{Command, fold-Command}
use Rattle.ac_commands.specs.declared.command.Command.TheOpen.{Command-F}
use Rattle.ac_commands.specs.declared.program.Function.{Function}
use Rattle.ac_commands.specs.declared.program.Resolved.{Resolved}
use Rattle.ac_semantics.specs.Statements.{operands_of}

abbrev pub total : List ℕ → ℕ
total [] = 0
total (n ∷ ns) = n + total ns

abbrev pub greatest : List ℕ → ℕ
greatest [] = 0
greatest (n ∷ ns) = max n (greatest ns)

-- ---- expressions

abbrev pub value_step : Value-F ℕ ℕ → ℕ
value_step (Value-F.Number value) = 0
value_step (Value-F.Variable place) = 0
value_step (Value-F.Reference array) = 0
value_step (Value-F.Element array index) = index
value_step (Value-F.Part array index) = index
value_step (Value-F.Unary op operand) = operand
value_step (Value-F.Chain first rest) = first + total rest
value_step (Value-F.Act action operands) = 1 + total operands

abbrev pub link_step : ValueLink-F ℕ ℕ → ℕ
link_step link = link.operand

abbrev pub actions_in : Value → ℕ
actions_in = fold-Value ℕ ℕ value_step link_step

abbrev pub actions_of : List Value → ℕ
actions_of xs = total (map actions_in xs)

-- ---- statements

abbrev pub most_of_some : Option (List ℕ) → ℕ
most_of_some None = 0
most_of_some (Some ns) = greatest ns

-- the most that a statement within this one has
abbrev pub most_within : Command-F ℕ → ℕ
most_within (Command-F.If test body other) = max (greatest body) (most_of_some other)
most_within (Command-F.While test body) = greatest body
most_within (Command-F.For test next body) = max (greatest next) (greatest body)
most_within (Command-F.Do slot body) = greatest body
most_within (Command-F.Async slots body) = greatest body
most_within _ = 0

abbrev pub command_step : Command-F ℕ → ℕ
command_step x = max (actions_of (operands_of x)) (most_within x)

-- the most that this statement has in its own expressions, or one within it
abbrev pub most_in : Command → ℕ
most_in = fold-Command ℕ command_step

abbrev pub most_of : List Command → ℕ
most_of body = greatest (map most_in body)

-- ---- the whole

abbrev pub most_in_function : Function → ℕ
most_in_function f = most_of f.body

abbrev pub most_actions : Resolved → ℕ
most_actions program = greatest (map most_in_function program.functions)

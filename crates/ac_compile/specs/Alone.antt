-- The same of a program without its names: how many of its calls and operations are nested.
use Rattle.std.specs.Prelude.{◌≡◌, ℕ, ◌+◌, List, [], ◌∷◌, map, Option, None, Some}
use Rattle.ac_tree.specs.Weight.{total}
use Rattle.ac_commands.specs.declared.value.Value.{Value, fold-Value}
use Rattle.ac_commands.specs.declared.value.Value.TheOpen.{Value-F, ValueLink-F}
use Rattle.ac_commands.specs.declared.command.Command.{Command, fold-Command}
use Rattle.ac_commands.specs.declared.command.Command.TheOpen.{Command-F}
use Rattle.ac_commands.specs.declared.program.Function.{Function}
use Rattle.ac_commands.specs.declared.program.Resolved.{Resolved}
use Rattle.ac_semantics.specs.Statements.{target_operands, some_operand, operands_of}
use Rattle.ac_compile.specs.StandAlone.{Acts, no_act, one_act, total_acts}

-- ---- expressions

abbrev pub value_step : Value-F Acts ℕ → Acts
value_step (Value-F.Number value) = no_act 0
value_step (Value-F.Variable place) = no_act 0
value_step (Value-F.Reference array) = no_act 0
value_step (Value-F.Element array index) = no_act index.all
value_step (Value-F.Part array index) = no_act index.all
value_step (Value-F.Unary op operand) = no_act operand.all
value_step (Value-F.Chain first rest) = no_act (first.all + total rest)
value_step (Value-F.Act action operands) = one_act (total_acts operands)

abbrev pub link_step : ValueLink-F Acts ℕ → ℕ
link_step link = link.operand.all

abbrev pub acts : Value → Acts
acts = fold-Value Acts ℕ value_step link_step

abbrev pub all_acts : List Value → ℕ
all_acts xs = total_acts (map acts xs)

-- ---- statements

-- operands of which the first may be a call or an operation
abbrev pub after_act : List Value → ℕ
after_act [] = 0
after_act (x ∷ xs) = (acts x).nested + all_acts xs

-- in its own expressions
abbrev pub own_nested : {A : Type 0} → Command-F A → ℕ
own_nested (Command-F.Set target value) = after_act (value ∷ target_operands target)
own_nested (Command-F.Run value) = after_act (value ∷ [])
own_nested (Command-F.Return value) = after_act (some_operand value)
own_nested x = all_acts (operands_of x)

abbrev pub total_others : Option (List ℕ) → ℕ
total_others None = 0
total_others (Some ns) = total ns

abbrev pub nested_within : Command-F ℕ → ℕ
nested_within (Command-F.If test body other) = total body + total_others other
nested_within (Command-F.While test body) = total body
nested_within (Command-F.For test next body) = total next + total body
nested_within (Command-F.Do slot body) = total body
nested_within (Command-F.Async slots body) = total body
nested_within _ = 0

abbrev pub command_step : Command-F ℕ → ℕ
command_step x = own_nested x + nested_within x

abbrev pub command_nested : Command → ℕ
command_nested = fold-Command ℕ command_step

-- each call and each operation in it stands alone
abbrev pub IsAlone : Command → Type 0
IsAlone command = command_nested command ≡ 0

-- ---- programs

abbrev pub body_nested : List Command → ℕ
body_nested body = total (map command_nested body)

abbrev pub function_nested : Function → ℕ
function_nested f = body_nested f.body

abbrev pub AreAlone : Resolved → Type 0
AreAlone program = total (map function_nested program.functions) ≡ 0

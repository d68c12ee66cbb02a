-- Programs that are well formed: each statement stands within what it needs round it, and each operation has as many operands as it takes.
-- What the simulation asks of a program, and no more; that each program that breaks no rule is so is shown in `ac_compile` (Formed).
use Rattle.std.proofs.Common.{refl}
use Rattle.std.specs.Prelude.{◌≡◌, ℕ, List, [], ◌∷◌, length, map, Option, Some, None, Bool, true, false, not, ◌&&◌, nat_eq, slice_get}
use Rattle.ac_commands.specs.declared.value.Action.{Action}
use Rattle.ac_commands.specs.declared.value.Action.TheVariants.{Call, Send, Recv, Read, Write}
use Rattle.ac_commands.specs.declared.value.Value.{Value, roll-Value, map-Value, fold-Value, fold-roll-Value}
use Rattle.ac_commands.specs.declared.value.ValueLink.{ValueLink, fold-ValueLink, fold-roll-ValueLink}
use Rattle.ac_commands.specs.declared.value.Value.TheOpen.{Value-F, ValueLink-F}
use Rattle.ac_commands.specs.declared.command.Command.{Command, fold-Command}
use Rattle.ac_commands.specs.declared.command.Command.TheOpen.{Command-F}
use Rattle.ac_commands.specs.declared.program.Function.{Function}
use Rattle.ac_commands.specs.declared.program.Resolved.{Resolved}
use Rattle.ac_semantics.specs.Statements.{operands_of}

-- ---- expressions

-- an operation on a channel takes one operand, and one of a file a place in the file, a length and an array
abbrev pub takes : Action → ℕ → Bool
takes (Call function) count = true
takes (Send channel) count = nat_eq count 1
takes (Recv channel) count = nat_eq count 1
takes (Read file) count = nat_eq count 3
takes (Write file) count = nat_eq count 3

abbrev pub all_true : List Bool → Bool
all_true [] = true
all_true (x ∷ xs) = x && all_true xs

-- each action in an expression has as many operands as it takes
abbrev pub fits_step : Value-F Bool Bool → Bool
fits_step (Value-F.Element array index) = index
fits_step (Value-F.Part array index) = index
fits_step (Value-F.Unary op operand) = operand
fits_step (Value-F.Chain first rest) = first && all_true rest
fits_step (Value-F.Act action operands) = takes action (length operands) && all_true operands
fits_step _ = true

abbrev pub link_fits_step : ValueLink-F Bool Bool → Bool
link_fits_step link = link.operand

abbrev pub fits : Value → Bool
fits = fold-Value Bool Bool fits_step link_fits_step

abbrev pub link_fits : ValueLink → Bool
link_fits = fold-ValueLink Bool Bool fits_step link_fits_step

abbrev pub all_fit : List Value → Bool
all_fit xs = all_true (map fits xs)

abbrev pub links_fit : List ValueLink → Bool
links_fit links = all_true (map link_fits links)

-- they go by the form of an expression, and a right operand fits as an expression does
pub fits_form : (x : Value-F Value ValueLink) → fits (roll-Value x) ≡ fits_step (map-Value Value ValueLink Bool Bool fits link_fits x)
fits_form = fold-roll-Value Bool Bool fits_step link_fits_step

pub link_fits_form : (l : ValueLink) → link_fits l ≡ fits l.operand
link_fits_form l = fold-roll-ValueLink Bool Bool fits_step link_fits_step (record { op = l.op; operand = l.operand })

pub both_true : (a b : Bool) → a && b ≡ true → (a ≡ true) × (b ≡ true)
both_true true b e = (refl, e)
both_true false b e = cc

-- ---- statements

-- what is round a statement: a loop that stands in the same body, and a `do` of its function
pub record Round : Type 0 where
  pub loop : Bool
  pub block : Bool

abbrev pub in_function : Round
in_function = record { loop = false; block = false }

abbrev pub in_loop : Round → Round
in_loop x = record x { loop = true }

-- in a `do`, and in an async body, which stands in one
abbrev pub in_block : Round
in_block = record { loop = false; block = true }

abbrev pub each : List (Round → Bool) → Round → Bool
each [] round = true
each (x ∷ xs) round = x round && each xs round

abbrev pub each_other : Option (List (Round → Bool)) → Round → Bool
each_other None round = true
each_other (Some xs) round = each xs round

-- A statement in what is round it: `break` and `continue` stand in loops, `async` stands in a `do`, and `return` in none.
abbrev pub placed_step : Command-F (Round → Bool) → Round → Bool
placed_step (Command-F.If test body other) round = each body round && each_other other round
placed_step (Command-F.While test body) round = each body (in_loop round)
placed_step (Command-F.For test next body) round = each body (in_loop round) && each next round
placed_step Command-F.Break round = round.loop
placed_step Command-F.Continue round = round.loop
placed_step (Command-F.Return value) round = not round.block
placed_step (Command-F.Do slot body) round = each body in_block
placed_step (Command-F.Async slots body) round = round.block && each body in_block
placed_step _ round = true

abbrev pub well_formed_step : Command-F (Round → Bool) → Round → Bool
well_formed_step x round = all_fit (operands_of x) && placed_step x round

abbrev pub is_well_formed : Command → Round → Bool
is_well_formed = fold-Command (Round → Bool) well_formed_step

abbrev pub are_well_formed : List Command → Round → Bool
are_well_formed body = each (map is_well_formed body)

-- the body of each function is well formed
pub record IsWellFormed (program : Resolved) : Type 0 where
  pub bodies : (number : ℕ) (function : Function) → slice_get program.functions number ≡ Some function → are_well_formed function.body in_function ≡ true

-- Several instructions of a running core at once.
use Rattle.std.specs.Prelude.{ℕ, ℤ, pos, ◌+◌, List, ◌∷◌, drop, Bool, true, false, ◌&&◌, Option, Some, Ok, option_map}
use Rattle.work_item.specs.declared.cell.Cell.{Cell}
use Rattle.work_item.specs.declared.cell.Cell.TheVariants as cell
use Rattle.core_state.specs.Moves.{GoesOn}
use Rattle.core_state.specs.Arithmetic.{Computed}
use Rattle.stack_code.specs.declared.instr.Instr.{Instr}
use Rattle.code_meaning.specs.Machine.{exec, counted}
use Rattle.replay_laws.specs.Given.{Passes}
use Rattle.core_machine.specs.declared.running.Running.{Running}
use Rattle.core_machine.specs.State.{state_of}
use Rattle.core_machine.specs.inner.Changes.{Does}
use Rattle.core_machine.specs.inner.Operands.{int_below}
use Rattle.core_machine.specs.inner.Operators.{binary, is_comparison, is_jump}

-- some instructions, or none, lead from the one to the other, and before none of them could an entry come in
pub record IsLed (before after : Running) : Type 0 where
  pub goes : GoesOn (exec before.code.now before.bound) (state_of before) (state_of after)
  pub passes : (turn : ℕ) → (k : ℕ) × Passes before.code.now before.bound turn k (state_of before) (state_of after)

-- ---- what some instructions done at once hand on from one to the next

-- on to the next address, with these operands
abbrev pub onward : Running → List Cell → Running
onward m operands = record m { operands = operands; place = m.place + 1; count = counted m.count }

-- an int was pushed
abbrev pub pushed : Running → ℤ → Running
pushed m value = onward m (cell.Int value ∷ m.operands)

-- what was computed, and 0 at a trap
abbrev pub int_or_none : Option Computed → ℤ
int_or_none (Some (Ok value)) = value
int_or_none _ = pos 0

-- an operator was applied to the two ints on top
abbrev pub applied : Running → Instr → Running
applied m instr =
    let given = option_map (λ f. f (int_below m.operands 1) (int_below m.operands 0)) (binary instr) in
    onward m (cell.Int (int_or_none given) ∷ drop 2 m.operands)

-- this instruction was done, or it and the one behind it
abbrev pub DoesSome : Bool → Running → Instr → Instr → Running → Type 0
DoesSome true m instr next after = Does (applied m instr) next after
DoesSome false m instr next after = Does m instr after

-- this instruction was done, and the one behind it too where the first compares and the second jumps at 0
abbrev pub DoesOn : Running → Instr → Instr → Running → Type 0
DoesOn m instr next after = DoesSome (is_comparison instr && is_jump next) m instr next after

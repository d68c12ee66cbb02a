-- What contracts see of a code.
use Rattle.std.specs.Prelude.{◌≡◌, ℕ, List, Some, slice_get}
use Rattle.stack_code.specs.declared.instr.Instr.{Instr}
use Rattle.stack_code.specs.declared.parts.Entered.{Entered}
use Rattle.stack_code.specs.declared.parts.ChannelEnds.{ChannelEnds}
use Rattle.stack_code.specs.declared.parts.Start.{Start}

pub record Parts : Type 0 where
  pub instrs : List Instr
  pub functions : List Entered
  pub texts : List (List ℕ)
  -- the function that each core enters
  pub entries : List ℕ
  pub names : List (List ℕ)
  -- how many slots the globals have
  pub globals : ℕ
  -- of each link
  pub capacities : List ℕ
  -- the two cores of each channel
  pub ends : List ChannelEnds
  -- the globals that start with something else than 0
  pub starts : List Start
  -- how many ints a message of each channel has
  pub widths : List ℕ

-- a core begins with this function
pub record Begins (code : Parts) (core : ℕ) (function : Entered) : Type 0 where
  pub entry : ℕ
  pub entry_is : slice_get code.entries core ≡ Some entry
  pub function_is : slice_get code.functions entry ≡ Some function

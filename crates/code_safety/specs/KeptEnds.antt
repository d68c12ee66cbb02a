-- What a core of a code reaches, and codes in which each core uses a channel only at its own end.
use Rattle.std.specs.Prelude.{◌≡◌, ℕ, List, [], ◌∷◌, length, map, All, Option, Some, None, slice_get, slice_index}
use Rattle.cancel_scope.specs.declared.operation.Asked.{Asked}
use Rattle.cancel_scope.specs.declared.operation.Asked.TheVariants as asked
use Rattle.cancel_scope.specs.declared.operation.Operation.{Operation}
use Rattle.core_state.specs.Shared.{request_link}
use Rattle.stack_code.specs.declared.instr.Instr.{Instr}
use Rattle.stack_code.specs.declared.instr.Instr.TheVariants as i
use Rattle.stack_code.specs.declared.parts.ChannelEnds.{ChannelEnds}
use Rattle.stack_code.specs.declared.shape.Home.{Home}
use Rattle.stack_code.specs.declared.shape.Home.TheVariants as home
use Rattle.stack_code.specs.declared.shape.Body.{Body}
use Rattle.stack_code.specs.declared.shape.Shape.{Shape}
use Rattle.stack_code.specs.Parts.{Parts}
use Rattle.stack_code.specs.Valid.{Reaches}
use Rattle.code_meaning.specs.Machine.{Flat}
use Rattle.code_safety.specs.Fit.{IsFit}

-- ---- what a core reaches

-- whose the outermost of these bodies is
abbrev pub outermost : List Body → Option Home
outermost [] = None
outermost (body ∷ []) = Some body.home
outermost (_ ∷ bodies) = outermost bodies

-- the address lies in that function: some way leads there, and its body is the outermost one round the address
pub record LiesIn (code : Parts) (at function : ℕ) : Type 0 where
  pub shape : Shape
  pub reached : Reaches code at shape
  pub round : outermost shape.bodies ≡ Some (home.Function function)

-- a core reaches the function that it enters, and each that is called in a function which it reaches
pub data ReachesFunction (code : Parts) (core : ℕ) : ℕ → Type 0 where
  enters : (function : ℕ) → slice_get code.entries core ≡ Some function → ReachesFunction code core function
  calls : (caller function at count : ℕ) → ReachesFunction code core caller → LiesIn code at caller
      → slice_get code.instrs at ≡ Some (i.Call function count) → ReachesFunction code core function

-- the instruction stands in a function that the core reaches
pub record ReachesInstr (code : Parts) (core : ℕ) (instr : Instr) : Type 0 where
  pub function : ℕ
  pub reaches : ReachesFunction code core function
  pub at : ℕ
  pub lies : LiesIn code at function
  pub stands : slice_get code.instrs at ≡ Some instr

-- ---- the ends of channels

-- messages come into the channel from that core
pub record IsSender (code : Parts) (core channel : ℕ) : Type 0 where
  pub ends : ChannelEnds
  pub there : slice_get code.ends channel ≡ Some ends
  pub from : ends.from ≡ core

-- that core takes messages from the channel
pub record IsReceiver (code : Parts) (core channel : ℕ) : Type 0 where
  pub ends : ChannelEnds
  pub there : slice_get code.ends channel ≡ Some ends
  pub to : ends.to ≡ core

pub record KeepsEnds (code : Parts) : Type 0 where
  pub sends : (core channel : ℕ) → ReachesInstr code core (i.Send channel) → IsSender code core channel
  pub receives : (core channel : ℕ) → ReachesInstr code core (i.Recv channel) → IsReceiver code core channel

-- ---- the operations of a core

-- the link is that on which the core asks for reads and writes of files
abbrev pub IsOwnLink : Parts → ℕ → ℕ → Type 0
IsOwnLink code core link = link ≡ request_link (length code.ends) core

-- the core is that end of the link at which the operation is started
abbrev pub IsAtEnd : Parts → ℕ → ℕ → Asked → Type 0
IsAtEnd code core link (asked.Send value) = IsSender code core link
IsAtEnd code core link (asked.Recv place) = IsReceiver code core link
IsAtEnd code core link (asked.Read file from into) = IsOwnLink code core link
IsAtEnd code core link (asked.Write file from bytes) = IsOwnLink code core link

abbrev pub AreAtEnds : Parts → ℕ → List Operation → Type 0
AreAtEnds code core operations = All (λ (o : Operation). IsAtEnd code core o.link o.asked) operations

-- ---- the state of a core

-- the code in which every core enters the function that this one enters
abbrev pub each_as : Parts → ℕ → Parts
each_as code core = record code { entries = map (λ (entry : ℕ). slice_index code.entries core) code.entries }

-- The core can stand so: where its threads are this core reaches, it asks for reads and writes on its own link, and each operation that has
-- not ended is at its own end.
pub record KeepsOwnEnds (code : Parts) (core : ℕ) (m : Flat) : Type 0 where
  pub fit : IsFit (each_as code core) m
  pub requests : IsOwnLink code core m.shared.requests
  pub operations : AreAtEnds code core m.operations

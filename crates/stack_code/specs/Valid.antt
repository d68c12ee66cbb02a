-- Valid code: a machine that runs it never leaves it, never lacks an operand or a slot, and takes a step from time to time.
use Rattle.std.specs.Prelude.{◌≡◌, ◌≢◌, ℕ, ◌+◌, ◌^◌, ◌<◌, ◌≤◌, pos, [], length, map, All}
use Rattle.std.specs.Prelude.{Option, Some, None, Bool, true, false, slice_get, option_map}
use Rattle.std.specs.List.Sorted.{IsStrictlyIncreasing}
use Rattle.stack_code.specs.declared.instr.Instr.{Instr}
use Rattle.stack_code.specs.declared.instr.Instr.TheVariants as i
use Rattle.stack_code.specs.declared.parts.Entered.{Entered}
use Rattle.stack_code.specs.declared.parts.ChannelEnds.{ChannelEnds}
use Rattle.stack_code.specs.declared.parts.Start.{Start}
use Rattle.stack_code.specs.declared.shape.Home.{Home}
use Rattle.stack_code.specs.declared.shape.Body.{Body}
use Rattle.stack_code.specs.declared.shape.Shape.{Shape}
use Rattle.stack_code.specs.declared.shape.Leads.{Leads}
use Rattle.stack_code.specs.Parts.{Parts, Begins}
use Rattle.stack_code.specs.Shapes.{first, effect, LeadsTo, params_of, is_array}

-- ---- ways

-- an instruction stands at the address, finds in the shape what it needs, and leads on so
pub record Fits (code : Parts) (at : ℕ) (s : Shape) : Type 0 where
  pub instr : Instr
  pub leads : Leads
  pub here : slice_get code.instrs at ≡ Some instr
  pub finds : effect code at instr s ≡ Some leads

-- it may go on to that address, which then has this shape
pub record Goes (code : Parts) (at : ℕ) (s : Shape) (to : ℕ) (t : Shape) : Type 0 where
  pub fits : Fits code at s
  pub leads : LeadsTo fits.leads to t

-- some way from the entry of a core leads to the address and gives it this shape
pub data Reaches (code : Parts) : ℕ → Shape → Type 0 where
  begins : (core : ℕ) (function : Entered) (entry : Begins code core function) → Reaches code function.at (first entry.entry function)
  goes : (at : ℕ) (s : Shape) (to : ℕ) (t : Shape) → Reaches code at s → Goes code at s to t → Reaches code to t

-- what is reached lies in the code, finds what it needs, and has one shape
pub record IsShaped (code : Parts) : Type 0 where
  pub fits : (at : ℕ) (s : Shape) → Reaches code at s → Fits code at s
  pub same : (at : ℕ) (s t : Shape) → Reaches code at s → Reaches code at t → s ≡ t

-- an address that is reached goes on to another, and is no `Step`
pub record Quiet (code : Parts) (at to : ℕ) : Type 0 where
  pub shape : Shape
  pub next : Shape
  pub reached : Reaches code at shape
  pub goes : Goes code at shape to next
  pub no_step : slice_get code.instrs at ≡ Some i.Step → ⊥

-- a way that passes no `Step`
pub data QuietWay (code : Parts) : ℕ → ℕ → Type 0 where
  one : (at to : ℕ) → Quiet code at to → QuietWay code at to
  more : (at next to : ℕ) → Quiet code at next → QuietWay code next to → QuietWay code at to

-- every way that leads from an address back to it passes a `Step`
abbrev pub TakesSteps : Parts → Type 0
TakesSteps code = (at : ℕ) → QuietWay code at at → ⊥

-- ---- slots

pub data Use : Type 0 where
  AsInt : Use
  AsReference : Use
  AsBlock : Use

abbrev pub use_of : Bool → Use
use_of true = AsReference
use_of false = AsInt

-- so many slots from that one on, of the frame so many levels up
pub record Slots : Type 0 where
  pub level : ℕ
  pub slot : ℕ
  pub len : ℕ

-- the slots that an instruction sets, or makes an array of
abbrev pub ints_of : Instr → Option Slots
ints_of (i.Store level slot) = Some (record { level = level; slot = slot; len = 1 })
ints_of (i.Arr level slot len) = Some (record { level = level; slot = slot; len = len })
ints_of (i.Clear slot len) = Some (record { level = 0; slot = slot; len = len })
ints_of _ = None

abbrev pub home_at : Shape → ℕ → Option Home
home_at s level = option_map (λ (body : Body). body.home) (slice_get s.bodies level)

-- what the code uses a slot of that body's frame for
pub data Uses (code : Parts) (home : Home) (slot : ℕ) : Use → Type 0 where
  -- a parameter is a reference where it is an array, and else an int
  param : (array : Bool) → slice_get (params_of code home) slot ≡ Some array → Uses code home slot (use_of array)
  loads : (at level : ℕ) (s : Shape) → Reaches code at s → slice_get code.instrs at ≡ Some (i.Load level slot) → home_at s level ≡ Some home
      → Uses code home slot (use_of (is_array code home slot))
  sets : (at : ℕ) (s : Shape) (instr : Instr) (slots : Slots) → Reaches code at s → slice_get code.instrs at ≡ Some instr
      → ints_of instr ≡ Some slots → home_at s slots.level ≡ Some home → slots.slot ≤ slot → slot < slots.slot + slots.len
      → Uses code home slot AsInt
  enters : (at : ℕ) (s : Shape) → Reaches code at s → slice_get code.instrs at ≡ Some (i.Enter slot) → home_at s 0 ≡ Some home
      → Uses code home slot AsBlock

-- each slot of a frame has one use
abbrev pub HasOneUse : Parts → Type 0
HasOneUse code = (home : Home) (slot : ℕ) (u v : Use) → Uses code home slot u → Uses code home slot v → u ≡ v

-- ---- lists

-- a function without parameters
pub record IsEntry (code : Parts) (number : ℕ) : Type 0 where
  pub function : Entered
  pub is : slice_get code.functions number ≡ Some function
  pub plain : function.params ≡ []

-- 1 to 16 cores, each with a name and a function that it enters
pub record HasCores (code : Parts) : Type 0 where
  pub some : 1 ≤ length code.entries
  pub few : length code.entries ≤ 16
  pub named : length code.names ≡ length code.entries
  pub enters : All (IsEntry code) code.entries

-- the capacity of a link
abbrev pub IsCapacity : ℕ → Type 0
IsCapacity capacity = (1 ≤ capacity) × (capacity ≤ 64)

-- the width of a channel
abbrev pub IsWidth : ℕ → Type 0
IsWidth width = (1 ≤ width) × (width ≤ 16)

-- two cores
abbrev pub IsChannel : Parts → ChannelEnds → Type 0
IsChannel code ends = (ends.from < length code.entries) × (ends.to < length code.entries) × (ends.from ≢ ends.to)

-- one link per channel, and then one per core
pub record HasLinks (code : Parts) : Type 0 where
  pub few : length code.capacities < 2 ^ 32
  pub each : length code.capacities ≡ length code.ends + length code.entries
  pub capacities : All IsCapacity code.capacities
  pub channels : All (IsChannel code) code.ends
  pub wide : length code.widths ≡ length code.ends
  pub widths : All IsWidth code.widths

-- a global that starts with something else than 0
abbrev pub IsStart : Parts → Start → Type 0
IsStart code start = (start.slot < code.globals) × (start.value ≢ pos 0)

pub record HasStarts (code : Parts) : Type 0 where
  pub rising : IsStrictlyIncreasing (map (λ (start : Start). start.slot) code.starts)
  pub starts : All (IsStart code) code.starts

-- the frame has a slot for each parameter
abbrev pub HasRoom : Entered → Type 0
HasRoom function = length function.params ≤ function.words

pub record HasLists (code : Parts) : Type 0 where
  pub few : length code.instrs < 2 ^ 32
  pub cores : HasCores code
  pub links : HasLinks code
  pub starts : HasStarts code
  pub functions : All HasRoom code.functions

-- ---- the whole

pub record IsValid (code : Parts) : Type 0 where
  pub lists : HasLists code
  pub shaped : IsShaped code
  pub one_use : HasOneUse code
  pub steps : TakesSteps code

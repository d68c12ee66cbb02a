-- Programs without names in which whatever is named is there and is what it is used for: slots, functions, channels, files and texts.
use Rattle.std.specs.Prelude.{◌≡◌, ◌≢◌, ℕ, zero, suc, ◌+◌, ◌<◌, ◌≤◌, ℤ, Bool, true}
use Rattle.std.specs.Prelude.{false, List, [], ◌∷◌, ◌++◌, length, map, Option, Some, None, nat_eq, slice_get}
use Rattle.std.specs.List.{list_any}
use Rattle.ac_tree.specs.declared.expr.UnaryOp.{UnaryOp}
use Rattle.ac_types.specs.Formats.{HasHoles}
use Rattle.ac_commands.specs.declared.value.Place.{Place}
use Rattle.ac_commands.specs.declared.value.Place.TheVariants as p
use Rattle.ac_commands.specs.declared.value.Array.{Array}
use Rattle.ac_commands.specs.declared.value.Array.TheVariants as a
use Rattle.ac_commands.specs.declared.value.Action.{Action}
use Rattle.ac_commands.specs.declared.value.Action.TheVariants as act
use Rattle.ac_commands.specs.declared.value.Value.{Value}
use Rattle.ac_commands.specs.declared.value.Value.TheVariants as v
use Rattle.ac_commands.specs.declared.value.ValueLink.{ValueLink}
use Rattle.ac_commands.specs.declared.command.Target.{Target}
use Rattle.ac_commands.specs.declared.command.Target.TheVariants as t
use Rattle.ac_commands.specs.declared.command.Command.{Command}
use Rattle.ac_commands.specs.declared.command.Command.TheVariants as c
use Rattle.ac_commands.specs.declared.program.Function.{Function}
use Rattle.ac_commands.specs.declared.program.Channel.{Channel}
use Rattle.ac_commands.specs.declared.program.Core.{Core}
use Rattle.ac_commands.specs.declared.program.Start.{Start}
use Rattle.ac_commands.specs.declared.program.Resolved.{Resolved}

-- ---- what is round a statement

-- what a slot of a frame holds
pub data Use : Type 0 where
  AsInt : Use
  -- a reference to an array: a parameter's
  AsReference : Use
  -- a block that was entered
  AsBlock : Use

abbrev pub use_of : Bool → Use
use_of true = AsReference
use_of false = AsInt

-- no slot holds a reference: only a parameter's does
abbrev pub NoReferences : List Use → Type 0
NoReferences uses = (slot : ℕ) → slice_get uses slot ≡ Some AsReference → ⊥

-- a frame by what its slots hold, and the slots of the blocks that are entered round the statement in the body of this frame
pub record FrameRound : Type 0 where
  pub uses : List Use
  pub entered : List ℕ

pub record Round : Type 0 where
  -- its frame, and each frame round it, the innermost first
  pub frames : List FrameRound
  -- whether a loop of the same body, and a `do` of its function, is round it
  pub loop : Bool
  pub block : Bool

abbrev pub no_frame : FrameRound
no_frame = record { uses = []; entered = [] }

abbrev pub frame_at : List FrameRound → ℕ → FrameRound
frame_at [] level = no_frame
frame_at (f ∷ frames) zero = f
frame_at (f ∷ frames) (suc level) = frame_at frames level

-- what that slot of the frame so many levels up holds
abbrev pub Holds : Round → ℕ → ℕ → Use → Type 0
Holds r level slot what = slice_get (frame_at r.frames level).uses slot ≡ Some what

-- so many slots from that one on hold ints
abbrev pub HoldInts : Round → ℕ → ℕ → ℕ → Type 0
HoldInts r level slot len = (at : ℕ) → slot ≤ at → at < slot + len → Holds r level at AsInt

-- there are so many slots from that one on
abbrev pub HasSlots : Round → ℕ → ℕ → ℕ → Type 0
HasSlots r level slot len = slot + len ≤ length (frame_at r.frames level).uses

abbrev pub is_among : ℕ → List ℕ → Bool
is_among slot slots = list_any (λ x. nat_eq x slot) slots

-- the block in that slot of the frame so many levels up is entered
abbrev pub is_entered : Round → ℕ → ℕ → Bool
is_entered r level slot = is_among slot (frame_at r.frames level).entered

abbrev pub in_loop : Round → Round
in_loop r = record r { loop = true }

abbrev pub with_entered : ℕ → List FrameRound → List FrameRound
with_entered slot [] = []
with_entered slot (f ∷ frames) = record f { entered = slot ∷ f.entered } ∷ frames

-- in a block that is kept in that slot
abbrev pub in_block : ℕ → Round → Round
in_block slot r = record { frames = with_entered slot r.frames; loop = false; block = true }

-- in an async body, whose frame has these slots
abbrev pub in_body : List Use → Round → Round
in_body uses r = record { frames = record { uses = uses; entered = [] } ∷ r.frames; loop = false; block = true }

-- in a function, whose frame has these slots
abbrev pub in_function : List Use → Round
in_function uses = record { frames = record { uses = uses; entered = [] } ∷ []; loop = false; block = false }

-- ---- values

pub data IsPlace (program : Resolved) (r : Round) : Place → Type 0 where
  global : (slot : ℕ) → slot < program.slots → IsPlace program r (p.Global slot)
  local : (level slot : ℕ) → level < length r.frames → Holds r level slot AsInt → IsPlace program r (p.Local level slot)

pub data IsArray (program : Resolved) (r : Round) : Array → Type 0 where
  global_array : (slot len : ℕ) → slot + len ≤ program.slots → IsArray program r (a.Global slot len)
  local_array : (level slot len : ℕ) → level < length r.frames → HasSlots r level slot len → HoldInts r level slot len
      → IsArray program r (a.Local level slot len)
  -- a parameter of the function
  parameter : (level slot : ℕ) → level < length r.frames → Holds r level slot AsReference → IsArray program r (a.Param level slot)

-- what an operand has to be: an int, a reference to an array, a reference to just so many ints, or a message of so many ints
pub data Want : Type 0 where
  AnInt : Want
  AnArray : Want
  Elements : ℕ → Want
  AMessage : ℕ → Want

abbrev pub want_of : Bool → Want
want_of true = AnArray
want_of false = AnInt

-- the reference is to just so many elements; of a parameter that is not known
abbrev pub HasLength : ℕ → Array → Type 0
HasLength count (a.Global slot len) = len ≡ count
HasLength count (a.Local level slot len) = len ≡ count
HasLength count (a.Param level slot) = ⊥

-- what a call or an operation wants
pub data Wants (program : Resolved) : Action → List Want → Type 0 where
  call : (number : ℕ) (function : Function) → slice_get program.functions number ≡ Some function
      → Wants program (act.Call number) (map want_of function.params)
  send : (number : ℕ) (channel : Channel) → slice_get program.channels number ≡ Some channel
      → Wants program (act.Send number) (AMessage channel.width ∷ [])
  recv : (number : ℕ) (channel : Channel) → slice_get program.channels number ≡ Some channel
      → Wants program (act.Recv number) (Elements channel.width ∷ [])
  read : (file : ℕ) → file < length program.files → Wants program (act.Read file) (AnInt ∷ AnInt ∷ AnArray ∷ [])
  write : (file : ℕ) → file < length program.files → Wants program (act.Write file) (AnInt ∷ AnInt ∷ AnArray ∷ [])

mutual
  -- an expression that gives what is wanted
  pub data IsValue (program : Resolved) (r : Round) : Want → Value → Type 0 where
    number : (value : ℤ) → IsValue program r AnInt (v.Number value)
    variable : (place : Place) → IsPlace program r place → IsValue program r AnInt (v.Variable place)
    reference : (array : Array) → IsArray program r array → IsValue program r AnArray (v.Reference array)
    elements : (count : ℕ) (array : Array) → IsArray program r array → HasLength count array
        → IsValue program r (Elements count) (v.Reference array)
    one_int : (x : Value) → IsValue program r AnInt x → IsValue program r (AMessage 1) x
    some_ints : (count : ℕ) (array : Array) → IsArray program r array → HasLength count array
        → IsValue program r (AMessage count) (v.Reference array)
    element : (array : Array) (index : Value) → IsArray program r array → IsValue program r AnInt index
        → IsValue program r AnInt (v.Element array index)
    part : (array : Array) (index : Value) → IsArray program r array → IsValue program r AnInt index
        → IsValue program r (Elements 1) (v.Part array index)
    unary : (op : UnaryOp) (operand : Value) → IsValue program r AnInt operand → IsValue program r AnInt (v.Unary op operand)
    chain : (first : Value) (rest : List ValueLink) → IsValue program r AnInt first → AreLinks program r rest
        → IsValue program r AnInt (v.Chain first rest)
    acts : (action : Action) (wants : List Want) (operands : List Value) → Wants program action wants
        → AreOperands program r wants operands → IsValue program r AnInt (v.Act action operands)

  pub data AreLinks (program : Resolved) (r : Round) : List ValueLink → Type 0 where
    no_link : AreLinks program r []
    one_link : (link : ValueLink) (rest : List ValueLink) → IsValue program r AnInt link.operand → AreLinks program r rest
        → AreLinks program r (link ∷ rest)

  -- just as many as are wanted
  pub data AreOperands (program : Resolved) (r : Round) : List Want → List Value → Type 0 where
    no_operand : AreOperands program r [] []
    one_operand : (want : Want) (wants : List Want) (x : Value) (xs : List Value) → IsValue program r want x
        → AreOperands program r wants xs → AreOperands program r (want ∷ wants) (x ∷ xs)

abbrev pub AreInts : Resolved → Round → List Value → Type 0
AreInts program r [] = Unit {0}
AreInts program r (x ∷ xs) = IsValue program r AnInt x × AreInts program r xs

-- an int, where there is one
pub data IsTest (program : Resolved) (r : Round) : Option Value → Type 0 where
  no_test : IsTest program r None
  some_test : (test : Value) → IsValue program r AnInt test → IsTest program r (Some test)

pub data IsTarget (program : Resolved) (r : Round) : Target → Type 0 where
  to_variable : (place : Place) → IsPlace program r place → IsTarget program r (t.Variable place)
  to_element : (array : Array) (index : Value) → IsArray program r array → IsValue program r AnInt index
      → IsTarget program r (t.Element array index)

-- ---- statements

-- `break` and `continue` stand in a loop, `async` in a `do`, and `return` in none
mutual
  pub data IsCommand (program : Resolved) : Round → Command → Type 0 where
    nothing : (r : Round) → IsCommand program r c.Nothing
    set : (r : Round) (target : Target) (value : Value) → IsTarget program r target → IsValue program r AnInt value
        → IsCommand program r (c.Set target value)
    clear : (r : Round) (slot len : ℕ) → HasSlots r 0 slot len → HoldInts r 0 slot len → IsCommand program r (c.Clear slot len)
    run : (r : Round) (value : Value) → IsValue program r AnInt value → IsCommand program r (c.Run value)
    print : (r : Round) (text : ℕ) (args : List Value) (format : List ℕ) → slice_get program.texts text ≡ Some format
        → HasHoles format (length args) → AreInts program r args → IsCommand program r (c.Print text args)
    if_alone : (r : Round) (test : Value) (body : List Command) → IsValue program r AnInt test → AreCommands program r body
        → IsCommand program r (c.If test body None)
    if_else : (r : Round) (test : Value) (body other : List Command) → IsValue program r AnInt test → AreCommands program r body
        → AreCommands program r other → IsCommand program r (c.If test body (Some other))
    while_loop : (r : Round) (test : Value) (body : List Command) → IsValue program r AnInt test
        → AreCommands program (in_loop r) body → IsCommand program r (c.While test body)
    for_loop : (r : Round) (test : Option Value) (next body : List Command) → IsTest program r test → AreCommands program r next
        → AreCommands program (in_loop r) body → IsCommand program r (c.For test next body)
    leave : (r : Round) → r.loop ≡ true → IsCommand program r c.Break
    go_on : (r : Round) → r.loop ≡ true → IsCommand program r c.Continue
    give : (r : Round) (value : Option Value) → r.block ≡ false → IsTest program r value → IsCommand program r (c.Return value)
    -- no block round it is kept in the same slot
    do_finish : (r : Round) (slot : ℕ) (body : List Command) → Holds r 0 slot AsBlock → is_entered r 0 slot ≡ false
        → AreCommands program (in_block slot r) body → IsCommand program r (c.Do slot body)
    start : (r : Round) (uses : List Use) (body : List Command) → r.block ≡ true → NoReferences uses
        → AreCommands program (in_body uses r) body → IsCommand program r (c.Async (length uses) body)
    cancel : (r : Round) (level slot : ℕ) → level < length r.frames → is_entered r level slot ≡ true
        → IsCommand program r (c.Cancel level slot)
    yield : (r : Round) → IsCommand program r c.Yield

  pub data AreCommands (program : Resolved) : Round → List Command → Type 0 where
    no_command : (r : Round) → AreCommands program r []
    one_command : (r : Round) (x : Command) (xs : List Command) → IsCommand program r x → AreCommands program r xs
        → AreCommands program r (x ∷ xs)

-- ---- programs

-- the function that a core enters has no parameters
pub record IsCore (program : Resolved) (core : Core) : Type 0 where
  pub function : Function
  pub there : slice_get program.functions core.entry ≡ Some function
  pub params : function.params ≡ []

-- two cores, and messages of 1 to 16 ints
pub record IsChannel (program : Resolved) (channel : Channel) : Type 0 where
  pub from : channel.from < length program.cores
  pub to : channel.to < length program.cores
  pub other : channel.from ≢ channel.to
  pub some : 1 ≤ channel.capacity
  pub few : channel.capacity ≤ 64
  pub some_ints : 1 ≤ channel.width
  pub few_ints : channel.width ≤ 16

-- the parameters have the first slots of the frame
pub record IsFunction (program : Resolved) (function : Function) : Type 0 where
  pub others : List Use
  pub own : NoReferences others
  pub slots : function.slots ≡ length function.params + length others
  pub body : AreCommands program (in_function (map use_of function.params ++ others)) function.body

-- the globals that start with something else than 0, from this slot on, each once
abbrev pub AreStarts : ℕ → ℕ → List Start → Type 0
AreStarts from end [] = Unit {0}
AreStarts from end (x ∷ starts) = (from ≤ x.slot) × (x.slot < end) × ((x.value ≡ ℤ.pos 0) → ⊥) × AreStarts (x.slot + 1) end starts

pub record IsInPlace (program : Resolved) : Type 0 where
  pub functions : (number : ℕ) (function : Function) → slice_get program.functions number ≡ Some function → IsFunction program function
  pub some_core : 1 ≤ length program.cores
  pub few_cores : length program.cores ≤ 16
  pub cores : (number : ℕ) (core : Core) → slice_get program.cores number ≡ Some core → IsCore program core
  pub channels : (number : ℕ) (channel : Channel) → slice_get program.channels number ≡ Some channel → IsChannel program channel
  pub few_files : length program.files ≤ 16
  pub starts : AreStarts 0 program.slots program.starts

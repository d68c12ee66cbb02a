-- What an instruction needs, which a core that is fit finds.
use Rattle.std.specs.Prelude.{◌≡◌, ◌≢◌, ℕ, ◌+◌, ◌≤◌, ◌<◌, ◌^◌, List, [], ◌∷◌, length, take, reverse, Option, Some, IfSome, IsSome}
use Rattle.std.specs.Prelude.{Bool, true, false, slice_get}
use Rattle.work_item.specs.declared.ids.Item.{Item}
use Rattle.work_item.specs.declared.ids.BlockId.{BlockId}
use Rattle.work_item.specs.declared.cell.Cell.{Cell}
use Rattle.work_item.specs.Store.{above, cells_of}
use Rattle.work_item.specs.Conditions.{Lives, HomeLives, HasLevel, HasSlot, HasGlobal, IsGoing}
use Rattle.core_state.specs.Frames.{arguments}
use Rattle.core_operators.specs.Carrying.{MakesMessage}
use Rattle.stack_code.specs.declared.instr.Instr.{Instr}
use Rattle.stack_code.specs.declared.instr.Instr.TheVariants as i
use Rattle.stack_code.specs.declared.parts.Entered.{Entered}
use Rattle.stack_code.specs.Parts.{Parts}
use Rattle.code_meaning.specs.Machine.{Flat, Block, block_at}
use Rattle.code_safety.specs.Fit.{is_int}
use Rattle.thread_table.specs.Operands.{is_reference, on_top}
use Rattle.core_machine.specs.inner.Operands.{Stand, first_place, second_place}

-- its operand on top is an int, or an array of which a message can be made
abbrev pub HasMessage : Flat → Type 0
HasMessage m = (1 ≤ length m.current.operands) × IfSome (slice_get m.current.operands 0) (λ x. MakesMessage m.store x)

-- its operands, two or one on top, are ints
abbrev pub HasInt : Flat → Type 0
HasInt m = on_top is_int m.current.operands ≡ true

abbrev pub HasInts : Flat → Type 0
HasInts m = Stand (is_int ∷ is_int ∷ []) m.current.operands

-- a reference on top
abbrev pub HasReference : Flat → Type 0
HasReference m = on_top is_reference m.current.operands ≡ true

-- the frame so many levels up, with this slot
abbrev pub HasCell : Flat → ℕ → ℕ → Type 0
HasCell m level slot = HasLevel m.store m.current.frame level × HasSlot m.store (above m.store m.current.frame level) slot

-- an array below the index on top, whose slots have numbers of 32 bits
abbrev pub HasArray : Flat → Type 0
HasArray m =
    Stand (is_int ∷ is_reference ∷ []) m.current.operands
    × ((second_place m.current.operands).start + (second_place m.current.operands).len < 2 ^ 32)

-- and its frame lives
abbrev pub HasElement : Flat → Type 0
HasElement m = HasArray m × HomeLives m.store (second_place m.current.operands).home

-- a function, its arguments on top, each of the kind of its parameter, and a slot for each
pub record HasCall (code : Parts) (operands : List Cell) (number count : ℕ) : Type 0 where
  pub function : Entered
  pub is : slice_get code.functions number ≡ Some function
  pub enough : count ≤ length operands
  pub room : count ≤ function.words
  pub same : arguments function.params (reverse (take count operands)) ≡ reverse (take count operands)

-- the thread that runs has a number of the table
abbrev pub IsListed : Flat → Type 0
IsListed m = IfSome m.running (λ (t : Item). t.number < length m.threads)

-- a place in a file, a length and an array, whose frame lives, from the bottom up
pub record HasRequest (m : Flat) : Type 0 where
  pub three : 3 ≤ length m.current.operands
  pub home : HomeLives m.store (first_place m.current.operands).home

-- the innermost block lives
pub record HasBlock (m : Flat) : Type 0 where
  pub number : BlockId
  pub is : m.current.block ≡ Some number
  pub block : Block
  pub there : block_at m.blocks number ≡ Some block

-- no block lies directly in it
abbrev pub IsChildless : List (Option Block) → BlockId → Type 0
IsChildless blocks b = (c : BlockId) (x : Block) → block_at blocks c ≡ Some x → x.parent ≢ Some b

-- a thread is ready
pub record HasNext (m : Flat) : Type 0 where
  pub next : Item
  pub later : List Item
  pub is : m.ready ≡ next ∷ later

-- a block into which the thread can go
pub record CanEnter (m : Flat) (slot : ℕ) : Type 0 where
  pub frame : Lives m.store m.current.frame
  pub has : HasSlot m.store m.current.frame slot
  pub round : IfSome m.current.block (λ b. IsSome (block_at m.blocks b))

pub record CanFinish (m : Flat) : Type 0 where
  pub has : HasBlock m
  pub childless : has.block.count ≡ 0 → IsChildless m.blocks has.number

pub record CanStart (m : Flat) : Type 0 where
  pub has : HasBlock m
  pub few : has.block.count ≤ length m.threads
  pub frame : Lives m.store m.current.frame
  pub listed : IsListed m

pub record CanEnd (m : Flat) : Type 0 where
  pub has : HasBlock m
  pub some : 0 < has.block.count
  pub childless : has.block.count ≡ 1 → has.block.waits ≡ true → IsChildless m.blocks has.number
  pub frame : IsGoing m.store m.current.frame

-- the instruction is one on blocks, threads and operations
abbrev pub is_on_threads : Instr → Bool
is_on_threads (i.Enter slot) = true
is_on_threads (i.Finish slot) = true
is_on_threads (i.Async slots to) = true
is_on_threads i.End = true
is_on_threads i.Yield = true
is_on_threads (i.Send channel) = true
is_on_threads (i.Recv channel) = true
is_on_threads (i.Read file) = true
is_on_threads (i.Write file) = true
is_on_threads _ = false

-- an instruction that is no part of the run loop
abbrev pub is_apart : Instr → Bool
is_apart i.Place = true
is_apart (i.Clear slot len) = true
is_apart (i.Print text count) = true
is_apart (i.Cancel level slot) = true
is_apart instr = is_on_threads instr

abbrev pub Finds : Parts → Flat → Instr → Type 0
Finds code m i.Step = Unit {0}
Finds code m (i.Push value) = Unit {0}
Finds code m (i.Load level slot) = HasCell m level slot
Finds code m (i.LoadG slot) = HasGlobal m.store slot
Finds code m (i.Store level slot) = HasCell m level slot × HasInt m
Finds code m (i.StoreG slot) = HasGlobal m.store slot × HasInt m
Finds code m (i.Arr level slot len) = HasLevel m.store m.current.frame level
Finds code m (i.ArrG slot len) = Unit {0}
Finds code m i.Elem = HasElement m
Finds code m i.SetElem = HasElement m × Stand (is_int ∷ is_reference ∷ is_int ∷ []) m.current.operands
Finds code m i.Place = HasArray m
Finds code m (i.Clear slot len) = Lives m.store m.current.frame × (slot + len ≤ length (cells_of m.store m.current.frame))
Finds code m i.Neg = HasInt m
Finds code m i.Not = HasInt m
Finds code m i.Flip = HasInt m
Finds code m i.Bool = HasInt m
Finds code m i.BitOr = HasInts m
Finds code m i.BitXor = HasInts m
Finds code m i.BitAnd = HasInts m
Finds code m i.Eq = HasInts m
Finds code m i.Ne = HasInts m
Finds code m i.Less = HasInts m
Finds code m i.LessEq = HasInts m
Finds code m i.More = HasInts m
Finds code m i.MoreEq = HasInts m
Finds code m i.Shl = HasInts m
Finds code m i.Shr = HasInts m
Finds code m i.Add = HasInts m
Finds code m i.Sub = HasInts m
Finds code m i.Mul = HasInts m
Finds code m i.Div = HasInts m
Finds code m i.Rem = HasInts m
Finds code m i.Drop = 1 ≤ length m.current.operands
Finds code m (i.Jump to) = Unit {0}
Finds code m (i.Jz to) = HasInt m
Finds code m (i.Jnz to) = HasInt m
Finds code m (i.Print text count) = (text < length code.texts) × (count ≤ length m.current.operands)
Finds code m (i.Call function count) = HasCall code m.current.operands function count
Finds code m i.Ret = HasInt m × IsGoing m.store m.current.frame
Finds code m (i.Enter slot) = CanEnter m slot
Finds code m (i.Finish slot) = CanFinish m
Finds code m (i.Async slots to) = CanStart m
Finds code m i.End = CanEnd m
Finds code m i.Yield = Unit {0}
Finds code m (i.Cancel level slot) = HasCell m level slot
Finds code m (i.Send channel) = HasMessage m
Finds code m (i.Recv channel) = HasReference m
Finds code m (i.Read file) = HasRequest m
Finds code m (i.Write file) = HasRequest m

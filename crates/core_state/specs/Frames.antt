-- What both meanings do with globals and frames. Each has a store of its own, so that numbers of frames and of blocks can differ.
use Rattle.std.specs.Prelude.{ℕ, ◌+◌, ◌-◌, ℤ, Bool, true, false, List, [], ◌∷◌, ◌++◌, length, replicate, Option, None, Result, Ok, Err}
use Rattle.std.specs.Prelude.{nat_le, nat_lt, if◌then◌else◌}
use Rattle.ac_base.specs.declared.ends.Trap.{Trap}
use Rattle.ac_base.specs.declared.ends.Trap.TheVariants.{Index, StackFull}
use Rattle.work_item.specs.declared.ids.FrameId.{FrameId}
use Rattle.work_item.specs.declared.ids.BlockId.{BlockId}
use Rattle.work_item.specs.declared.cell.Place.{Place}
use Rattle.work_item.specs.declared.cell.Cell.{Cell}
use Rattle.work_item.specs.declared.cell.Cell.TheVariants as c
use Rattle.work_item.specs.Store.{Store, no_int, int_in, place_in, live_words, made, with_cell, int_at, with_int_at}
use Rattle.core_state.specs.Arithmetic.{Computed, bind}

-- ---- elements of arrays

abbrev pub within : Place → ℤ → Result ℕ Trap
within place (ℤ.pos index) = if nat_lt index place.len then Ok index else Err Index
within place _ = Err Index

abbrev pub element : Store → Place → ℤ → Computed
element store place index = bind (within place index) (λ i. Ok (int_at store place i))

abbrev pub set_element : Store → Place → ℤ → ℤ → Result Store Trap
set_element store place index value = bind (within place index) (λ i. Ok (with_int_at store place i value))

-- a reference to one element
abbrev pub one_place : Place → ℕ → Place
one_place place index = record { home = place.home; start = place.start + index; len = 1 }

abbrev pub part_at : Place → ℤ → Result Place Trap
part_at place index = bind (within place index) (λ i. Ok (one_place place i))

-- ---- frames

abbrev pub word_limit : ℕ
word_limit = 4194304

-- whether a frame of so many slots keeps the live words within their limit
abbrev pub has_words : Store → ℕ → Bool
has_words store slots = nat_le (live_words store + (slots + 4)) word_limit

-- a new frame, whose first slots hold these cells
abbrev pub begun : Store → Option FrameId → List Cell → Result Store Trap
begun store parent cells = if has_words store (length cells) then Ok (made store parent cells) else Err StackFull

-- ---- calls

-- what the slot of a parameter holds of an operand: a reference where the parameter is an array, and else an int
abbrev pub argument : Bool → Cell → Cell
argument true x = c.Array (place_in x)
argument false x = c.Int (int_in x)

-- each operand in the slot of its parameter
abbrev pub arguments : List Bool → List Cell → List Cell
arguments [] args = []
arguments (array ∷ params) [] = []
arguments (array ∷ params) (x ∷ args) = argument array x ∷ arguments params args

-- the slots that no parameter has hold 0
abbrev pub first_cells : List Cell → ℕ → List Cell
first_cells args slots = args ++ replicate (slots - length args) no_int

-- the frame of a function with these parameters and so many slots, where these are its arguments
abbrev pub begun_with : Store → List Bool → ℕ → List Cell → Result Store Trap
begun_with store params slots args = begun store None (first_cells (arguments params args) slots)

-- ---- the beginning

abbrev pub first_store : List ℤ → Store
first_store globals = record { globals = globals; frames = [] }

-- the frame with which a core begins
abbrev pub first_frame : FrameId
first_frame = record { number = 0 }

-- ---- blocks

-- the number of a block that is entered, kept in that slot of the frame
abbrev pub with_entered : Store → FrameId → ℕ → ℕ → Store
with_entered store frame slot block = with_cell store frame slot (c.Block (record { number = block }))

-- the block whose number a slot keeps
abbrev pub block_in : Cell → BlockId
block_in (c.Block block) = block
block_in _ = record { number = 0 }

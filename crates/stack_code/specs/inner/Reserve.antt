-- Which slots hold no int, and which are named as ints.
use Rattle.std.specs.Prelude.{◌≡◌, ◌⊎◌, ℕ, ◌+◌, ◌<◌, ◌≤◌, List, [], ◌∷◌, length, Option, Some, None}
use Rattle.std.specs.Prelude.{Bool, true, false, Contains, slice_get, slice_index_or, if◌then◌else◌}
use Rattle.std.specs.List.Sorted.{IsNonDecreasing}
use Rattle.stack_code.specs.declared.instr.Instr.{Instr}
use Rattle.stack_code.specs.declared.instr.Instr.TheVariants as i
use Rattle.stack_code.specs.declared.parts.Entered.{Entered}
use Rattle.stack_code.specs.declared.shape.Home.{Home}
use Rattle.stack_code.specs.declared.shape.Home.TheVariants as home
use Rattle.stack_code.specs.declared.shape.Shape.{Shape}
use Rattle.stack_code.specs.declared.uses.Named.{Named}
use Rattle.stack_code.specs.declared.uses.Reserved.{Reserved}
use Rattle.stack_code.specs.Parts.{Parts}
use Rattle.stack_code.specs.Shapes.{on_some, params_of, is_array}
use Rattle.stack_code.specs.Valid.{Slots, home_at, ints_of, HasOneUse}

-- ---- what an instruction names

-- these slots of the frame of that body
abbrev pub named_of : Home → ℕ → ℕ → Named
named_of home slot len = record { home = home; slot = slot; len = len }

-- those that it sets, or makes an array of
abbrev pub set_in : Shape → Option Slots → Option Named
set_in s None = None
set_in s (Some slots) = on_some (home_at s slots.level) (λ home. Some (named_of home slots.slot slots.len))

-- those that it names as ints
abbrev pub ints_in : Parts → Shape → Instr → Option Named
ints_in code s (i.Load level slot) = on_some (home_at s level)
    (λ home. if is_array code home slot then None else Some (named_of home slot 1))
ints_in code s instr = set_in s (ints_of instr)

-- the one that it names as a block
abbrev pub block_in : Parts → Shape → Instr → Option Named
block_in code s (i.Enter slot) = on_some (home_at s 0) (λ home. Some (named_of home slot 1))
block_in code s instr = None

-- the same of the instruction at an address that is reached
abbrev pub named_at : (Shape → Instr → Option Named) → Option (Option Shape) → Option Instr → Option Named
named_at names None instr = None
named_at names (Some None) instr = None
named_at names (Some (Some s)) None = None
named_at names (Some (Some s)) (Some instr) = names s instr

abbrev pub ints_at : Parts → List (Option Shape) → ℕ → Option Named
ints_at code table at = named_at (ints_in code) (slice_get table at) (slice_get code.instrs at)

abbrev pub block_at : Parts → List (Option Shape) → ℕ → Option Named
block_at code table at = named_at (block_in code) (slice_get table at) (slice_get code.instrs at)

-- ---- what is reserved

-- the places of the arrays, counted from that number on
abbrev pub arrays_from : ℕ → List Bool → List ℕ
arrays_from k [] = []
arrays_from k (true ∷ params) = k ∷ arrays_from (k + 1) params
arrays_from k (false ∷ params) = arrays_from (k + 1) params

abbrev pub arrays_in : Entered → List ℕ
arrays_in function = arrays_from 0 function.params

-- by body, the slots of its frame that hold no int
abbrev pub slots_of : Reserved → Home → List ℕ
slots_of r (home.Function number) = slice_index_or r.functions.items number []
slots_of r (home.Async at) = slice_index_or r.asyncs.items at []

abbrev pub HasRow : Reserved → Home → Type 0
HasRow r (home.Function number) = number < length r.functions.items
HasRow r (home.Async at) = at < length r.asyncs.items

-- one slot more
pub record Adds (r r' : Reserved) (home : Home) (slot : ℕ) : Type 0 where
  pub kept : (h : Home) (x : ℕ) → Contains (slots_of r h) x → Contains (slots_of r' h) x
  pub has : Contains (slots_of r' home) slot
  pub only : (h : Home) (x : ℕ) → Contains (slots_of r' h) x → Contains (slots_of r h) x ⊎ ((h ≡ home) × (x ≡ slot))
  pub functions : length r'.functions.items ≡ length r.functions.items
  pub asyncs : length r'.asyncs.items ≡ length r.asyncs.items

-- the same slots
abbrev pub SameSlots : List ℕ → List ℕ → Type 0
SameSlots row row' = (x : ℕ) → (Contains row x → Contains row' x) × (Contains row' x → Contains row x)

abbrev pub row_of : List (List ℕ) → ℕ → List ℕ
row_of rows k = slice_index_or rows k []

-- the rows below the end are in order
pub record SortedTo (rows rows' : List (List ℕ)) (end : ℕ) : Type 0 where
  pub long : length rows' ≡ length rows
  pub same : (k : ℕ) → SameSlots (row_of rows k) (row_of rows' k)
  pub sorted : (k : ℕ) → k < end → IsNonDecreasing (row_of rows' k)

abbrev pub AllSorted : List (List ℕ) → List (List ℕ) → Type 0
AllSorted rows rows' = SortedTo rows rows' (length rows)

-- ---- all of a code

-- an instruction below the end names the slot as a block
pub record NamesBlock (code : Parts) (table : List (Option Shape)) (end : ℕ) (h : Home) (x : ℕ) : Type 0 where
  pub at : ℕ
  pub named : Named
  pub below : at < end
  pub is : block_at code table at ≡ Some named
  pub home_is : named.home ≡ h
  pub slot_is : named.slot ≡ x

-- the blocks of the addresses below the end are reserved, and no parameter is one of them
pub record Reserves (code : Parts) (table : List (Option Shape)) (r : Reserved) (end : ℕ) : Type 0 where
  pub functions : length r.functions.items ≡ length code.functions
  pub asyncs : length r.asyncs.items ≡ length code.instrs
  pub sound : (h : Home) (x : ℕ) → Contains (slots_of r h) x → (slice_get (params_of code h) x ≡ Some true) ⊎ NamesBlock code table end h x
  pub arrays : (h : Home) (x : ℕ) → slice_get (params_of code h) x ≡ Some true → Contains (slots_of r h) x
  pub blocks : (at : ℕ) (n : Named) → at < end → block_at code table at ≡ Some n → Contains (slots_of r n.home) n.slot
  pub apart : (at : ℕ) (n : Named) → at < end → block_at code table at ≡ Some n → slice_get (params_of code n.home) n.slot ≡ None

-- after one address more; false where a slot has two uses
abbrev pub Taken : Parts → List (Option Shape) → Reserved → ℕ → Bool → Type 0
Taken code table r at true = Reserves code table r (at + 1)
Taken code table r at false = HasOneUse code → ⊥

pub record IsReserve (code : Parts) (table : List (Option Shape)) (r : Reserved) : Type 0 where
  pub reserves : Reserves code table r (length code.instrs)
  pub sorted : (h : Home) → IsNonDecreasing (slots_of r h)

-- no slot that the instruction names as an int is reserved
abbrev pub IsFree : Parts → List (Option Shape) → Reserved → ℕ → Type 0
IsFree code table r at = (n : Named) (x : ℕ) → ints_at code table at ≡ Some n → n.slot ≤ x → x < n.slot + n.len
    → Contains (slots_of r n.home) x → ⊥

abbrev pub Freed : Parts → List (Option Shape) → Reserved → ℕ → Bool → Type 0
Freed code table r at true = IsFree code table r at
Freed code table r at false = HasOneUse code → ⊥

-- What the globals and the frames of a core hold. Past its end a list of cells reads as 0.
use Rattle.std.specs.Prelude.{ℕ, zero, suc, ◌+◌, ℤ, pos, List, [], ◌∷◌, ◌++◌, length, replicate, Option, Some, None}
use Rattle.std.specs.Prelude.{Bool, true, false, not, ◌&&◌, ◌||◌, slice_index_or, slice_set, nat_eq, if◌then◌else◌}
use Rattle.work_item.specs.declared.ids.FrameId.{FrameId}
use Rattle.work_item.specs.declared.cell.Place.{Place}
use Rattle.work_item.specs.declared.cell.Cell.{Cell}
use Rattle.work_item.specs.declared.cell.Cell.TheVariants as c

-- a frame, the one in which it lies, and whether its activation or body has ended
pub record Frame : Type 0 where
  pub parent : Option FrameId
  pub cells : List Cell
  pub over : Bool

-- the frames stand at their numbers; one that no longer lives is gone
pub record Store : Type 0 where
  pub globals : List ℤ
  pub frames : List (Option Frame)

abbrev pub frame_at : Store → FrameId → Option Frame
frame_at s f = slice_index_or s.frames f.number None

abbrev pub no_cells : Option Frame → List Cell
no_cells None = []
no_cells (Some x) = x.cells

abbrev pub cells_of : Store → FrameId → List Cell
cells_of s f = no_cells (frame_at s f)

-- ---- cells of both kinds, each read as the kind that is asked for

abbrev pub no_int : Cell
no_int = c.Int (pos 0)

abbrev pub no_place : Place
no_place = record { home = None; start = 0; len = 0 }

abbrev pub int_in : Cell → ℤ
int_in (c.Int value) = value
int_in _ = pos 0

abbrev pub place_in : Cell → Place
place_in (c.Array place) = place
place_in _ = no_place

-- ---- the frame so many levels up

abbrev pub parent_is : FrameId → Option FrameId → FrameId
parent_is f None = f
parent_is f (Some parent) = parent

abbrev pub parent_or : FrameId → Option Frame → FrameId
parent_or f None = f
parent_or f (Some x) = parent_is f x.parent

abbrev pub above : Store → FrameId → ℕ → FrameId
above s f zero = f
above s f (suc level) = above s (parent_or f (frame_at s f)) level

-- ---- slots

abbrev pub cell_of : Store → FrameId → ℕ → Cell
cell_of s f slot = slice_index_or (cells_of s f) slot no_int

abbrev pub cell_at : Store → FrameId → ℕ → ℕ → Cell
cell_at s f level slot = cell_of s (above s f level) slot

abbrev pub some_with : List Cell → Option Frame → Option Frame
some_with cells None = None
some_with cells (Some x) = Some (record x { cells = cells })

abbrev pub with_cells : Store → FrameId → List Cell → Store
with_cells s f cells = record s { frames = slice_set s.frames f.number (some_with cells (frame_at s f)) }

abbrev pub with_cell : Store → FrameId → ℕ → Cell → Store
with_cell s f slot cell = with_cells s f (slice_set (cells_of s f) slot cell)

abbrev pub with_cell_at : Store → FrameId → ℕ → ℕ → Cell → Store
with_cell_at s f level slot cell = with_cell s (above s f level) slot cell

abbrev pub global_at : Store → ℕ → ℤ
global_at s slot = slice_index_or s.globals slot (pos 0)

abbrev pub with_global : Store → ℕ → ℤ → Store
with_global s slot value = record s { globals = slice_set s.globals slot value }

-- ---- elements of arrays

abbrev pub int_from : Store → Option FrameId → ℕ → ℤ
int_from s None slot = global_at s slot
int_from s (Some f) slot = int_in (cell_of s f slot)

abbrev pub int_at : Store → Place → ℕ → ℤ
int_at s p index = int_from s p.home (p.start + index)

abbrev pub with_int_from : Store → Option FrameId → ℕ → ℤ → Store
with_int_from s None slot value = with_global s slot value
with_int_from s (Some f) slot value = with_cell s f slot (c.Int value)

abbrev pub with_int_at : Store → Place → ℕ → ℤ → Store
with_int_at s p index value = with_int_from s p.home (p.start + index) value

-- so many slots from that one on are 0
abbrev pub cleared_front : ℕ → List Cell → List Cell
cleared_front zero cells = cells
cleared_front (suc len) [] = []
cleared_front (suc len) (x ∷ cells) = no_int ∷ cleared_front len cells

abbrev pub cleared : ℕ → ℕ → List Cell → List Cell
cleared zero len cells = cleared_front len cells
cleared (suc slot) len [] = []
cleared (suc slot) len (x ∷ cells) = x ∷ cleared slot len cells

abbrev pub with_cleared : Store → FrameId → ℕ → ℕ → Store
with_cleared s f slot len = with_cells s f (cleared slot len (cells_of s f))

-- ---- frames

-- at the beginning, so many globals, each of them 0
abbrev pub no_frames : ℕ → Store
no_frames globals = record { globals = replicate globals (pos 0); frames = [] }

abbrev pub next_frame : Store → FrameId
next_frame s = record { number = length s.frames }

-- a new frame with these cells in its first slots
abbrev pub made : Store → Option FrameId → List Cell → Store
made s parent cells = record s { frames = s.frames ++ Some (record { parent = parent; cells = cells; over = false }) ∷ [] }

-- ---- the end of a frame: it is gone once its activation or body has ended and no frame that lives lies in it

abbrev pub is_number : ℕ → Option FrameId → Bool
is_number number None = false
is_number number (Some f) = nat_eq number f.number

abbrev pub is_parent : ℕ → Option Frame → Bool
is_parent number None = false
is_parent number (Some x) = is_number number x.parent

abbrev pub any_in : ℕ → List (Option Frame) → Bool
any_in number [] = false
any_in number (x ∷ frames) = is_parent number x || any_in number frames

abbrev pub kept_one : Bool → Option Frame → Option Frame
kept_one lies None = None
kept_one lies (Some x) = if x.over && not lies then None else Some x

-- those that live, from this number on; a frame lies in an older one
abbrev pub kept : ℕ → List (Option Frame) → List (Option Frame)
kept number [] = []
kept number (x ∷ frames) = kept_one (any_in number (kept (number + 1) frames)) x ∷ kept (number + 1) frames

abbrev pub some_over : Option Frame → Option Frame
some_over None = None
some_over (Some x) = Some (record x { over = true })

abbrev pub released : Store → FrameId → Store
released s f = record s { frames = kept 0 (slice_set s.frames f.number (some_over (frame_at s f))) }

-- a frame has 4 words beside its slots
abbrev pub frame_words : Option Frame → ℕ
frame_words None = 0
frame_words (Some x) = length x.cells + 4

abbrev pub all_words : List (Option Frame) → ℕ
all_words [] = 0
all_words (x ∷ frames) = frame_words x + all_words frames

abbrev pub live_words : Store → ℕ
live_words s = length s.globals + all_words s.frames

-- The frames as they are kept, with their words and counts of children.
use Rattle.std.specs.Prelude.{◌≡◌, ℕ, ◌+◌, ◌-◌, ◌<◌, ◌^◌, List, [], ◌∷◌, ◌++◌, Option, Some, None, IsSome, IsSomeAnd}
use Rattle.std.specs.Prelude.{IfSome, is_none, Bool, false, ◌&&◌, nat_eq, map, slice_index_or, slice_set}
use Rattle.work_item.specs.Store.{Frame, all_words}
use Rattle.work_item.specs.declared.ids.FrameId.{FrameId}
use Rattle.work_item.specs.declared.cell.Cell.{Cell}
use Rattle.work_item.specs.declared.table.Live.{Live}
use Rattle.work_item.specs.Table.{at, children_of}

abbrev pub parent_at : Option Frame → Option FrameId
parent_at None = None
parent_at (Some x) = x.parent

abbrev pub is_over : Option Frame → Bool
is_over None = false
is_over (Some x) = x.over

-- a frame that has just been made
abbrev pub new_frame : Option FrameId → List Cell → Frame
new_frame parent cells = record { parent = parent; cells = cells; over = false }

-- its end has come, and no frame that lives lies in it
abbrev pub is_done : List (Option Frame) → ℕ → Bool
is_done frames number = is_over (at frames number) && nat_eq (children_of frames number) 0

-- it lies in no frame, and no frame that lives lies in it
abbrev pub is_alone : List (Option Frame) → ℕ → Bool
is_alone frames number = is_none (parent_at (at frames number)) && nat_eq (children_of frames number) 0

abbrev pub LivesIn : List (Option Frame) → Option FrameId → Type 0
LivesIn frames parent = IfSome parent (λ f. IsSome (at frames f.number))

-- a frame that lives lies in an older one that lives
abbrev pub IsRooted : List (Option Frame) → Type 0
IsRooted frames =
    (number : ℕ) (x : Frame) (p : FrameId) → at frames number ≡ Some x → x.parent ≡ Some p
    → (p.number < number) × IsSome (at frames p.number)

-- ---- the frames as they are kept

abbrev pub frame_of : Option Live → Option Frame
frame_of None = None
frame_of (Some x) = Some (record { parent = x.parent; cells = x.cells; over = x.over })

abbrev pub frames_of : List (Option Live) → List (Option Frame)
frames_of lives = map frame_of lives

abbrev pub live_at : List (Option Live) → ℕ → Option Live
live_at lives number = slice_index_or lives number None

-- each count of children is that of these frames
abbrev pub Counts : List (Option Live) → List (Option Frame) → Type 0
Counts lives frames = (number : ℕ) (x : Live) → live_at lives number ≡ Some x → x.children ≡ children_of frames number

pub record IsSound (lives : List (Option Live)) (words : ℕ) : Type 0 where
  pub rooted : IsRooted (frames_of lives)
  pub counts : Counts lives (frames_of lives)
  pub words_are : words ≡ all_words (frames_of lives)

-- ---- one child more or less

abbrev pub one_more : Option Live → Option Live
one_more None = None
one_more (Some x) = Some (record x { children = x.children + 1 })

abbrev pub one_less : Option Live → Option Live
one_less None = None
one_less (Some x) = Some (record x { children = x.children - 1 })

-- one child more is counted at the parent, if there is one
abbrev pub with_more : List (Option Live) → Option FrameId → List (Option Live)
with_more lives None = lives
with_more lives (Some f) = slice_set lives f.number (one_more (live_at lives f.number))

abbrev pub with_less : List (Option Live) → Option FrameId → List (Option Live)
with_less lives None = lives
with_less lives (Some f) = slice_set lives f.number (one_less (live_at lives f.number))

-- the parent, if there is one, lives and can count one more, or one less
abbrev pub CanCountMore : List (Option Live) → Option FrameId → Type 0
CanCountMore lives parent = IfSome parent (λ f. IsSomeAnd (live_at lives f.number) (λ x. x.children + 1 < 2 ^ 64))

abbrev pub CanCountLess : List (Option Live) → Option FrameId → Type 0
CanCountLess lives parent = IfSome parent (λ f. IsSomeAnd (live_at lives f.number) (λ x. 0 < x.children))

-- ---- a frame that is added

-- a frame that has just been made, as it is kept
pub record IsNew (parent : Option FrameId) (cells : List Cell) (live : Live) : Type 0 where
  pub parent_is : live.parent ≡ parent
  pub cells_are : live.cells ≡ cells
  pub goes_on : live.over ≡ false
  pub childless : live.children ≡ 0

-- such a frame comes behind the others
abbrev pub AddsNew : Option FrameId → List Cell → List (Option Live) → List (Option Live) → Type 0
AddsNew parent cells lives now = (live : Live) × IsNew parent cells live × (now ≡ lives ++ Some live ∷ [])

-- What the calls on frames ask for.
use Rattle.std.specs.Prelude.{◌≡◌, ℕ, zero, suc, ◌<◌, length, Option, Some, None, IsSome, IsSomeAnd, false}
use Rattle.work_item.specs.declared.ids.FrameId.{FrameId}
use Rattle.work_item.specs.Store.{Store, frame_at, cells_of, parent_or}

abbrev pub Lives : Store → FrameId → Type 0
Lives s f = IsSome (frame_at s f)

-- the parent lives, where one is given
abbrev pub ParentLives : Store → Option FrameId → Type 0
ParentLives s None = Unit {0}
ParentLives s (Some f) = Lives s f

-- an array lies in the globals, or in a frame that lives
abbrev pub HomeLives : Store → Option FrameId → Type 0
HomeLives s None = Unit {0}
HomeLives s (Some f) = Lives s f

abbrev pub HasParent : Store → FrameId → Type 0
HasParent s f = IsSomeAnd (frame_at s f) (λ x. IsSome x.parent)

-- the frame lives, and so do the frames round it, that many levels up
abbrev pub HasLevel : Store → FrameId → ℕ → Type 0
HasLevel s f zero = Lives s f
HasLevel s f (suc level) = HasParent s f × HasLevel s (parent_or f (frame_at s f)) level

-- the frame lives and has this slot
abbrev pub HasSlot : Store → FrameId → ℕ → Type 0
HasSlot s f slot = slot < length (cells_of s f)

abbrev pub HasGlobal : Store → ℕ → Type 0
HasGlobal s slot = slot < length s.globals

-- the frame lives, and its activation or body has not ended
abbrev pub IsGoing : Store → FrameId → Type 0
IsGoing s f = IsSomeAnd (frame_at s f) (λ x. x.over ≡ false)

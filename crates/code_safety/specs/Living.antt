-- No reference dangles: whatever a thread that lives can name is in a frame that lives, or in the globals.
use Rattle.std.specs.Prelude.{◌≡◌, ◌⊎◌, ℕ, ◌+◌, ◌<◌, ◌≤◌, List, [], ◌∷◌, length, Option, Some, None, true, All}
use Rattle.work_item.specs.declared.ids.FrameId.{FrameId}
use Rattle.work_item.specs.declared.ids.Item.{Item}
use Rattle.work_item.specs.declared.ids.BlockId.{BlockId}
use Rattle.work_item.specs.declared.cell.Cell.{Cell}
use Rattle.work_item.specs.declared.cell.Cell.TheVariants as cell
use Rattle.work_item.specs.declared.cell.Place.{Place}
use Rattle.work_item.specs.Store.{Store, Frame, frame_at, cells_of}
use Rattle.work_item.specs.Conditions.{Lives, ParentLives, HomeLives}
use Rattle.cancel_scope.specs.declared.operation.Asked.{Asked}
use Rattle.cancel_scope.specs.declared.operation.Asked.TheVariants as asked
use Rattle.cancel_scope.specs.declared.operation.Operation.{Operation}
use Rattle.code_meaning.specs.Machine.{Caller, Thread, Block, Flat, thread_at, block_at}
use Rattle.code_safety.specs.Fit.{occurs, items_of}

-- ---- the threads that live

-- a thread that lives, as it stands: it runs, is ready, waits for the end of an operation, or waits at the finish of a block
pub data LivesAs (m : Flat) : Item → Thread → Type 0 where
  as_running : (t : Item) → m.running ≡ Some t → LivesAs m t m.current
  as_ready : (t : Item) → 0 < occurs t.number m.ready → LivesAs m t (thread_at m.threads t)
  as_operating : (t : Item) → 0 < occurs t.number (items_of m.operations) → LivesAs m t (thread_at m.threads t)
  as_waiting : (t : Item) (b : BlockId) (x : Block) → block_at m.blocks b ≡ Some x → x.owner ≡ t → x.waits ≡ true
      → LivesAs m t (thread_at m.threads t)

-- the frame of one of its activations
abbrev pub IsOfCaller : List Caller → FrameId → Type 0
IsOfCaller [] f = ⊥
IsOfCaller (c ∷ callers) f = (c.frame ≡ f) ⊎ IsOfCaller callers f

abbrev pub HasFrame : Thread → FrameId → Type 0
HasFrame h f = (h.frame ≡ f) ⊎ IsOfCaller h.callers f

-- ---- references

abbrev pub RefersToLiving : Store → Cell → Type 0
RefersToLiving s (cell.Array place) = HomeLives s place.home
RefersToLiving s _ = Unit {0}

abbrev pub AllReferToLiving : Store → List Cell → Type 0
AllReferToLiving s [] = Unit {0}
AllReferToLiving s (x ∷ cells) = RefersToLiving s x × AllReferToLiving s cells

-- ---- the whole

-- an activation with this frame and these operands
abbrev pub ActivationLives : Store → FrameId → List Cell → Type 0
ActivationLives s f operands = Lives s f × AllReferToLiving s operands

abbrev pub CallersLive : Store → List Caller → Type 0
CallersLive s [] = Unit {0}
CallersLive s (c ∷ callers) = ActivationLives s c.frame c.operands × CallersLive s callers

-- a message is received into a frame that lives, or into the globals, and so is what is read
abbrev pub AskedLives : Store → Asked → Type 0
AskedLives s (asked.Send value) = Unit {0}
AskedLives s (asked.Recv place) = HomeLives s place.home
AskedLives s (asked.Read file from into) = HomeLives s into.home
AskedLives s (asked.Write file from bytes) = Unit {0}

pub record NamesLiving (m : Flat) : Type 0 where
  pub threads : (t : Item) (h : Thread) → LivesAs m t h → ActivationLives m.store h.frame h.operands × CallersLive m.store h.callers
  pub parents : (f : FrameId) (x : Frame) → frame_at m.store f ≡ Some x → ParentLives m.store x.parent
  pub cells : (f : FrameId) (x : Frame) → frame_at m.store f ≡ Some x → AllReferToLiving m.store x.cells
  pub operations : All (λ (o : Operation). AskedLives m.store o.asked) m.operations

-- ---- arrays

-- so many slots are there, of the globals or of a frame, where that lives
abbrev pub HasSlots : Store → Option FrameId → ℕ → Type 0
HasSlots s None count = count ≤ length s.globals
HasSlots s (Some f) count = Lives s f → count ≤ length (cells_of s f)

-- an array lies in the globals, or in its frame, where that lives
abbrev pub LiesThere : Store → Place → Type 0
LiesThere s place = HasSlots s place.home (place.start + place.len)

abbrev pub ArrayLiesThere : Store → Cell → Type 0
ArrayLiesThere s (cell.Array place) = LiesThere s place
ArrayLiesThere s _ = Unit {0}

-- and so does where an operation puts what it receives or reads
abbrev pub AskedLiesThere : Store → Asked → Type 0
AskedLiesThere s (asked.Send value) = Unit {0}
AskedLiesThere s (asked.Recv place) = LiesThere s place
AskedLiesThere s (asked.Read file from into) = LiesThere s into
AskedLiesThere s (asked.Write file from bytes) = Unit {0}

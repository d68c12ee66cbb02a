-- Why no reference dangles: each is to a frame further out on the dynamic chain of the frame that holds it, and a chain lives as long as
-- the frame with which it begins, since an activation or a body does not end before the blocks that were entered in it.
use Rattle.std.specs.Prelude.{◌≡◌, ◌⊎◌, ℕ, ◌+◌, ◌<◌, List, [], ◌∷◌, length, Option, Some, None, true, false, slice_get, All}
use Rattle.work_item.specs.declared.ids.FrameId.{FrameId}
use Rattle.work_item.specs.declared.ids.Item.{Item}
use Rattle.work_item.specs.declared.ids.BlockId.{BlockId}
use Rattle.work_item.specs.declared.cell.Cell.{Cell}
use Rattle.work_item.specs.declared.cell.Cell.TheVariants as cell
use Rattle.work_item.specs.Store.{Frame, frame_at}
use Rattle.work_item.specs.Conditions.{Lives}
use Rattle.cancel_scope.specs.declared.operation.Asked.{Asked}
use Rattle.cancel_scope.specs.declared.operation.Asked.TheVariants as asked
use Rattle.cancel_scope.specs.declared.operation.Operation.{Operation}
use Rattle.stack_code.specs.declared.shape.Shape.{Shape}
use Rattle.stack_code.specs.Parts.{Parts}
use Rattle.stack_code.specs.Valid.{Reaches}
use Rattle.code_meaning.specs.Machine.{Caller, Thread, Block, Flat, block_at, thread_at}
use Rattle.code_safety.specs.Fit.{own_blocks}
use Rattle.code_safety.specs.Living.{LivesAs, HasFrame}

-- ---- frames

-- for what a frame was made: the entry of the core, a call from that frame, or an async body in that frame
pub data Origin : Type 0 where
  AtEntry : Origin
  CalledIn : FrameId → Origin
  StartedIn : FrameId → Origin

-- its dynamic link: the frame of the activation that made it
abbrev pub link_of : Origin → Option FrameId
link_of AtEntry = None
link_of (CalledIn g) = Some g
link_of (StartedIn g) = Some g

-- its static link: the frame in which it lies
abbrev pub parent_of : Origin → Option FrameId
parent_of AtEntry = None
parent_of (CalledIn g) = None
parent_of (StartedIn g) = Some g

abbrev pub Came : List Origin → FrameId → Origin → Type 0
Came origins f o = slice_get origins f.number ≡ Some o

-- the second frame is the first, or on its dynamic chain
pub data OnChain (origins : List Origin) : FrameId → FrameId → Type 0 where
  itself : (f : FrameId) → OnChain origins f f
  further : (f g h : FrameId) (o : Origin) → Came origins f o → link_of o ≡ Some g → OnChain origins g h → OnChain origins f h

-- the first frame is that of an async body in the second, or in a body there
pub data LiesIn (origins : List Origin) : FrameId → FrameId → Type 0 where
  directly : (f g : FrameId) → Came origins f (StartedIn g) → LiesIn origins f g
  deeper : (f g h : FrameId) → Came origins f (StartedIn g) → LiesIn origins g h → LiesIn origins f h

-- ---- references

abbrev pub HomeOnChain : List Origin → FrameId → Option FrameId → Type 0
HomeOnChain origins f None = Unit {0}
HomeOnChain origins f (Some g) = OnChain origins f g

-- a reference that stands in a frame, or among the operands of its activation
abbrev pub Names : List Origin → FrameId → Cell → Type 0
Names origins f (cell.Array place) = HomeOnChain origins f place.home
Names origins f _ = Unit {0}

abbrev pub AllName : List Origin → FrameId → List Cell → Type 0
AllName origins f [] = Unit {0}
AllName origins f (x ∷ cells) = Names origins f x × AllName origins f cells

-- ---- threads

-- so many blocks from this one on were entered by the thread in that frame, and round them is the other one
pub data HasEnteredIn (blocks : List (Option Block)) (sites : List FrameId) (t : Item) (f : FrameId) : ℕ → Option BlockId → Option BlockId
    → Type 0 where
  none_in : (o : Option BlockId) → HasEnteredIn blocks sites t f 0 o o
  one_in : (n : ℕ) (b : BlockId) (x : Block) (o : Option BlockId) → block_at blocks b ≡ Some x → x.owner ≡ t
      → slice_get sites b.number ≡ Some f → HasEnteredIn blocks sites t f n x.parent o → HasEnteredIn blocks sites t f (1 + n) (Some b) o

-- an activation at that address: what its operands name, and the blocks entered in it, from the innermost to the one round them
pub record IsLevel (code : Parts) (origins : List Origin) (blocks : List (Option Block)) (sites : List FrameId) (t : Item) (place : ℕ)
    (f : FrameId) (operands : List Cell) (inner outer : Option BlockId) : Type 0 where
  pub shape : Shape
  pub reached : Reaches code place shape
  pub names : AllName origins f operands
  pub entered : HasEnteredIn blocks sites t f (own_blocks shape) inner outer

-- a thread with this frame was started in the block: an older thread has entered that, in a frame in which this one lies
pub record IsStartedIn (origins : List Origin) (blocks : List (Option Block)) (sites : List FrameId) (t : Item) (f : FrameId)
    (b : BlockId) : Type 0 where
  pub block : Block
  pub here : block_at blocks b ≡ Some block
  pub older : block.owner.number < t.number
  pub site : FrameId
  pub at : slice_get sites b.number ≡ Some site
  pub inside : LiesIn origins f site

abbrev pub Starts : List Origin → List (Option Block) → List FrameId → Item → FrameId → Option BlockId → Type 0
Starts origins blocks sites t f None = Came origins f AtEntry
Starts origins blocks sites t f (Some b) = IsStartedIn origins blocks sites t f b

-- the activations of a thread, from one with its callers outwards, and the block in which the thread was started
pub data IsStack (code : Parts) (origins : List Origin) (blocks : List (Option Block)) (sites : List FrameId) (t : Item)
    (start : Option BlockId) : ℕ → FrameId → List Cell → List Caller → Option BlockId → Type 0 where
  outermost : (place : ℕ) (f : FrameId) (operands : List Cell) (block : Option BlockId)
      → IsLevel code origins blocks sites t place f operands block start → Starts origins blocks sites t f start
      → IsStack code origins blocks sites t start place f operands [] block
  called : (place : ℕ) (f : FrameId) (operands : List Cell) (c : Caller) (callers : List Caller) (block outer : Option BlockId)
      → IsLevel code origins blocks sites t place f operands block outer → Came origins f (CalledIn c.frame)
      → IsStack code origins blocks sites t start c.place c.frame c.operands callers outer
      → IsStack code origins blocks sites t start place f operands (c ∷ callers) block

pub record HasStack (code : Parts) (origins : List Origin) (blocks : List (Option Block)) (sites : List FrameId) (t : Item) (h : Thread) :
    Type 0 where
  pub start : Option BlockId
  pub stack : IsStack code origins blocks sites t start h.place h.frame h.operands h.callers h.block

-- ---- operations

-- where an operation of the activation in that frame puts what it receives or reads
abbrev pub AskedOnChain : List Origin → FrameId → Asked → Type 0
AskedOnChain origins f (asked.Send value) = Unit {0}
AskedOnChain origins f (asked.Recv place) = HomeOnChain origins f place.home
AskedOnChain origins f (asked.Read file from into) = HomeOnChain origins f into.home
AskedOnChain origins f (asked.Write file from bytes) = Unit {0}

-- ---- the whole

-- the frame is that of an activation of a thread that lives
pub record IsActive (m : Flat) (f : FrameId) : Type 0 where
  pub item : Item
  pub thread : Thread
  pub living : LivesAs m item thread
  pub has : HasFrame thread f

-- a frame that lives
pub record IsLinked (origins : List Origin) (m : Flat) (f : FrameId) (x : Frame) : Type 0 where
  pub origin : Origin
  pub came : Came origins f origin
  pub parent : x.parent ≡ parent_of origin
  pub link : (g : FrameId) → link_of origin ≡ Some g → Lives m.store g
  pub names : AllName origins f x.cells
  -- one whose end has come lives on for a body that lies in it
  pub settled : x.over ≡ true → (c : FrameId) × ((y : Frame) × ((frame_at m.store c ≡ Some y) × (y.parent ≡ Some f)))
  -- only the frame of a body lives on so
  pub active : (x.over ≡ false) ⊎ (x.parent ≡ None) → IsActive m f

pub record AreChained (code : Parts) (m : Flat) : Type 0 where
  pub origins : List Origin
  -- of each block the frame in which it was entered
  pub sites : List FrameId
  pub long : length origins ≡ length m.store.frames
  pub many : length sites ≡ length m.blocks
  pub older : (f g : FrameId) (o : Origin) → Came origins f o → link_of o ≡ Some g → g.number < f.number
  pub frames : (f : FrameId) (x : Frame) → frame_at m.store f ≡ Some x → IsLinked origins m f x
  pub threads : (t : Item) (h : Thread) → LivesAs m t h → HasStack code origins m.blocks sites t h
  -- an owner that waits at a finish stands in the frame in which it entered the block
  pub waiting : (b : BlockId) (x : Block) → block_at m.blocks b ≡ Some x → x.waits ≡ true
      → slice_get sites b.number ≡ Some (thread_at m.threads x.owner).frame
  pub operations : All (λ (o : Operation). AskedOnChain origins (thread_at m.threads o.item).frame o.asked) m.operations

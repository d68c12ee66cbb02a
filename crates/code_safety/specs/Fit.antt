-- A state in which valid code can stand: each living thread has what its addresses ask for, the blocks count just the living threads, and
-- each operation is that of a living thread.
use Rattle.std.specs.Prelude.{◌≡◌, ◌⊎◌, ℕ, ◌+◌, ◌<◌, ◌≤◌, ◌^◌, List, [], ◌∷◌, length, map, All, Option, Some, None, IsSome, Bool}
use Rattle.std.specs.Prelude.{true, false, nat_eq}
use Rattle.std.specs.Prelude.{slice_get, slice_index_or, if◌then◌else◌}
use Rattle.work_item.specs.declared.ids.FrameId.{FrameId}
use Rattle.work_item.specs.declared.ids.Item.{Item}
use Rattle.work_item.specs.declared.ids.BlockId.{BlockId}
use Rattle.work_item.specs.declared.cell.Cell.{Cell}
use Rattle.work_item.specs.declared.cell.Cell.TheVariants as cell
use Rattle.work_item.specs.declared.cell.Place.{Place}
use Rattle.work_item.specs.Store.{Store, Frame, frame_at, no_int}
use Rattle.cancel_scope.specs.declared.operation.Asked.{Asked}
use Rattle.cancel_scope.specs.declared.operation.Asked.TheVariants as asked
use Rattle.cancel_scope.specs.declared.operation.Operation.{Operation}
use Rattle.stack_code.specs.declared.shape.CellKind.{CellKind}
use Rattle.stack_code.specs.declared.shape.CellKind.TheVariants as kind
use Rattle.stack_code.specs.declared.shape.Home.{Home}
use Rattle.stack_code.specs.declared.shape.Body.{Body}
use Rattle.stack_code.specs.declared.shape.OpenBlock.{OpenBlock}
use Rattle.stack_code.specs.declared.shape.Shape.{Shape}
use Rattle.stack_code.specs.Parts.{Parts}
use Rattle.stack_code.specs.Shapes.{is_array, width_of}
use Rattle.stack_code.specs.Valid.{Reaches, Uses, AsInt}
use Rattle.code_meaning.specs.Machine.{Caller, Thread, Block, Flat, nobody, thread_at, block_at, given}

-- ---- frames

-- what is known of a frame from its birth on: whose body it is for, how many slots it has, and the thread that goes there
pub record Birth : Type 0 where
  pub home : Home
  pub slots : ℕ
  pub item : Item

abbrev pub Born : List Birth → FrameId → Birth → Type 0
Born births f birth = slice_get births f.number ≡ Some birth

abbrev pub is_int : Cell → Bool
is_int (cell.Int value) = true
is_int _ = false

-- so many slots from that one on lie in the frame, and none of them is a parameter that is an array itself
pub record AreInts (code : Parts) (births : List Birth) (f : FrameId) (start len : ℕ) : Type 0 where
  pub birth : Birth
  pub born : Born births f birth
  pub inside : start + len ≤ birth.slots
  pub plain : (slot : ℕ) → start ≤ slot → slot < start + len → is_array code birth.home slot ≡ false

-- an array in the globals or in a frame lies there, and its slots are those of ints
abbrev pub HoldsInts : Parts → List Birth → Option FrameId → ℕ → ℕ → Type 0
HoldsInts code births None start len = start + len ≤ code.globals
HoldsInts code births (Some f) start len = AreInts code births f start len

-- an array of ints, of so many where its length is known
pub record IsIntArray (code : Parts) (births : List Birth) (known : Option ℕ) (place : Place) : Type 0 where
  pub short : place.start + place.len < 2 ^ 32
  pub ints : HoldsInts code births place.home place.start place.len
  pub exact : (len : ℕ) → known ≡ Some len → place.len ≡ len

-- an operand of that kind
abbrev pub HasKind : Parts → List Birth → CellKind → Cell → Type 0
HasKind code births kind.Int (cell.Int value) = Unit {0}
HasKind code births (kind.Reference len) (cell.Array place) = IsIntArray code births len place
HasKind code births _ _ = ⊥

abbrev pub HaveKinds : Parts → List Birth → List CellKind → List Cell → Type 0
HaveKinds code births [] [] = Unit {0}
HaveKinds code births (k ∷ kinds) (x ∷ operands) = HasKind code births k x × HaveKinds code births kinds operands
HaveKinds code births _ _ = ⊥

-- what a slot holds of which the code has that use
pub record IsSlot (code : Parts) (births : List Birth) (home : Home) (slot : ℕ) (x : Cell) : Type 0 where
  pub array : is_array code home slot ≡ true → HasKind code births (kind.Reference None) x
  pub int : Uses code home slot AsInt → is_int x ≡ true

abbrev pub AreSlots : Parts → List Birth → Home → List Cell → Type 0
AreSlots code births home cells = (slot : ℕ) (x : Cell) → slice_get cells slot ≡ Some x → IsSlot code births home slot x

pub record IsFrame (code : Parts) (births : List Birth) (f : FrameId) (x : Frame) : Type 0 where
  pub birth : Birth
  pub born : Born births f birth
  pub slots : AreSlots code births birth.home x.cells
  pub long : length x.cells ≡ birth.slots
  pub short : length x.cells < 2 ^ 32

pub record IsStore (code : Parts) (births : List Birth) (s : Store) : Type 0 where
  pub long : length births ≡ length s.frames
  pub globals : length s.globals ≡ code.globals
  pub few : code.globals < 2 ^ 32
  pub frames : (f : FrameId) (x : Frame) → frame_at s f ≡ Some x → IsFrame code births f x

-- the frame of that body
pub record IsBody (births : List Birth) (s : Store) (body : Body) (f : FrameId) : Type 0 where
  pub birth : Birth
  pub born : Born births f birth
  pub home : birth.home ≡ body.home
  pub frame : Frame
  pub here : frame_at s f ≡ Some frame
  pub slots : length frame.cells ≡ body.slots

-- the frames of these bodies, each in the next one
pub data AreBodies (births : List Birth) (s : Store) : List Body → FrameId → Type 0 where
  last : (body : Body) (f : FrameId) → IsBody births s body f → AreBodies births s (body ∷ []) f
  more : (body : Body) (bodies : List Body) (f p : FrameId) (h : IsBody births s body f) → h.frame.parent ≡ Some p → p.number < f.number
      → AreBodies births s bodies p → AreBodies births s (body ∷ bodies) f

-- ---- activations

-- the frame is that of an activation or body of this thread that has not ended
pub record Goes (births : List Birth) (s : Store) (t : Item) (f : FrameId) : Type 0 where
  pub birth : Birth
  pub born : Born births f birth
  pub item : birth.item ≡ t
  pub frame : Frame
  pub here : frame_at s f ≡ Some frame
  pub going : frame.over ≡ false

-- a block lies in one of so many bodies
abbrev pub AreInBodies : ℕ → List OpenBlock → Type 0
AreInBodies n [] = Unit {0}
AreInBodies n (block ∷ blocks) = ((1 ≤ block.bodies) × (block.bodies ≤ n)) × AreInBodies n blocks

-- how many of them lie in just the innermost of so many bodies
abbrev pub one_if : Bool → ℕ
one_if true = 1
one_if false = 0

abbrev pub own_in : ℕ → List OpenBlock → ℕ
own_in n [] = 0
own_in n (block ∷ blocks) = one_if (nat_eq block.bodies n) + own_in n blocks

abbrev pub own_blocks : Shape → ℕ
own_blocks s = own_in (length s.bodies) s.blocks

-- an activation at that address, with operands of these kinds
pub record IsActivation (code : Parts) (births : List Birth) (s : Store) (t : Item) (place : ℕ) (f : FrameId) (operands : List Cell)
    (kinds : List CellKind)
    (shape : Shape) : Type 0 where
  pub reached : Reaches code place shape
  pub have : HaveKinds code births kinds operands
  pub bodies : AreBodies births s shape.bodies f
  pub goes : Goes births s t f
  pub blocks : AreInBodies (length shape.bodies) shape.blocks

-- one that waits for one int more
pub record IsCaller (code : Parts) (births : List Birth) (s : Store) (t : Item) (c : Caller) (shape : Shape) : Type 0 where
  pub kinds : List CellKind
  pub one : shape.operands ≡ kind.Int ∷ kinds
  pub activation : IsActivation code births s t c.place c.frame c.operands kinds shape

-- those that wait for an activation with this frame and this shape, and how many blocks are entered in them
pub data AreCallers (code : Parts) (births : List Birth) (s : Store) (t : Item) (start : Option BlockId) : FrameId → Shape → List Caller → ℕ
    → Type 0 where
  bottom : (f : FrameId) (shape : Shape) → (1 < length shape.bodies → IsSome start) → AreCallers code births s t start f shape [] 0
  above : (f : FrameId) (shape : Shape) (c : Caller) (callers : List Caller) (u : Shape) (n : ℕ) → length shape.bodies ≡ 1
      → c.frame.number < f.number
      → IsCaller code births s t c u → AreCallers code births s t start c.frame u callers n
      → AreCallers code births s t start f shape (c ∷ callers) (own_blocks u + n)

-- so many blocks from this one on were entered by the thread, and round them is the one in which it was started
pub data HasEntered (blocks : List (Option Block)) (t : Item) (start : Option BlockId) : ℕ → Option BlockId → Type 0 where
  outside : HasEntered blocks t start 0 start
  inside : (n : ℕ) (b : BlockId) (x : Block) → block_at blocks b ≡ Some x → x.owner ≡ t → HasEntered blocks t start n x.parent
      → HasEntered blocks t start (1 + n) (Some b)

pub record IsThread (code : Parts) (births : List Birth) (s : Store) (blocks : List (Option Block)) (t : Item) (start : Option BlockId)
    (h : Thread) : Type 0 where
  pub shape : Shape
  pub top : IsActivation code births s t h.place h.frame h.operands shape.operands shape
  pub below : ℕ
  pub callers : AreCallers code births s t start h.frame shape h.callers below
  pub entered : HasEntered blocks t start (own_blocks shape + below) h.block

-- ---- threads and blocks

pub data Phase : Type 0 where
  Gone : Phase
  Going : Phase
  AtFinish : BlockId → Phase

-- a thread from its start on, and the block in which it was started
pub record Life : Type 0 where
  pub phase : Phase
  pub start : Option BlockId
  pub thread : Thread

abbrev pub no_life : Life
no_life = record { phase = Gone; start = None; thread = nobody }

abbrev pub life_at : List Life → Item → Life
life_at lives t = slice_index_or lives t.number no_life

abbrev pub is_living : Phase → Bool
is_living Gone = false
is_living _ = true

abbrev pub is_going : Phase → Bool
is_going Going = true
is_going _ = false

abbrev pub is_at : Option BlockId → BlockId → Bool
is_at None b = false
is_at (Some a) b = nat_eq a.number b.number

-- whether it lives and was started directly in the block
abbrev pub starts_in : BlockId → Life → ℕ
starts_in b l = if is_living l.phase then one_if (is_at l.start b) else 0

abbrev pub total : {A : Type 0} → (A → ℕ) → List A → ℕ
total f [] = 0
total f (x ∷ xs) = f x + total f xs

-- the innermost block that the thread has entered or was started in; an owner that waits is still in its block
abbrev pub innermost_in : Phase → Option BlockId → Option BlockId
innermost_in Gone block = None
innermost_in Going block = block
innermost_in (AtFinish b) block = Some b

abbrev pub innermost : Life → Option BlockId
innermost l = innermost_in l.phase l.thread.block

pub record IsBlock (lives : List Life) (blocks : List (Option Block)) (b : BlockId) (x : Block) : Type 0 where
  -- its owner is in it
  pub inner : BlockId
  pub innermost : innermost (life_at lives x.owner) ≡ Some inner
  pub within : b.number ≤ inner.number
  -- the blocks that its owner entered before lie round it
  pub nested : (c : BlockId) (y : Block) → block_at blocks c ≡ Some y → y.owner ≡ x.owner → c.number < b.number
      → (p : BlockId) × ((x.parent ≡ Some p) × (c.number ≤ p.number))
  -- its parent was entered by the same thread, or that thread was started in it
  pub rooted : (p : BlockId) → x.parent ≡ Some p
      → (p.number < b.number) ×
      ((y : Block) × ((block_at blocks p ≡ Some y) × ((y.owner ≡ x.owner) ⊎ ((life_at lives x.owner).start ≡ Some p))))
  -- it is newer than the block in which its owner was started
  pub newer : (a : BlockId) → (life_at lives x.owner).start ≡ Some a → a.number < b.number
  pub count : x.count ≡ total (starts_in b) lives
  pub waits : x.waits ≡ true → (life_at lives x.owner).phase ≡ AtFinish b

-- the block in which it was started is there, and its owner is an older thread
pub record IsStarted (blocks : List (Option Block)) (t : Item) (b : BlockId) : Type 0 where
  pub block : Block
  pub here : block_at blocks b ≡ Some block
  pub older : block.owner.number < t.number

-- the block at whose finish it waits, since a thread of it lives
pub record IsWaiting (blocks : List (Option Block)) (t : Item) (b : BlockId) (h : Thread) : Type 0 where
  pub block : Block
  pub here : block_at blocks b ≡ Some block
  pub owner : block.owner ≡ t
  pub waits : block.waits ≡ true
  pub some : 0 < block.count
  pub round : h.block ≡ block.parent

pub record IsAlive (code : Parts) (births : List Birth) (s : Store) (blocks : List (Option Block)) (t : Item) (l : Life) : Type 0 where
  pub thread : IsThread code births s blocks t l.start l.thread
  pub started : (b : BlockId) → l.start ≡ Some b → IsStarted blocks t b
  pub waiting : (b : BlockId) → l.phase ≡ AtFinish b → IsWaiting blocks t b l.thread

-- ---- the whole

abbrev pub one_at : ℕ → Item → ℕ
one_at u t = one_if (nat_eq u t.number)

abbrev pub occurs : ℕ → List Item → ℕ
occurs u [] = 0
occurs u (t ∷ ts) = one_at u t + occurs u ts

abbrev pub runs : ℕ → Option Item → ℕ
runs u None = 0
runs u (Some t) = one_at u t

-- ---- operations

-- the threads that wait for their ends
abbrev pub items_of : List Operation → List Item
items_of os = map (λ (o : Operation). o.item) os

-- a thread as it will go on: with an int on top, whatever it is, where it waits for the end of an operation
abbrev pub going_on : List Operation → Item → Thread → Thread
going_on [] t h = h
going_on (o ∷ os) t h = if nat_eq t.number o.item.number then given no_int h else going_on os t h

-- a message that is sent on a channel has as many ints as its width, one is received into as many, and what is read comes into an array
-- of ints
abbrev pub IsAsked : Parts → List Birth → ℕ → Asked → Type 0
IsAsked code births link (asked.Send message) = length message ≡ width_of code link
IsAsked code births link (asked.Recv place) = IsIntArray code births (Some (width_of code link)) place
IsAsked code births link (asked.Read file from into) = IsIntArray code births None into
IsAsked code births link (asked.Write file from bytes) = Unit {0}

-- ---- all of it

pub record IsFit (code : Parts) (m : Flat) : Type 0 where
  pub births : List Birth
  pub lives : List Life
  pub store : IsStore code births m.store
  pub alive : (t : Item) → is_living (life_at lives t).phase ≡ true → IsAlive code births m.store m.blocks t (life_at lives t)
  pub block : (b : BlockId) (x : Block) → block_at m.blocks b ≡ Some x → IsBlock lives m.blocks b x
  -- the first thread lives until the core ends
  pub first : is_living (life_at lives (record { number = 0 })).phase ≡ true
  pub free : (life_at lives (record { number = 0 })).start ≡ None
  -- just the threads that go run, are ready or wait for the end of an operation, each once
  pub listed : (u : ℕ) → runs u m.running + (occurs u m.ready + occurs u (items_of m.operations))
      ≡ one_if (is_going (life_at lives (record { number = u })).phase)
  pub asks : All (λ (o : Operation). IsAsked code births o.link o.asked) m.operations
  pub many : length lives ≡ length m.threads
  pub current : (t : Item) → m.running ≡ Some t → m.current ≡ (life_at lives t).thread
  pub parked : (t : Item) → is_living (life_at lives t).phase ≡ true → (m.running ≡ Some t → ⊥)
      → going_on m.operations t (thread_at m.threads t) ≡ (life_at lives t).thread

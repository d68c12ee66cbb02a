-- What a thread keeps when births, frames and blocks change that are not its own.
-- `Carries` says which frames go on, `KeepsBlocks` which blocks; a thread of which all frames and blocks are among those stays as it was.
-- By induction over its bodies, its callers and its blocks.
use Rattle.stack_code.specs.Shapes.{width_of}
use Rattle.std.proofs.Common.{◌≡◌, ℕ, ◌+◌, ◌≤◌, ◌<◌, List, [], ◌∷◌, length, Option, Some, None, false, refl, sym, ap, ◌∙◌, subst, arith}
use Rattle.std.specs.Prelude.{slice_get}
use Rattle.work_item.specs.declared.ids.FrameId.{FrameId}
use Rattle.work_item.specs.declared.ids.Item.{Item}
use Rattle.work_item.specs.declared.ids.BlockId.{BlockId}
use Rattle.work_item.specs.declared.cell.Cell.{Cell}
use Rattle.work_item.specs.declared.cell.Cell.TheVariants as cell
use Rattle.work_item.specs.Store.{Store, Frame, frame_at}
use Rattle.cancel_scope.specs.declared.operation.Asked.{Asked}
use Rattle.cancel_scope.specs.declared.operation.Asked.TheVariants as asked
use Rattle.stack_code.specs.declared.shape.CellKind.{CellKind}
use Rattle.stack_code.specs.declared.shape.CellKind.TheVariants as kind
use Rattle.stack_code.specs.declared.shape.Home.{Home}
use Rattle.stack_code.specs.declared.shape.Body.{Body}
use Rattle.stack_code.specs.declared.shape.Shape.{Shape}
use Rattle.stack_code.specs.Parts.{Parts}
use Rattle.code_meaning.specs.Machine.{Caller, Thread, Block, block_at}
use Rattle.code_safety.specs.Fit.{Birth, Born, HoldsInts, HasKind, HaveKinds, AreSlots, IsFrame, IsBody, AreBodies, last, more, Goes, own_blocks}
use Rattle.code_safety.specs.Fit.{IsActivation, IsCaller, AreCallers, bottom, above, HasEntered, outside, inside, IsThread, IsAsked}

-- ---- births

-- each birth stays where it is
abbrev pub Grown : List Birth → List Birth → Type 0
Grown old new = (n : ℕ) (b : Birth) → slice_get old n ≡ Some b → slice_get new n ≡ Some b

module _ (code : Parts) (old new : List Birth) (grown : Grown old new) where
  ints_grown : (home : Option FrameId) (start len : ℕ) → HoldsInts code old home start len → HoldsInts code new home start len
  ints_grown None start len h = h
  ints_grown (Some f) start len h = record { birth = h.birth; born = grown f.number h.birth h.born; inside = h.inside; plain = h.plain }

  pub kind_grown : (k : CellKind) (x : Cell) → HasKind code old k x → HasKind code new k x
  kind_grown kind.Int (cell.Int v) h = tt
  kind_grown kind.Int (cell.Array place) h = absurd h
  kind_grown kind.Int (cell.Block b) h = absurd h
  kind_grown (kind.Reference len) (cell.Int v) h = absurd h
  kind_grown (kind.Reference len) (cell.Array place) h = record { short = h.short; ints = ints_grown place.home place.start place.len h.ints; exact = h.exact }
  kind_grown (kind.Reference len) (cell.Block b) h = absurd h

  pub kinds_grown : (kinds : List CellKind) (operands : List Cell) → HaveKinds code old kinds operands → HaveKinds code new kinds operands
  kinds_grown [] [] h = tt
  kinds_grown [] (x ∷ operands) h = absurd h
  kinds_grown (k ∷ kinds) [] h = absurd h
  kinds_grown (k ∷ kinds) (x ∷ operands) h = (kind_grown k x h.0, kinds_grown kinds operands h.1)

  pub asked_grown : (link : ℕ) (a : Asked) → IsAsked code old link a → IsAsked code new link a
  asked_grown link (asked.Send message) h = h
  asked_grown link (asked.Recv place) h = kind_grown (kind.Reference (Some (width_of code link))) (cell.Array place) h
  asked_grown link (asked.Read file from into) h = kind_grown (kind.Reference None) (cell.Array into) h
  asked_grown link (asked.Write file from bytes) h = tt

  pub slots_grown : (home : Home) (cells : List Cell) → AreSlots code old home cells → AreSlots code new home cells
  slots_grown home cells h slot x e =
      let i = h slot x e in
      record { array = λ a. kind_grown (kind.Reference None) x (i.array a); int = i.int }

  pub frame_grown : (f : FrameId) (x : Frame) → IsFrame code old f x → IsFrame code new f x
  frame_grown f x h = record { birth = h.birth; born = grown f.number h.birth h.born; slots = slots_grown h.birth.home x.cells h.slots; long = h.long; short = h.short }

-- ---- frames

-- it lies in the same frame and has as many slots
pub record Outline (x y : Frame) : Type 0 where
  pub parent : y.parent ≡ x.parent
  pub slots : length y.cells ≡ length x.cells

-- a frame of these that goes stays so, and what a frame lies in stays
pub record Carries (s t : Store) (P : FrameId → Type 0) : Type 0 where
  pub going : (f : FrameId) (x : Frame) → frame_at s f ≡ Some x → x.over ≡ false → P f → (y : Frame) × ((frame_at t f ≡ Some y) × (Outline x y × (y.over ≡ false)))
  pub round : (f p : FrameId) (y z : Frame) → frame_at t f ≡ Some y → y.parent ≡ Some p → p.number < f.number → frame_at s p ≡ Some z → (w : Frame) × ((frame_at t p ≡ Some w) × Outline z w)

same_frame : (x y : Frame) → Some x ≡ Some y → x ≡ y
same_frame x y e = cc

module _ (old new : List Birth) (grown : Grown old new) (s t : Store) (P : FrameId → Type 0) (carries : Carries s t P) where
  abbrev body_carried : (body : Body) (f : FrameId) (x y : Frame) → IsBody old s body f → frame_at s f ≡ Some x → frame_at t f ≡ Some y → Outline x y → IsBody new t body f
  body_carried body f x y h at_s at_t o =
      let same : h.frame ≡ x = same_frame h.frame x (sym h.here ∙ at_s) in
      record {
        birth = h.birth;
        born = grown f.number h.birth h.born;
        home = h.home;
        frame = y;
        here = at_t;
        slots = o.slots ∙ ap (λ (z : Frame). length z.cells) (sym same) ∙ h.slots;
      }

  first_frame_of : (bodies : List Body) (f : FrameId) → AreBodies old s bodies f → (x : Frame) × (frame_at s f ≡ Some x)
  first_frame_of _ _ (last body f h) = (h.frame, h.here)
  first_frame_of _ _ (more body bodies f p h parent lt rest) = (h.frame, h.here)

  pub bodies_carried : (bodies : List Body) (f : FrameId) (x y : Frame) → AreBodies old s bodies f → frame_at s f ≡ Some x → frame_at t f ≡ Some y → Outline x y → AreBodies new t bodies f
  bodies_carried _ _ x y (last body f h) at_s at_t o = last body f (body_carried body f x y h at_s at_t o)
  bodies_carried _ _ x y (more body bodies f p h parent lt rest) at_s at_t o =
      let same : h.frame ≡ x = same_frame h.frame x (sym h.here ∙ at_s) in
      let up : y.parent ≡ Some p = o.parent ∙ ap (λ (z : Frame). z.parent) (sym same) ∙ parent in
      let next = first_frame_of bodies p rest in
      let there = carries.round f p y next.0 at_t up lt next.1 in
      more body bodies f p (body_carried body f x y h at_s at_t o) up lt (bodies_carried bodies p next.0 there.0 rest next.1 there.1.0 there.1.1)

  pub goes_carried : (t' : Item) (f : FrameId) → Goes old s t' f → P f → Goes new t t' f
  goes_carried t' f h p =
      let k = carries.going f h.frame h.here h.going p in
      record { birth = h.birth; born = grown f.number h.birth h.born; item = h.item; frame = k.0; here = k.1.0; going = k.1.1.1 }

  pub all_bodies_carried : (t' : Item) (bodies : List Body) (f : FrameId) → Goes old s t' f → P f → AreBodies old s bodies f → AreBodies new t bodies f
  all_bodies_carried t' bodies f h p b =
      let k = carries.going f h.frame h.here h.going p in
      bodies_carried bodies f h.frame k.0 b h.here k.1.0 k.1.1.0

-- ---- activations

module _ (code : Parts) (old new : List Birth) (grown : Grown old new) (s t : Store) (P : FrameId → Type 0) (carries : Carries s t P) (item : Item) where
  pub activation_carried : (place : ℕ) (f : FrameId) (operands : List Cell) (kinds : List CellKind) (shape : Shape) → P f → IsActivation code old s item place f operands kinds shape
      → IsActivation code new t item place f operands kinds shape
  activation_carried place f operands kinds shape p h = record {
    reached = h.reached;
    have = kinds_grown code old new grown kinds operands h.have;
    bodies = all_bodies_carried old new grown s t P carries item shape.bodies f h.goes p h.bodies;
    goes = goes_carried old new grown s t P carries item f h.goes p;
    blocks = h.blocks;
  }

  pub caller_carried : (c : Caller) (u : Shape) → P c.frame → IsCaller code old s item c u → IsCaller code new t item c u
  caller_carried c u p h = record { kinds = h.kinds; one = h.one; activation = activation_carried c.place c.frame c.operands h.kinds u p h.activation }

  -- of the callers of a frame, whose frames are older
  pub callers_carried : (k : ℕ) (start : Option BlockId) (f : FrameId) (shape : Shape) (callers : List Caller) (n : ℕ) →
      ((g : FrameId) (birth : Birth) → Born old g birth → birth.item ≡ item → g.number < k → P g) → f.number ≤ k → AreCallers code old s item start f shape callers n
      → AreCallers code new t item start f shape callers n
  callers_carried k start _ _ _ _ all le (bottom f shape h) = bottom f shape h
  callers_carried k start _ _ _ _ all le (above f shape c callers u n one lt h rest) =
      let goes = h.activation.goes in
      let below : c.frame.number < k = omega (arith, lt, le) in
      let p = all c.frame goes.birth goes.born goes.item below in
      above f shape c callers u n one lt (caller_carried c u p h) (callers_carried k start c.frame u callers n all (omega (arith, below)) rest)

-- those of another shape with the same bodies
pub callers_as : (code : Parts) (births : List Birth) (s : Store) (item : Item) (start : Option BlockId) (f : FrameId) (shape u : Shape) (callers : List Caller) (n : ℕ) → u.bodies ≡ shape.bodies
    → AreCallers code births s item start f shape callers n → AreCallers code births s item start f u callers n
callers_as code births s item start _ _ u _ _ e (bottom f shape h) = bottom f u (λ lt. h (subst (λ bodies. 1 < length bodies) e lt))
callers_as code births s item start _ _ u _ _ e (above f shape c callers v n one lt h rest) = above f u c callers v n (ap length e ∙ one) lt h rest

-- ---- blocks

-- the blocks of a thread before that number keep their parents and their owner
abbrev pub KeepsBlocks : List (Option Block) → List (Option Block) → Item → ℕ → Type 0
KeepsBlocks old new t k = (b : BlockId) (x : Block) → block_at old b ≡ Some x → x.owner ≡ t → b.number < k
    → (y : Block) × ((block_at new b ≡ Some y) × ((y.owner ≡ x.owner) × (y.parent ≡ x.parent)))

-- the block lies before that number
abbrev pub IsBefore : ℕ → Option BlockId → Type 0
IsBefore k None = Unit {0}
IsBefore k (Some b) = b.number < k

-- each block of these is newer than its parent
abbrev pub AreRooted : List (Option Block) → Type 0
AreRooted blocks = (b : BlockId) (x : Block) (p : BlockId) → block_at blocks b ≡ Some x → x.parent ≡ Some p → p.number < b.number

module _ (old new : List (Option Block)) (rooted : AreRooted old) (t : Item) (start : Option BlockId) where
  parent_before : (k : ℕ) (b : BlockId) (x : Block) (o : Option BlockId) → x.parent ≡ o → block_at old b ≡ Some x → b.number < k → IsBefore k x.parent
  parent_before k b x None e here lt = subst (IsBefore k) (sym e) tt
  parent_before k b x (Some p) e here lt = let r = rooted b x p here e in let l : p.number < k = omega (arith, r, lt) in subst (IsBefore k) (sym e) l

  pub entered_kept : (k n : ℕ) (o : Option BlockId) → KeepsBlocks old new t k → IsBefore k o → HasEntered old t start n o → HasEntered new t start n o
  entered_kept k _ _ keeps before outside = outside
  entered_kept k _ _ keeps before (inside n b x here owner rest) =
      let y = keeps b x here owner before in
      let next = entered_kept k n x.parent keeps (parent_before k b x x.parent refl here before) rest in
      inside n b y.0 y.1.0 (y.1.1.0 ∙ owner) (subst (HasEntered new t start n) (sym y.1.1.1) next)

-- ---- threads

module _ (code : Parts) (births more_births : List Birth) (grown : Grown births more_births) (s t : Store) (P : FrameId → Type 0) (carries : Carries s t P)
    (old new : List (Option Block)) (rooted : AreRooted old) where
  -- a thread of whose frames and blocks none is given back
  abbrev pub thread_kept : (item : Item) (start : Option BlockId) (h : Thread) (k : ℕ) → ((g : FrameId) (birth : Birth) → Born births g birth → birth.item ≡ item → P g)
      → KeepsBlocks old new item k → IsBefore k h.block → IsThread code births s old item start h → IsThread code more_births t new item start h
  thread_kept item start h k all keeps before i =
      let goes = i.top.goes in
      record {
        shape = i.shape;
        top = activation_carried code births more_births grown s t P carries item h.place h.frame h.operands i.shape.operands i.shape (all h.frame goes.birth goes.born goes.item) i.top;
        below = i.below;
        callers = callers_carried code births more_births grown s t P carries item h.frame.number start h.frame i.shape h.callers i.below (λ g birth born is lt. all g birth born is)
            (omega arith) i.callers;
        entered = entered_kept old new rooted item start k (own_blocks i.shape + i.below) h.block keeps before i.entered;
      }

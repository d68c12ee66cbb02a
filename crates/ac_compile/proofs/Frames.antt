-- The shape of an address, from the frames round it: a body for each, and the blocks that are entered in them.
-- `ac_resolve` knows frames and uses, `stack_code` bodies and open blocks. `shape_of` makes the one of the other, and each law says what an
-- instruction finds in it.
use Rattle.std.proofs.Common.{◌≡◌, ℕ, zero, suc, ◌+◌, ◌-◌, ◌<◌, ◌≤◌, List, [], ◌∷◌, length, false, Some, refl, ap, ◌∙◌, arith, le-leb, eq-eqb}
use Rattle.std.specs.Prelude.{slice_get, ◌||◌, nat_eq}
use Rattle.std.specs.List.{list_any}
use Rattle.std.proofs.lemmas.Bool.{ne_eqb}
use Rattle.stack_code.specs.declared.shape.CellKind.{CellKind}
use Rattle.stack_code.specs.declared.shape.Home.{Home}
use Rattle.stack_code.specs.declared.shape.Home.TheVariants as home
use Rattle.stack_code.specs.declared.shape.Body.{Body}
use Rattle.stack_code.specs.declared.shape.OpenBlock.{OpenBlock}
use Rattle.stack_code.specs.declared.shape.Shape.{Shape}
use Rattle.stack_code.specs.Shapes.{body_with, is_block, is_entered, entered, has_own}
use Rattle.ac_resolve.specs.InPlace.{Use, FrameRound, frame_at, is_among, with_entered}

-- ---- bodies

-- that of the innermost frame
abbrev pub first_home : List Home → Home
first_home [] = home.Function 0
first_home (h ∷ homes) = h

abbrev pub other_homes : List Home → List Home
other_homes [] = []
other_homes (h ∷ homes) = homes

abbrev pub body_of : Home → FrameRound → Body
body_of h f = record { home = h; slots = length f.uses }

-- the body of each frame, by their homes
abbrev pub bodies_of : List Home → List FrameRound → List Body
bodies_of homes [] = []
bodies_of homes (f ∷ frames) = body_of (first_home homes) f ∷ bodies_of (other_homes homes) frames

abbrev pub home_of : List Home → ℕ → Home
home_of homes zero = first_home homes
home_of homes (suc level) = home_of (other_homes homes) level

pub bodies_length : (homes : List Home) (frames : List FrameRound) → length (bodies_of homes frames) ≡ length frames
bodies_length homes [] = refl
bodies_length homes (f ∷ frames) = ap suc (bodies_length (other_homes homes) frames)

pub body_here : (homes : List Home) (frames : List FrameRound) (level : ℕ) → level < length frames
    → slice_get (bodies_of homes frames) level ≡ Some (body_of (home_of homes level) (frame_at frames level))
body_here homes [] level lt = absurd (omega arith)
body_here homes (f ∷ frames) zero lt = refl
body_here homes (f ∷ frames) (suc level) lt = body_here (other_homes homes) frames level (omega arith)

-- ---- blocks

abbrev pub block_in : ℕ → ℕ → OpenBlock
block_in bodies slot = record { bodies = bodies; slot = slot }

-- those of one frame, round which so many bodies are with its own, and then others
abbrev pub own_blocks : ℕ → List ℕ → List OpenBlock → List OpenBlock
own_blocks bodies [] others = others
own_blocks bodies (slot ∷ slots) others = block_in bodies slot ∷ own_blocks bodies slots others

-- the innermost block first
abbrev pub blocks_of : List FrameRound → List OpenBlock
blocks_of [] = []
blocks_of (f ∷ frames) = own_blocks (suc (length frames)) f.entered (blocks_of frames)

abbrev pub shape_of : List Home → List FrameRound → List CellKind → Shape
shape_of homes frames kinds = record { bodies = bodies_of homes frames; blocks = blocks_of frames; operands = kinds }

-- a block of other bodies is not among those of one frame
passed_over : (bodies at slot : ℕ) (slots : List ℕ) (others : List OpenBlock) → nat_eq bodies at ≡ false →
    list_any (is_block at slot) (own_blocks bodies slots others) ≡ list_any (is_block at slot) others
passed_over bodies at slot [] others e = refl
passed_over bodies at slot (x ∷ slots) others e = rw e (passed_over bodies at slot slots others e)

-- no block has more bodies than there are frames
none_beyond : (frames : List FrameRound) (at slot : ℕ) → length frames < at → list_any (is_block at slot) (blocks_of frames) ≡ false
none_beyond [] at slot lt = refl
none_beyond (f ∷ frames) at slot lt =
    passed_over (suc (length frames)) at slot f.entered (blocks_of frames) (ne_eqb (suc (length frames)) at (λ e. omega (arith, e, lt))) ∙ none_beyond frames at slot (omega arith)

own_entered : (bodies slot : ℕ) (slots : List ℕ) (others : List OpenBlock) → list_any (is_block bodies slot) others ≡ false →
    list_any (is_block bodies slot) (own_blocks bodies slots others) ≡ is_among slot slots
own_entered bodies slot [] others e = e
own_entered bodies slot (x ∷ slots) others e = rw (eq-eqb bodies bodies refl) (ap (λ b. nat_eq x slot || b) (own_entered bodies slot slots others e))

entered_in : (frames : List FrameRound) (level slot : ℕ) → level < length frames →
    list_any (is_block (length frames - level) slot) (blocks_of frames) ≡ is_among slot (frame_at frames level).entered
entered_in [] level slot lt = absurd (omega arith)
entered_in (f ∷ frames) zero slot lt =
    let n : suc (length frames) - zero ≡ suc (length frames) = omega arith in
    rw n (own_entered (suc (length frames)) slot f.entered (blocks_of frames) (none_beyond frames (suc (length frames)) slot (omega arith)))
entered_in (f ∷ frames) (suc level) slot lt =
    let n : suc (length frames) - suc level ≡ length frames - level = omega arith in
    rw n (passed_over (suc (length frames)) (length frames - level) slot f.entered (blocks_of frames) (ne_eqb (suc (length frames)) (length frames - level) (λ e. omega (arith, e)))
    ∙ entered_in frames level slot (omega arith))

pub entered_at : (homes : List Home) (frames : List FrameRound) (kinds : List CellKind) (level slot : ℕ) → level < length frames →
    is_entered (shape_of homes frames kinds) level slot ≡ is_among slot (frame_at frames level).entered
entered_at homes frames kinds level slot lt = rw (bodies_length homes frames) (entered_in frames level slot lt)

-- what `Enter` makes of a shape
pub entered_shape : (homes : List Home) (frames : List FrameRound) (kinds : List CellKind) (slot : ℕ) → 0 < length frames →
    entered slot (shape_of homes frames kinds) ≡ shape_of homes (with_entered slot frames) kinds
entered_shape homes [] kinds slot lt = absurd (omega arith)
entered_shape homes (f ∷ frames) kinds slot lt = rw (bodies_length (other_homes homes) frames) refl

pub some_entered : (frames : List FrameRound) (slot : ℕ) → 0 < length frames → 0 < length (blocks_of (with_entered slot frames))
some_entered [] slot lt = absurd (omega arith)
some_entered (f ∷ frames) slot lt = omega arith

pub entered_length : (frames : List FrameRound) (slot : ℕ) → length (with_entered slot frames) ≡ length frames
entered_length [] slot = refl
entered_length (f ∷ frames) slot = refl

-- ---- the innermost frame

-- the body of an `Async` enters no block before its first statement
pub no_own : (homes : List Home) (uses : List Use) (frames : List FrameRound) (kinds : List CellKind) →
    has_own (shape_of homes (record { uses = uses; entered = [] } ∷ frames) kinds) ≡ false
no_own homes uses frames kinds = rw (bodies_length (other_homes homes) frames) (none_own frames (suc (length frames)) (omega arith)) where
  none_in : (bodies at : ℕ) (slots : List ℕ) (others : List OpenBlock) → nat_eq bodies at ≡ false →
      list_any (λ (block : OpenBlock). nat_eq block.bodies at) (own_blocks bodies slots others) ≡ list_any (λ (block : OpenBlock). nat_eq block.bodies at) others
  none_in bodies at [] others e = refl
  none_in bodies at (x ∷ slots) others e = rw e (none_in bodies at slots others e)

  none_own : (fs : List FrameRound) (at : ℕ) → length fs < at → list_any (λ (block : OpenBlock). nat_eq block.bodies at) (blocks_of fs) ≡ false
  none_own [] at lt = refl
  none_own (f ∷ fs) at lt = none_in (suc (length fs)) at f.entered (blocks_of fs) (ne_eqb (suc (length fs)) at (λ e. omega (arith, e, lt))) ∙ none_own fs at (omega arith)

-- the frame so many levels up has so many slots from that one on
pub body_there : (homes : List Home) (frames : List FrameRound) (kinds : List CellKind) (level slot len : ℕ) → level < length frames → slot + len ≤ length (frame_at frames level).uses →
    body_with (shape_of homes frames kinds) level slot len ≡ Some (body_of (home_of homes level) (frame_at frames level))
body_there homes frames kinds level slot len lt le = rw (body_here homes frames level lt, le-leb (slot + len) (length (frame_at frames level).uses) le) refl

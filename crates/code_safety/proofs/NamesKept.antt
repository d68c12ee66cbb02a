-- What an instruction that concerns its own thread alone leaves among the operands, and sets in the frames, names frames of its chain.
-- By cases on the instruction: an int names nothing, an array of a slot is in a frame round the thread, and what is loaded stands in one.
use Rattle.std.proofs.Common.{◌≡◌, ℕ, ◌+◌, List, [], ◌∷◌, length, take, drop, map, Option, Some, None, Result, Ok, Err, Bool, true, false, refl}
use Rattle.std.specs.Prelude.{if◌then◌else◌, ℤ, slice_index_or, nat_le, nat_lt, reverse}
use Rattle.ac_base.specs.declared.ends.Trap.{Trap}
use Rattle.ac_base.specs.declared.ends.EndWord.TheVariants as word
use Rattle.work_item.specs.declared.ids.Item.{Item}
use Rattle.work_item.specs.declared.ids.FrameId.{FrameId}
use Rattle.work_item.specs.declared.cell.Cell.{Cell}
use Rattle.work_item.specs.declared.cell.Cell.TheVariants as cell
use Rattle.work_item.specs.Store.{Store, Frame, frame_at, no_cells, cell_of, cell_at, no_int, place_in, int_in, global_at, with_cell_at, with_global, with_cleared, above}
use Rattle.core_state.specs.Moves.{Move, On}
use Rattle.core_state.specs.Arithmetic.{Computed, at_zero, bind, truth, negated, not_true, flipped, sum_of, difference_of, product_of, quotient, remainder}
use Rattle.core_state.specs.Arithmetic.{shifted_left, shifted_right, is_equal, is_not_equal, is_less, is_at_most, both_bits, either_bits, differing_bits}
use Rattle.core_state.specs.Frames.{within, element, set_element, one_place, part_at}
use Rattle.core_state.specs.Shared.{Shared, with_step, printed, formatted}
use Rattle.stack_code.specs.declared.instr.Instr.{Instr}
use Rattle.stack_code.specs.declared.instr.Instr.TheVariants as i
use Rattle.stack_code.specs.Parts.{Parts}
use Rattle.code_meaning.specs.Machine as flat
use Rattle.code_meaning.specs.Machine.{Flat, FlatEnd, seen_of, with_shared, with_store, begin, or_trap, on_top, on_two, on_three, on_many, one_operand, two_operands, text_at, always}
use Rattle.code_safety.specs.Chains.{Origin, parent_of, Came, OnChain, Names, AllName}
use Rattle.code_safety.proofs.Plain.{is_plain, Onward, trap_on}
use Rattle.code_safety.proofs.Chained.{chain_on, above_on, name_onto, name_at, names_drop, place_on}
use Rattle.code_safety.proofs.LinkedFrames.{SameFrames, same_frames, global_frames, cell_frames, cleared_frames, element_frames}

-- its operands name frames of the chain of its frame, and so does each frame
pub record KeepsNames (origins : List Origin) (m n : Flat) : Type 0 where
  pub operands : AllName origins m.current.frame n.current.operands
  pub store : SameFrames origins m.store n.store

module _ (origins : List Origin) (m : Flat) (a : AllName origins m.current.frame m.current.operands)
    (from : (f : FrameId) (x : Frame) → frame_at m.store f ≡ Some x → (o : Origin) × (Came origins f o × (x.parent ≡ parent_of o)))
    (cells : (f : FrameId) (x : Frame) → frame_at m.store f ≡ Some x → AllName origins f x.cells) where
  abbrev f : FrameId
  f = m.current.frame

  abbrev ops : List Cell
  ops = m.current.operands

  abbrev Named : Flat → Type 0
  Named n = KeepsNames origins m n

  abbrev Goal : Move Flat FlatEnd → Type 0
  Goal x = Onward Named x

  stays : Goal (On m)
  stays = record { operands = a; store = same_frames origins m.store }

  -- ---- operands that are taken

  top : (go : Cell → List Cell → Move Flat FlatEnd) → ((x : Cell) (below : List Cell) → Names origins f x → AllName origins f below → Goal (go x below)) → Goal (on_top m go ops)
  top go h = by ops a
    where
      by : (l : List Cell) → AllName origins f l → Goal (on_top m go l)
      by [] n = stays
      by (x ∷ below) n = h x below n.0 n.1

  two : (go : Cell → Cell → List Cell → Move Flat FlatEnd)
      → ((x y : Cell) (below : List Cell) → Names origins f x → Names origins f y → AllName origins f below → Goal (go x y below)) → Goal (on_two m go ops)
  two go h = by ops a
    where
      by : (l : List Cell) → AllName origins f l → Goal (on_two m go l)
      by [] n = stays
      by (y ∷ []) n = stays
      by (y ∷ x ∷ below) n = h x y below n.1.0 n.0 n.1.1

  three : (go : Cell → Cell → Cell → List Cell → Move Flat FlatEnd) → ((x y z : Cell) (below : List Cell) → AllName origins f below → Goal (go x y z below)) → Goal (on_three m go ops)
  three go h = by ops a
    where
      by : (l : List Cell) → AllName origins f l → Goal (on_three m go l)
      by [] n = stays
      by (z ∷ []) n = stays
      by (z ∷ y ∷ []) n = stays
      by (z ∷ y ∷ x ∷ below) n = h x y z below n.1.1.1

  many : (count : ℕ) (go : List Cell → List Cell → Move Flat FlatEnd) → Goal (go (reverse (take count ops)) (drop count ops)) → Goal (on_many m count go ops)
  many count go h = by (nat_le count (length ops))
    where
      by : (b : Bool) → Goal (if b then go (reverse (take count ops)) (drop count ops) else On m)
      by true = h
      by false = stays

  -- ---- what comes of it

  puts : (shared : Shared) (operands : List Cell) → AllName origins f operands → Goal (flat.goes (with_shared m shared) operands)
  puts shared operands n = record { operands = n; store = same_frames origins m.store }

  sets : (store : Store) (operands : List Cell) → SameFrames origins m.store store → AllName origins f operands → Goal (flat.goes (with_store m store) operands)
  sets store operands k n = record { operands = n; store = k }

  jumps : (to : ℕ) (operands : List Cell) → AllName origins f operands → Goal (flat.goes_to to m operands)
  jumps to operands n = record { operands = n; store = same_frames origins m.store }

  unary : (g : ℤ → ℤ) → Goal (one_operand m g)
  unary g = top (λ x below. flat.goes m (cell.Int (g (int_in x)) ∷ below)) (λ x below n all. puts m.shared (cell.Int (g (int_in x)) ∷ below) (tt, all))

  binary : (g : ℤ → ℤ → Computed) → Goal (two_operands m g)
  binary g = two (λ x y below. or_trap m (g (int_in x) (int_in y)) (λ v. flat.goes m (cell.Int v ∷ below)))
      (λ x y below n k all. trap_on Named m (g (int_in x) (int_in y)) (λ v. flat.goes m (cell.Int v ∷ below)) (λ v _. puts m.shared (cell.Int v ∷ below) (tt, all)))

  -- a slot of a frame round the thread names a frame of the chain
  loaded : (level slot : ℕ) → Names origins f (cell_at m.store f level slot)
  loaded level slot = go (above m.store f level) (above_on origins m.store from level f)
    where
      by : (g : FrameId) → OnChain origins f g → (o : Option Frame) → frame_at m.store g ≡ o → Names origins f (slice_index_or (no_cells o) slot no_int)
      by g c None e = tt
      by g c (Some x) e = name_onto origins origins g f (λ h d. chain_on origins f g h c d) (slice_index_or x.cells slot no_int) (name_at origins g x.cells slot (cells g x e))

      go : (g : FrameId) → OnChain origins f g → Names origins f (cell_of m.store g slot)
      go g c = by g c (frame_at m.store g) refl

  parts : (x : Cell) (index : ℤ) (below : List Cell) → Names origins f x → AllName origins f below → Goal (or_trap m (part_at (place_in x) index) (λ part. flat.goes m (cell.Array part ∷ below)))
  parts x index below n all = go (within (place_in x) index)
    where
      go : (r : Result ℕ Trap) → Goal (or_trap m (bind r (λ k. Ok (one_place (place_in x) k))) (λ part. flat.goes m (cell.Array part ∷ below)))
      go (Ok k) = puts m.shared (cell.Array (one_place (place_in x) k) ∷ below) (place_on origins f x n, all)
      go (Err trap) = tt

  steps : (b : Bool) → Goal (if b then flat.goes (with_shared m (with_step m.shared)) ops else flat.ends (seen_of word.OutOfSteps false m) m.count)
  steps true = puts (with_step m.shared) ops a
  steps false = tt

  -- Each instruction is one of the ways above to take operands and push; the hard one is a load, whose slot may hold an array.
  pub keeps_names : (code : Parts) (bound : ℕ) (t : Item) (instr : Instr) → is_plain instr ≡ true → Goal (begin code bound m t (Some instr))
  keeps_names code bound t i.Step p = steps (nat_lt m.shared.steps bound)
  keeps_names code bound t (i.Push value) p = puts m.shared (cell.Int value ∷ ops) (tt, a)
  keeps_names code bound t (i.Load level slot) p = puts m.shared (cell_at m.store f level slot ∷ ops) (loaded level slot, a)
  keeps_names code bound t (i.LoadG slot) p = puts m.shared (cell.Int (global_at m.store slot) ∷ ops) (tt, a)
  keeps_names code bound t (i.Store level slot) p = top (λ x below. flat.goes (with_store m (with_cell_at m.store f level slot (cell.Int (int_in x)))) below)
      (λ x below n all. sets (with_cell_at m.store f level slot (cell.Int (int_in x))) below
      (cell_frames origins m.store (above m.store f level) slot (cell.Int (int_in x)) (λ g. (tt, tt))) all)
  keeps_names code bound t (i.StoreG slot) p = top (λ x below. flat.goes (with_store m (with_global m.store slot (int_in x))) below)
      (λ x below n all. sets (with_global m.store slot (int_in x)) below (global_frames origins m.store slot (int_in x)) all)
  keeps_names code bound t (i.Arr level slot len) p =
      puts m.shared (cell.Array (record { home = Some (above m.store f level); start = slot; len = len }) ∷ ops) (above_on origins m.store from level f, a)
  keeps_names code bound t (i.ArrG slot len) p = puts m.shared (cell.Array (record { home = None; start = slot; len = len }) ∷ ops) (tt, a)
  keeps_names code bound t i.Elem p = two (λ x y below. or_trap m (element m.store (place_in x) (int_in y)) (λ v. flat.goes m (cell.Int v ∷ below)))
      (λ x y below n k all. trap_on Named m (element m.store (place_in x) (int_in y)) (λ v. flat.goes m (cell.Int v ∷ below)) (λ v _. puts m.shared (cell.Int v ∷ below) (tt, all)))
  keeps_names code bound t i.SetElem p = three (λ x y z below. or_trap m (set_element m.store (place_in y) (int_in z) (int_in x)) (λ store. flat.goes (with_store m store) below))
      (λ x y z below all. trap_on Named m (set_element m.store (place_in y) (int_in z) (int_in x)) (λ store. flat.goes (with_store m store) below)
      (λ store e. sets store below (element_frames origins m.store (place_in y) (int_in z) (int_in x) store e) all))
  keeps_names code bound t i.Place p = two (λ x y below. or_trap m (part_at (place_in x) (int_in y)) (λ part. flat.goes m (cell.Array part ∷ below)))
      (λ x y below n k all. parts x (int_in y) below n all)
  keeps_names code bound t (i.Clear slot len) p = sets (with_cleared m.store f slot len) ops (cleared_frames origins m.store f slot len) a
  keeps_names code bound t i.Neg p = unary negated
  keeps_names code bound t i.Not p = unary not_true
  keeps_names code bound t i.Flip p = unary flipped
  keeps_names code bound t i.Bool p = unary truth
  keeps_names code bound t i.BitOr p = binary (always either_bits)
  keeps_names code bound t i.BitXor p = binary (always differing_bits)
  keeps_names code bound t i.BitAnd p = binary (always both_bits)
  keeps_names code bound t i.Eq p = binary (always is_equal)
  keeps_names code bound t i.Ne p = binary (always is_not_equal)
  keeps_names code bound t i.Less p = binary (always is_less)
  keeps_names code bound t i.LessEq p = binary (always is_at_most)
  keeps_names code bound t i.More p = binary (always (λ x y. is_less y x))
  keeps_names code bound t i.MoreEq p = binary (always (λ x y. is_at_most y x))
  keeps_names code bound t i.Shl p = binary (always shifted_left)
  keeps_names code bound t i.Shr p = binary (always shifted_right)
  keeps_names code bound t i.Add p = binary (always sum_of)
  keeps_names code bound t i.Sub p = binary (always difference_of)
  keeps_names code bound t i.Mul p = binary (always product_of)
  keeps_names code bound t i.Div p = binary quotient
  keeps_names code bound t i.Rem p = binary remainder
  keeps_names code bound t i.Drop p = top (λ x below. flat.goes m below) (λ x below n all. puts m.shared below all)
  keeps_names code bound t (i.Jump to) p = jumps to ops a
  keeps_names code bound t (i.Jz to) p = top (λ x below. flat.goes_to (at_zero (int_in x) to (m.current.place + 1)) m below)
      (λ x below n all. jumps (at_zero (int_in x) to (m.current.place + 1)) below all)
  keeps_names code bound t (i.Jnz to) p = top (λ x below. flat.goes_to (at_zero (int_in x) (m.current.place + 1) to) m below)
      (λ x below n all. jumps (at_zero (int_in x) (m.current.place + 1) to) below all)
  keeps_names code bound t (i.Print text count) p = many count (λ args below. or_trap m (printed m.shared (formatted (text_at code text) (map int_in args))) (λ h. flat.goes (with_shared m h) below))
      (trap_on Named m (printed m.shared (formatted (text_at code text) (map int_in (reverse (take count ops))))) (λ h. flat.goes (with_shared m h) (drop count ops))
      (λ h _. puts h (drop count ops) (names_drop origins f count ops a)))
  keeps_names code bound t _ p = let no : false ≡ true = p in absurd (cc)

-- What a thread sets keeps the frames as long as they are, and each slot as its uses ask.
-- A code names each slot in one use (`HasOneUse`), so an int is set only where no array parameter and no block number is kept; each way to
-- set a cell is shown from that.
use Rattle.std.proofs.Common.{◌≡◌, ◌⊎◌, ℕ, zero, suc, ◌+◌, ◌≤◌, ◌<◌, ◌^◌, List, [], ◌∷◌, length, Option, Some, None, Bool, true, false, refl, sym, ap, ◌∙◌, subst, inl, inr, arith}
use Rattle.std.specs.Prelude.{ℤ, slice_get, slice_index_or, slice_set, unwrap_or}
use Rattle.std.proofs.lemmas.Bool.{cases_eq}
use Rattle.std.proofs.lemmas.List.{length-set, get_or-set_other}
use Rattle.graph_ranks.proofs.Places.{set_cases}
use Rattle.work_item.specs.declared.ids.FrameId.{FrameId}
use Rattle.work_item.specs.declared.ids.BlockId.{BlockId}
use Rattle.work_item.specs.declared.cell.Cell.{Cell}
use Rattle.work_item.specs.declared.cell.Cell.TheVariants as cell
use Rattle.work_item.specs.declared.cell.Place.{Place}
use Rattle.work_item.specs.Store.{Store, Frame, frame_at, no_cells, cells_of, some_with, with_cells, with_cell, with_global, with_int_from, with_int_at, no_int, cleared, cleared_front, with_cleared}
use Rattle.work_item.proofs.Clearing.{length-cleared}
use Rattle.stack_code.specs.declared.shape.Home.{Home}
use Rattle.stack_code.specs.Parts.{Parts}
use Rattle.stack_code.specs.Shapes.{is_array, params_of}
use Rattle.stack_code.specs.Valid as valid
use Rattle.stack_code.specs.Valid.{Use, Uses, AsInt, AsReference, AsBlock, HasOneUse}
use Rattle.code_safety.specs.Fit.{Birth, Born, HoldsInts, IsIntArray, IsSlot, AreSlots, IsFrame, IsStore}
use Rattle.code_safety.proofs.Lasting.{Outline, Carries}

-- ---- uses

is_some_true : (o : Option Bool) → unwrap_or o false ≡ true → o ≡ Some true
is_some_true None e = let no : false ≡ true = e in cc
is_some_true (Some b) e = ap (λ (x : Bool). Some x) e

module _ (code : Parts) (one : HasOneUse code) (home : Home) (slot : ℕ) where
  -- a slot with another use is no parameter that is an array
  pub no_array : (u : Use) → Uses code home slot u → (u ≡ AsReference → ⊥) → is_array code home slot ≡ false
  no_array u h other = go (is_array code home slot) refl
    where
      go : (b : Bool) → is_array code home slot ≡ b → is_array code home slot ≡ false
      go false e = e
      go true e = absurd (other (one home slot u AsReference h (valid.param true (is_some_true (slice_get (params_of code home) slot) e))))

  pub int_slot : (births : List Birth) (value : ℤ) → is_array code home slot ≡ false → IsSlot code births home slot (cell.Int value)
  int_slot births value e = record { array = λ a. let no : false ≡ true = sym e ∙ a in absurd (cc); int = λ h. refl }

  pub used_as_int : (births : List Birth) (value : ℤ) → Uses code home slot AsInt → IsSlot code births home slot (cell.Int value)
  used_as_int births value h = int_slot births value (no_array AsInt h (λ e. cc))

  pub used_as_block : (births : List Birth) (b : BlockId) → Uses code home slot AsBlock → IsSlot code births home slot (cell.Block b)
  used_as_block births b h = record {
    array = λ a. let e = no_array AsBlock h (λ e. cc) in let no : false ≡ true = sym e ∙ a in absurd (cc);
    int = λ i. let no : AsInt ≡ AsBlock = one home slot AsInt AsBlock i h in absurd (cc);
  }

-- ---- one frame

-- each frame stays, with as many slots, whether its activation or body has ended or not
abbrev pub KeepsFrames : Store → Store → Type 0
KeepsFrames s t = (f : FrameId) (x : Frame) → frame_at s f ≡ Some x → (y : Frame) × ((frame_at t f ≡ Some y) × (Outline x y × (y.over ≡ x.over)))

pub record KeepsStore (code : Parts) (births : List Birth) (s t : Store) : Type 0 where
  pub store : IsStore code births t
  pub frames : KeepsFrames s t
  pub carries : Carries s t (λ f. Unit {0})

carries_all : (s t : Store) → KeepsFrames s t → Carries s t (λ f. Unit {0})
carries_all s t frames = record {
  going = λ f x e going p. let c = frames f x e in (c.0, (c.1.0, (c.1.1.0, c.1.1.1 ∙ going)));
  round = λ f p y z e up lt at_p. let c = frames p z at_p in (c.0, (c.1.0, c.1.1.0));
}

pub keeps_store : (code : Parts) (births : List Birth) (s t : Store) → IsStore code births t → KeepsFrames s t → KeepsStore code births s t
keeps_store code births s t store frames = record { store = store; frames = frames; carries = carries_all s t frames }

-- one change after another
pub then_kept : (code : Parts) (births : List Birth) (s t u : Store) → KeepsStore code births s t → KeepsStore code births t u → KeepsStore code births s u
then_kept code births s t u first next = keeps_store code births s u next.store (λ f x e.
    let y = first.frames f x e in
    let z = next.frames f y.0 y.1.0 in
    let outline : Outline x z.0 = record { parent = z.1.1.0.parent ∙ y.1.1.0.parent; slots = z.1.1.0.slots ∙ y.1.1.0.slots } in
    (z.0, (z.1.0, (outline, z.1.1.1 ∙ y.1.1.1))))

pub same_outline : (x : Frame) → Outline x x
same_outline x = record { parent = refl; slots = refl }

pub same_store : (code : Parts) (births : List Birth) (s : Store) → IsStore code births s → KeepsStore code births s s
same_store code births s h = keeps_store code births s s h (λ f x e. (x, (e, (same_outline x, refl))))

pub set_global : (code : Parts) (births : List Birth) (s : Store) (slot : ℕ) (value : ℤ) → IsStore code births s → KeepsStore code births s (with_global s slot value)
set_global code births s slot value h = keeps_store code births s (with_global s slot value)
    (record { long = h.long; globals = length-set s.globals slot value ∙ h.globals; few = h.few; frames = h.frames }) (λ f x e. (x, (e, (same_outline x, refl))))

pub at_set : (frames : List (Option Frame)) (n : ℕ) (cells : List Cell) → slice_index_or (slice_set frames n (some_with cells (slice_index_or frames n None))) n None
    ≡ some_with cells (slice_index_or frames n None)
at_set [] n cells = refl
at_set (x ∷ frames) zero cells = refl
at_set (x ∷ frames) (suc n) cells = at_set frames n cells

some_frame : (x y : Frame) → Some x ≡ Some y → x ≡ y
some_frame x y e = cc

module _ (code : Parts) (births : List Birth) (s : Store) (g : FrameId) (cells : List Cell) where
  abbrev after : Store
  after = with_cells s g cells

  abbrev changed : Frame → Frame
  changed x = record x { cells = cells }

  other : (f : FrameId) → (g.number ≡ f.number → ⊥) → frame_at after f ≡ frame_at s f
  other f ne = get_or-set_other s.frames g.number f.number (some_with cells (frame_at s g)) None (λ e. ne (sym e))

  same : (f : FrameId) → g.number ≡ f.number → frame_at after f ≡ some_with cells (frame_at s f)
  same f e = subst (λ n. slice_index_or (slice_set s.frames g.number (some_with cells (frame_at s g))) n None ≡ some_with cells (slice_index_or s.frames n None)) e (at_set s.frames g.number cells)

  -- what becomes of a frame
  on_from : (f : FrameId) (x : Frame) → frame_at s f ≡ Some x → ((g.number ≡ f.number) × (frame_at after f ≡ Some (changed x))) ⊎ (frame_at after f ≡ Some x)
  on_from f x e = elim (cases_eq g.number f.number) as (λ _. ((g.number ≡ f.number) × (frame_at after f ≡ Some (changed x))) ⊎ (frame_at after f ≡ Some x)) [
    | inl q ↦ inl (q, same f q ∙ ap (some_with cells) e)
    | inr ne ↦ inr (other f ne ∙ e)
  ]

  some_changed : (o : Option Frame) (y : Frame) → some_with cells o ≡ Some y → (x : Frame) × ((o ≡ Some x) × (y ≡ changed x))
  some_changed None y e = let no : None ≡ Some y = e in cc
  some_changed (Some x) y e = (x, (refl, sym (some_frame (changed x) y e)))

  back_to : (f : FrameId) (y : Frame) → frame_at after f ≡ Some y → ((g.number ≡ f.number) × ((x : Frame) × ((frame_at s f ≡ Some x) × (y ≡ changed x)))) ⊎ (frame_at s f ≡ Some y)
  back_to f y e = elim (cases_eq g.number f.number) as (λ _. ((g.number ≡ f.number) × ((x : Frame) × ((frame_at s f ≡ Some x) × (y ≡ changed x)))) ⊎ (frame_at s f ≡ Some y)) [
    | inl q ↦ inl (q, some_changed (frame_at s f) y (sym (same f q) ∙ e))
    | inr ne ↦ inr (sym (other f ne) ∙ e)
  ]

  module _ (h : IsStore code births s) (fits : (x : Frame) → frame_at s g ≡ Some x
      → (length cells ≡ length x.cells) × ((birth : Birth) → Born births g birth → AreSlots code births birth.home cells)) where
    there : (f : FrameId) (x : Frame) → g.number ≡ f.number → frame_at s f ≡ Some x → frame_at s g ≡ Some x
    there f x q e = ap (λ n. slice_index_or s.frames n None) q ∙ e

    outline : (f : FrameId) (x : Frame) → g.number ≡ f.number → frame_at s f ≡ Some x → Outline x (changed x)
    outline f x q e = record { parent = refl; slots = (fits x (there f x q e)).0 }

    frame_kept : (f : FrameId) (x : Frame) → g.number ≡ f.number → frame_at s f ≡ Some x → IsFrame code births f (changed x)
    frame_kept f x q e =
        let i = h.frames f x e in
        let k = fits x (there f x q e) in
        record {
          birth = i.birth;
          born = i.born;
          slots = k.1 i.birth (ap (λ n. slice_get births n) q ∙ i.born);
          long = k.0 ∙ i.long;
          short = subst (λ n. n < 2 ^ 32) (sym k.0) i.short;
        }

    frames_kept : (f : FrameId) (y : Frame) → frame_at after f ≡ Some y → IsFrame code births f y
    frames_kept f y e = elim (back_to f y e) as (λ _. IsFrame code births f y) [
      | inl b ↦ subst (IsFrame code births f) (sym b.1.1.1) (frame_kept f b.1.0 b.0 b.1.1.0)
      | inr b ↦ h.frames f y b
    ]

    carried : KeepsFrames s after
    carried f x e = elim (on_from f x e) as (λ _. (y : Frame) × ((frame_at after f ≡ Some y) × (Outline x y × (y.over ≡ x.over)))) [
      | inl b ↦ (changed x, (b.1, (outline f x b.0 e, refl)))
      | inr b ↦ (x, (b, (same_outline x, refl)))
    ]

    pub set_cells : KeepsStore code births s after
    set_cells = keeps_store code births s after
        (record { long = h.long ∙ sym (length-set s.frames g.number (some_with cells (frame_at s g))); globals = h.globals; few = h.few; frames = frames_kept }) carried

-- ---- slots

module _ (code : Parts) (births : List Birth) (home : Home) where
  slots_set : (cells : List Cell) (slot : ℕ) (v : Cell) → AreSlots code births home cells → IsSlot code births home slot v → AreSlots code births home (slice_set cells slot v)
  slots_set cells slot v all one at x e = elim (set_cases cells slot at v x e) as (λ _. IsSlot code births home at x) [
    | inl p ↦ subst (λ n. IsSlot code births home n x) p.0 (subst (IsSlot code births home slot) p.1 one)
    | inr p ↦ all at x p
  ]

  front_cleared : (len : ℕ) (cells : List Cell) (at : ℕ) (x : Cell) → slice_get (cleared_front len cells) at ≡ Some x → ((at < len) × (x ≡ no_int)) ⊎ (slice_get cells at ≡ Some x)
  front_cleared zero cells at x e = inr e
  front_cleared (suc len) [] at x e = inr e
  front_cleared (suc len) (y ∷ cells) zero x e = let k : no_int ≡ x = cc in inl (omega arith, sym k)
  front_cleared (suc len) (y ∷ cells) (suc at) x e = elim (front_cleared len cells at x e) as (λ _. ((suc at < suc len) × (x ≡ no_int)) ⊎ (slice_get cells at ≡ Some x)) [
    | inl p ↦ inl (omega (arith, p.0), p.1)
    | inr p ↦ inr p
  ]

  slot_cleared : (slot len : ℕ) (cells : List Cell) (at : ℕ) (x : Cell) → slice_get (cleared slot len cells) at ≡ Some x
      → ((slot ≤ at) × ((at < slot + len) × (x ≡ no_int))) ⊎ (slice_get cells at ≡ Some x)
  slot_cleared zero len cells at x e = elim (front_cleared len cells at x e) as (λ _. ((zero ≤ at) × ((at < zero + len) × (x ≡ no_int))) ⊎ (slice_get cells at ≡ Some x)) [
    | inl p ↦ inl (omega arith, (omega (arith, p.0), p.1))
    | inr p ↦ inr p
  ]
  slot_cleared (suc slot) len [] at x e = inr e
  slot_cleared (suc slot) len (y ∷ cells) zero x e = inr e
  slot_cleared (suc slot) len (y ∷ cells) (suc at) x e =
      elim (slot_cleared slot len cells at x e) as (λ _. ((suc slot ≤ suc at) × ((suc at < suc slot + len) × (x ≡ no_int))) ⊎ (slice_get cells at ≡ Some x)) [
        | inl p ↦ inl (omega (arith, p.0), (omega (arith, p.1.0), p.1.1))
        | inr p ↦ inr p
      ]

  slots_cleared : (cells : List Cell) (slot len : ℕ) → AreSlots code births home cells → ((at : ℕ) → slot ≤ at → at < slot + len → IsSlot code births home at no_int)
      → AreSlots code births home (cleared slot len cells)
  slots_cleared cells slot len all each at x e = elim (slot_cleared slot len cells at x e) as (λ _. IsSlot code births home at x) [
    | inl p ↦ subst (IsSlot code births home at) (sym p.1.1) (each at p.0 p.1.0)
    | inr p ↦ all at x p
  ]

-- ---- single changes

module _ (code : Parts) (births : List Birth) (s : Store) (h : IsStore code births s) (g : FrameId) where
  cells_there : (x : Frame) → frame_at s g ≡ Some x → cells_of s g ≡ x.cells
  cells_there x e = ap no_cells e

  slots_there : (x : Frame) (birth : Birth) → frame_at s g ≡ Some x → Born births g birth → AreSlots code births birth.home (cells_of s g)
  slots_there x birth e born =
      let i = h.frames g x e in
      let same : i.birth ≡ birth = let both : Some i.birth ≡ Some birth = sym i.born ∙ born in cc in
      subst (AreSlots code births birth.home) (sym (cells_there x e)) (subst (λ (b : Birth). AreSlots code births b.home x.cells) same i.slots)

  pub set_slot : (slot : ℕ) (v : Cell) → ((birth : Birth) → Born births g birth → IsSlot code births birth.home slot v) → KeepsStore code births s (with_cell s g slot v)
  set_slot slot v one = set_cells code births s g (slice_set (cells_of s g) slot v) h
      (λ x e. (length-set (cells_of s g) slot v ∙ ap length (cells_there x e), λ birth born. slots_set code births birth.home (cells_of s g) slot v (slots_there x birth e born) (one birth born)))

  pub clear_slots : (slot len : ℕ) → ((birth : Birth) → Born births g birth → (at : ℕ) → slot ≤ at → at < slot + len → IsSlot code births birth.home at no_int)
      → KeepsStore code births s (with_cleared s g slot len)
  clear_slots slot len each = set_cells code births s g (cleared slot len (cells_of s g)) h
      (λ x e. (
        length-cleared slot len (cells_of s g) ∙ ap length (cells_there x e),
        λ birth born. slots_cleared code births birth.home (cells_of s g) slot len (slots_there x birth e born) (each birth born),
      ))

-- a slot of an array of ints
pub set_int : (code : Parts) (births : List Birth) (s : Store) → HasOneUse code → IsStore code births s → (home : Option FrameId) (start len slot : ℕ) (value : ℤ) → start ≤ slot
    → slot < start + len → HoldsInts code births home start len → KeepsStore code births s (with_int_from s home slot value)
set_int code births s one h None start len slot value le lt i = set_global code births s slot value h
set_int code births s one h (Some f) start len slot value le lt i = set_slot code births s h f slot (cell.Int value) (λ birth born.
    let same : i.birth ≡ birth = let both : Some i.birth ≡ Some birth = sym i.born ∙ born in cc in
    let free = i.plain slot le lt in
    int_slot code one birth.home slot births value (subst (λ (b : Birth). is_array code b.home slot ≡ false) same free))

-- an element of an array of ints
pub set_element_at : (code : Parts) (births : List Birth) (s : Store) → HasOneUse code → IsStore code births s → (b : Option ℕ) (place : Place) (index : ℕ) (value : ℤ) → index < place.len
    → IsIntArray code births b place
    → KeepsStore code births s (with_int_at s place index value)
set_element_at code births s one h b place index value lt a = set_int code births s one h place.home place.start place.len (place.start + index) value (omega arith) (omega (arith, lt)) a.ints

-- The links of the frames stay, whatever is set in them, and where one more is made.
-- `SameFrames`: the same frames with the same parents, in whose cells no frame is named that is not on the chain. Each way to set a cell
-- gives it; a new frame is linked to that which made it.
use Rattle.std.proofs.Common.{◌≡◌, ◌⊎◌, ℕ, ◌+◌, ◌<◌, List, [], ◌∷◌, ◌++◌, length, length-append, Option, Some, None, IsSome, Result, Ok, Err, true, false, refl, sym, ap, ◌∙◌, subst, inl, inr, arith}
use Rattle.std.specs.Prelude.{ℤ, slice_get, slice_set}
use Rattle.std.proofs.lemmas.Bool.{cases_eq}
use Rattle.std.proofs.lemmas.List.{length-set, get_or-set_other}
use Rattle.ac_base.specs.declared.ends.Trap.{Trap}
use Rattle.work_item.specs.declared.ids.FrameId.{FrameId}
use Rattle.work_item.specs.declared.cell.Cell.{Cell}
use Rattle.work_item.specs.declared.cell.Cell.TheVariants as cell
use Rattle.work_item.specs.declared.cell.Place.{Place}
use Rattle.work_item.specs.Store.{Store, Frame, frame_at, no_cells, cells_of, some_with, with_cells, with_cell, with_global, with_int_from, with_int_at, with_cleared, cleared, made, next_frame}
use Rattle.work_item.specs.Conditions.{Lives}
use Rattle.core_state.specs.Arithmetic.{bind}
use Rattle.core_state.specs.Frames.{within, set_element}
use Rattle.code_meaning.specs.Machine.{Flat}
use Rattle.code_safety.specs.Chains.{Origin, link_of, parent_of, Came, AllName, IsActive, IsLinked}
use Rattle.code_safety.proofs.Settings.{at_set}
use Rattle.code_safety.proofs.Making.{at_end, still_there}
use Rattle.code_safety.proofs.Chained.{extends_one, extends_last, extended, chain_grown, names_onto, names_set, names_cleared}

pub same_frame : (f g : FrameId) → f.number ≡ g.number → f ≡ g
same_frame f g e = let make : ℕ → FrameId = λ n. record { number = n } in ap make e

pub lives_there : (s : Store) (f : FrameId) → Lives s f → (x : Frame) × (frame_at s f ≡ Some x)
lives_there s f l = go (frame_at s f) refl l
  where
    go : (o : Option Frame) → frame_at s f ≡ o → IsSome o → (x : Frame) × (frame_at s f ≡ Some x)
    go None e h = let no : false ≡ true = h in absurd (cc)
    go (Some x) e h = (x, e)

pub there_lives : (s : Store) (f : FrameId) (x : Frame) → frame_at s f ≡ Some x → Lives s f
there_lives s f x e = rw e refl

-- ---- what is set in frames

-- the same frames, in which no other frame is named
pub record SameFrames (origins : List Origin) (s t : Store) : Type 0 where
  pub count : length t.frames ≡ length s.frames
  pub back : (f : FrameId) (y : Frame) → frame_at t f ≡ Some y
      → (x : Frame) × ((frame_at s f ≡ Some x) × ((y.parent ≡ x.parent) × ((y.over ≡ x.over) × (AllName origins f x.cells → AllName origins f y.cells))))
  pub on : (f : FrameId) (x : Frame) → frame_at s f ≡ Some x → (y : Frame) × ((frame_at t f ≡ Some y) × (y.parent ≡ x.parent))

pub same_frames : (origins : List Origin) (s : Store) → SameFrames origins s s
same_frames origins s = record {
  count = refl;
  back = λ f y e. (y, (e, (refl, (refl, λ a. a))));
  on = λ f x e. (x, (e, refl));
}

pub then_frames : (origins : List Origin) (s t u : Store) → SameFrames origins s t → SameFrames origins t u → SameFrames origins s u
then_frames origins s t u first next = record {
  count = next.count ∙ first.count;
  back = λ f z e.
      let y = next.back f z e in
      let x = first.back f y.0 y.1.0 in
      (x.0, (x.1.0, (y.1.1.0 ∙ x.1.1.0, (y.1.1.1.0 ∙ x.1.1.1.0, λ a. y.1.1.1.1 (x.1.1.1.1 a)))));
  on = λ f x e.
      let y = first.on f x e in
      let z = next.on f y.0 y.1.0 in
      (z.0, (z.1.0, z.1.1 ∙ y.1.1));
}

pub global_frames : (origins : List Origin) (s : Store) (slot : ℕ) (value : ℤ) → SameFrames origins s (with_global s slot value)
global_frames origins s slot value = record {
  count = refl;
  back = λ f y e. (y, (e, (refl, (refl, λ a. a))));
  on = λ f x e. (x, (e, refl));
}

module _ (origins : List Origin) (s : Store) (g : FrameId) (cells : List Cell) (all : (x : Frame) → frame_at s g ≡ Some x → AllName origins g x.cells → AllName origins g cells) where
  abbrev after : Store
  after = with_cells s g cells

  other : (f : FrameId) → (g.number ≡ f.number → ⊥) → frame_at after f ≡ frame_at s f
  other f ne = get_or-set_other s.frames g.number f.number (some_with cells (frame_at s g)) None (λ e. ne (sym e))

  here : frame_at after g ≡ some_with cells (frame_at s g)
  here = at_set s.frames g.number cells

  pub cells_frames : SameFrames origins s after
  cells_frames = record {
    count = length-set s.frames g.number (some_with cells (frame_at s g));
    back = back;
    on = on;
  }
    where
      changed : (y : Frame) (o : Option Frame) → frame_at s g ≡ o → some_with cells o ≡ Some y
          → (x : Frame) × ((frame_at s g ≡ Some x) × ((y.parent ≡ x.parent) × ((y.over ≡ x.over) × (AllName origins g x.cells → AllName origins g y.cells))))
      changed y None q e = let no : None ≡ Some y = e in cc
      changed y (Some x) q e =
          let is : record x { cells = cells } ≡ y = cc in
          (x, (q, (ap (λ (z : Frame). z.parent) (sym is), (ap (λ (z : Frame). z.over) (sym is), λ a. subst (λ (z : Frame). AllName origins g z.cells) is (all x q a)))))

      back : (f : FrameId) (y : Frame) → frame_at after f ≡ Some y
          → (x : Frame) × ((frame_at s f ≡ Some x) × ((y.parent ≡ x.parent) × ((y.over ≡ x.over) × (AllName origins f x.cells → AllName origins f y.cells))))
      back f y e = elim (cases_eq g.number f.number) as
          (λ _. (x : Frame) × ((frame_at s f ≡ Some x) × ((y.parent ≡ x.parent) × ((y.over ≡ x.over) × (AllName origins f x.cells → AllName origins f y.cells))))) [
            | inl q ↦
                let same = same_frame g f q in
                subst (λ (f : FrameId). (x : Frame) × ((frame_at s f ≡ Some x) × ((y.parent ≡ x.parent) × ((y.over ≡ x.over) × (AllName origins f x.cells → AllName origins f y.cells))))) same
                (changed y (frame_at s g) refl (sym here ∙ ap (frame_at after) same ∙ e))
            | inr ne ↦ (y, (sym (other f ne) ∙ e, (refl, (refl, λ a. a))))
          ]

      on : (f : FrameId) (x : Frame) → frame_at s f ≡ Some x → (y : Frame) × ((frame_at after f ≡ Some y) × (y.parent ≡ x.parent))
      on f x e = elim (cases_eq g.number f.number) as (λ _. (y : Frame) × ((frame_at after f ≡ Some y) × (y.parent ≡ x.parent))) [
        | inl q ↦
            let same = same_frame g f q in
            (record x { cells = cells }, (ap (frame_at after) (sym same) ∙ here ∙ ap (some_with cells) (ap (frame_at s) same ∙ e), refl))
        | inr ne ↦ (x, (other f ne ∙ e, refl))
      ]

module _ (origins : List Origin) (s : Store) where
  pub cell_frames : (f : FrameId) (slot : ℕ) (value : Cell) → ((g : FrameId) → AllName origins g (value ∷ [])) → SameFrames origins s (with_cell s f slot value)
  cell_frames f slot value n = cells_frames origins s f (slice_set (cells_of s f) slot value)
      (λ x e a. names_set origins f (cells_of s f) slot value (subst (AllName origins f) (sym (ap no_cells e)) a) (n f).0)

  pub cleared_frames : (f : FrameId) (slot len : ℕ) → SameFrames origins s (with_cleared s f slot len)
  cleared_frames f slot len = cells_frames origins s f (cleared slot len (cells_of s f))
      (λ x e a. names_cleared origins f slot len (cells_of s f) (subst (AllName origins f) (sym (ap no_cells e)) a))

  pub int_frames : (home : Option FrameId) (slot : ℕ) (value : ℤ) → SameFrames origins s (with_int_from s home slot value)
  int_frames None slot value = global_frames origins s slot value
  int_frames (Some f) slot value = cell_frames f slot (cell.Int value) (λ g. (tt, tt))

  pub element_frames : (place : Place) (index value : ℤ) (kept : Store) → set_element s place index value ≡ Ok kept → SameFrames origins s kept
  element_frames place index value kept e = go (within place index) refl e
    where
      go : (r : Result ℕ Trap) → within place index ≡ r → bind r (λ i. Ok (with_int_at s place i value)) ≡ Ok kept → SameFrames origins s kept
      go (Err trap) w e = absurd (cc)
      go (Ok i) w e = let is : with_int_at s place i value ≡ kept = cc in
          subst (SameFrames origins s) is (int_frames place.home (place.start + i) value)

-- ---- their links

module _ (origins : List Origin) (m n : Flat) (k : SameFrames origins m.store n.store) (active : (f : FrameId) → IsActive m f → IsActive n f) where
  pub linked_same : ((f : FrameId) (x : Frame) → frame_at m.store f ≡ Some x → IsLinked origins m f x) → (f : FrameId) (y : Frame) → frame_at n.store f ≡ Some y → IsLinked origins n f y
  linked_same all f y e =
      let b = k.back f y e in
      let x = b.0 in
      let over : y.over ≡ x.over = b.1.1.1.0 in
      let parent : y.parent ≡ x.parent = b.1.1.0 in
      let i = all f x b.1.0 in
      record {
        origin = i.origin;
        came = i.came;
        parent = parent ∙ i.parent;
        link = λ g l.
            let z = lives_there m.store g (i.link g l) in
            let w = k.on g z.0 z.1 in
            there_lives n.store g w.0 w.1.0;
        names = b.1.1.1.1 i.names;
        settled = λ o.
            let z = i.settled (sym over ∙ o) in
            let w = k.on z.0 z.1.0 z.1.1.0 in
            (z.0, (w.0, (w.1.0, w.1.1 ∙ z.1.1.1)));
        active = λ h. active f (i.active (elim h as (λ _. (x.over ≡ false) ⊎ (x.parent ≡ None)) [ inl o ↦ inl (sym over ∙ o) | inr o ↦ inr (sym parent ∙ o) ]));
      }

-- ---- one frame more

module _ (origins : List Origin) (m n : Flat) (origin : Origin) (cells : List Cell) (store : n.store ≡ made m.store (parent_of origin) cells) (long : length origins ≡ length m.store.frames)
    (link : (g : FrameId) → link_of origin ≡ Some g → Lives m.store g) (active : (f : FrameId) → IsActive m f → IsActive n f) (new : IsActive n (next_frame m.store)) where
  abbrev pub more : List Origin
  more = origins ++ origin ∷ []

  abbrev fresh : Frame
  fresh = record { parent = parent_of origin; cells = cells; over = false }

  still : (f : FrameId) (x : Frame) → frame_at m.store f ≡ Some x → frame_at n.store f ≡ Some x
  still f x e = ap (λ (s : Store). frame_at s f) store ∙ still_there m.store.frames (Some fresh) f.number x e

  still_lives : (g : FrameId) → Lives m.store g → Lives n.store g
  still_lives g l = let z = lives_there m.store g l in there_lives n.store g z.0 (still g z.0 z.1)

  pub new_came : Came more (next_frame m.store) origin
  new_came = subst (λ k. slice_get more k ≡ Some origin) long (extends_last origins origin)

  pub linked_made : AllName more (next_frame m.store) cells → ((f : FrameId) (x : Frame) → frame_at m.store f ≡ Some x → IsLinked origins m f x) → (f : FrameId) (y : Frame)
      → frame_at n.store f ≡ Some y → IsLinked more n f y
  linked_made names all f y e =
      elim (at_end m.store.frames fresh f.number y (sym (ap (λ (s : Store). frame_at s f) store) ∙ e)) as (λ _. IsLinked more n f y) [
        | inl p ↦
            let i = all f y p in
            record {
              origin = i.origin;
              came = extends_one origins origin f.number i.origin i.came;
              parent = i.parent;
              link = λ g l. still_lives g (i.link g l);
              names = names_onto origins more f f (λ g c. chain_grown origins more (extends_one origins origin) f g c) y.cells i.names;
              settled = λ o. let z = i.settled o in (z.0, (z.1.0, (still z.0 z.1.0 z.1.1.0, z.1.1.1)));
              active = λ h. active f (i.active h);
            }
        | inr p ↦
            let here : next_frame m.store ≡ f = same_frame (next_frame m.store) f (sym p.0) in
            subst (λ f. IsLinked more n f y) here (subst (IsLinked more n (next_frame m.store)) p.1 (record {
              origin = origin;
              came = new_came;
              parent = refl;
              link = λ g l. still_lives g (link g l);
              names = names;
              settled = λ o. let no : false ≡ true = o in absurd (cc);
              active = λ h. new;
            }))
      ]

  pub older_made : ((g : FrameId) → link_of origin ≡ Some g → g.number < length m.store.frames) → ((f g : FrameId) (o : Origin) → Came origins f o → link_of o ≡ Some g → g.number < f.number)
      → (f g : FrameId) (o : Origin) → Came more f o → link_of o ≡ Some g → g.number < f.number
  older_made lt all f g o c l = elim (extended origins origin f.number o c) as (λ _. g.number < f.number) [
    | inl p ↦ all f g o p l
    | inr p ↦ let k = lt g (ap link_of p.1 ∙ l) in let e = p.0 in let w = long in omega (arith, k, e, w)
  ]

  pub long_made : length more ≡ length n.store.frames
  long_made = length-append origins (origin ∷ []) ∙ ap (λ k. k + 1) long ∙ sym (length-append m.store.frames (Some fresh ∷ [])) ∙ ap (λ (s : Store). length s.frames) (sym store)

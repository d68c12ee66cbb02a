-- What was read or written at the number of a frame.
-- The laws that the calls of `Table` use, over what is kept at each number (`IsSound`): a frame that is read is what contracts see there, and
-- one that is written, made or taken away changes what they see in the same way. `Adds` holds all that is known in the middle of `push`,
-- where a frame is in and its parent has not been counted.
use Rattle.std.proofs.Common.{◌≡◌, ℕ, ◌+◌, ◌-◌, ◌<◌, ◌^◌, List, [], ◌∷◌, ◌++◌, length, Option, Some, None, Bool, false, is_some, refl, Result, Ok, Err, OnOk, OnErr, length-set}
use Rattle.ac_base.specs.declared.memory.NoMemory.{NoMemory}
use Rattle.std.proofs.Common.{sym, ap, ◌∙◌, subst, arith, set}
use Rattle.std.proofs.lemmas.List.{map-set}
use Rattle.work_item.specs.declared.cell.Cell.{Cell}
use Rattle.work_item.specs.declared.ids.FrameId.{FrameId}
use Rattle.work_item.specs.declared.table.Live.{Live}
use Rattle.work_item.specs.Store.{Frame, all_words}
use Rattle.work_item.specs.Table.{at, children_of}
use Rattle.work_item.specs.inner.Kept.{new_frame, frame_of, frames_of, live_at, with_more, with_less, CanCountMore, LivesIn, IsNew, AddsNew, IsSound}
use Rattle.work_item.proofs.Sound.{frame_is, sound_made, sound_gone, can_more, same_pushed, same_gone}

-- a frame that was changed
pub seen : (lives : List (Option Live)) (t : List (Option Frame)) (n : ℕ) (x y : Live) (change : Option Frame → Option Frame) → frames_of lives ≡ t → live_at lives n ≡ Some x
    → frame_of (Some y) ≡ change (frame_of (Some x)) → frames_of (set lives n (Some y)) ≡ set t n (change (at t n))
seen lives t n x y change same e becomes =
    map-set frame_of lives n (Some y) ∙ ap (set (frames_of lives) n) (becomes ∙ ap change (sym (frame_is lives n x e))) ∙ ap (λ u. set u n (change (at u n))) same

-- a cell was set, where memory may have been wanted: there are as many
pub as_many : (r : Result Unit NoMemory) (was now : List Cell) (slot : ℕ) (x : Cell) → OnOk r (now ≡ set was slot x) → OnErr r (now ≡ was) → length now ≡ length was
as_many (Ok v) was now slot x ok err = ap length ok ∙ length-set was slot x
as_many (Err e) was now slot x ok err = ap length err

pub where_ok : {P Q : Type 0} (r : Result Unit NoMemory) → (P → Q) → OnOk r P → OnOk r Q
where_ok (Ok v) f p = f p
where_ok (Err e) f p = p

-- ---- a new frame

-- all that is known of a table with a new frame at its end, before it is counted
pub record Adds (lives : List (Option Live)) (t : List (Option Frame)) (words more : ℕ) (parent : Option FrameId) (cells : List Cell) (after : List (Option Live)) : Type 0 where
  pub sound : IsSound lives words
  pub view : frames_of lives ≡ t
  pub alive : LivesIn t parent
  pub few : all_words t + (more + 4) < 2 ^ 64
  pub long : length cells ≡ more
  pub adds : AddsNew parent cells lives after

-- what contracts see of it
new_is : (parent : Option FrameId) (cells : List Cell) (new : Live) → IsNew parent cells new → frame_of (Some new) ≡ Some (new_frame parent cells)
new_is parent cells new n = ap of_parent n.parent_is ∙ ap of_cells n.cells_are ∙ ap of_end n.goes_on
  where
    of_parent : Option FrameId → Option Frame
    of_parent p = Some (record { parent = p; cells = new.cells; over = new.over })

    of_cells : List Cell → Option Frame
    of_cells xs = Some (record { parent = parent; cells = xs; over = new.over })

    of_end : Bool → Option Frame
    of_end b = Some (record { parent = parent; cells = cells; over = b })

-- the same of a list that is equal
pub adds_to : (lives was now : List (Option Live)) (parent : Option FrameId) (cells : List Cell) → was ≡ lives → AddsNew parent cells was now → AddsNew parent cells lives now
adds_to lives was now parent cells same a = subst (λ ls. AddsNew parent cells ls now) same a

module _ (lives : List (Option Live)) (t : List (Option Frame)) (words more : ℕ) (parent : Option FrameId) (cells : List Cell) (after : List (Option Live))
    (a : Adds lives t words more parent cells after) where
  added_alive : LivesIn (frames_of lives) a.adds.0.parent
  added_alive = subst (λ p. LivesIn (frames_of lives) p) (sym a.adds.1.parent_is) (subst (λ u. LivesIn u parent) (sym a.view) a.alive)

  pub added_can : CanCountMore after parent
  added_can =
      let new : Live = a.adds.0 in
      let few : all_words (frames_of lives) + 4 < 2 ^ 64 = omega (arith, a.few, ap all_words a.view) in
      subst (λ ls. CanCountMore ls parent) (sym a.adds.2)
      (subst (λ p. CanCountMore (lives ++ Some new ∷ []) p) a.adds.1.parent_is (can_more lives words new.parent new a.sound added_alive few))

  pub added_sound : (counted : List (Option Live)) → counted ≡ with_more after parent → IsSound counted (words + (more + 4))
  added_sound counted is =
      let new : Live = a.adds.0 in
      let long : length new.cells ≡ more = ap length a.adds.1.cells_are ∙ a.long in
      subst (λ ls. IsSound ls (words + (more + 4))) (sym (is ∙ ap (λ ls. with_more ls parent) a.adds.2))
      (
      subst (λ p. IsSound (with_more (lives ++ Some new ∷ []) p) (words + (more + 4))) a.adds.1.parent_is
      (subst (λ k. IsSound (with_more (lives ++ Some new ∷ []) new.parent) (words + (k + 4))) long (sound_made lives words new a.sound added_alive a.adds.1.childless))
      )

  pub added_seen : (counted : List (Option Live)) → counted ≡ with_more after parent → frames_of counted ≡ t ++ Some (new_frame parent cells) ∷ []
  added_seen counted is =
      let new : Live = a.adds.0 in
      ap frames_of (is ∙ ap (λ ls. with_more ls parent) a.adds.2) ∙ same_pushed lives new parent ∙ ap (λ u. u ++ frame_of (Some new) ∷ []) a.view
      ∙ ap (λ f. t ++ f ∷ []) (new_is parent cells new a.adds.1)

-- ---- a frame that is gone

pub gone_sound : (lives now : List (Option Live)) (t : List (Option Frame)) (words n less : ℕ) (x : Live) → IsSound lives words → frames_of lives ≡ t → live_at lives n ≡ Some x
    → children_of t n ≡ 0 → now ≡ with_less (set lives n None) x.parent → less ≡ length x.cells + 4 → IsSound now (words - less)
gone_sound lives now t words n less x s view e none is len =
    subst (λ ls. IsSound ls (words - less)) (sym is) (subst (λ k. IsSound (with_less (set lives n None) x.parent) (words - k)) (sym len)
    (sound_gone lives words n x s e (subst (λ u. children_of u n ≡ 0) (sym view) none)))

pub gone_seen : (lives now : List (Option Live)) (t : List (Option Frame)) (n : ℕ) (p : Option FrameId) → frames_of lives ≡ t → now ≡ with_less (set lives n None) p → frames_of now ≡ set t n None
gone_seen lives now t n p view is = ap frames_of is ∙ same_gone lives n p ∙ ap (λ u. set u n None) view

-- one that lies in none, and in which none lies
pub none_is : (p : Option FrameId) → is_some p ≡ false → p ≡ None
none_is None e = refl
none_is (Some f) e = absurd (cc)

pub alone_sound : (lives now : List (Option Live)) (t : List (Option Frame)) (words n less : ℕ) (x : Live) → IsSound lives words → frames_of lives ≡ t → live_at lives n ≡ Some x
    → x.children ≡ 0 → x.parent ≡ None → now ≡ set lives n None → less ≡ length x.cells + 4 → IsSound now (words - less)
alone_sound lives now t words n less x s view e childless none is len =
    gone_sound lives now t words n less x s view e (ap (λ u. children_of u n) (sym view) ∙ sym (s.counts n x e) ∙ childless)
    (is ∙ ap (λ p. with_less (set lives n None) p) (sym none)) len

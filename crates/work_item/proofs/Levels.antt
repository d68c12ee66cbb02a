-- Going up from frame to frame.
-- For the loop of `above`: the frame that is so many levels above the first stays the same while the one at hand goes up and its level
-- falls by one.
use Rattle.std.proofs.Common.{◌≡◌, ℕ, zero, suc, ◌+◌, ◌-◌, ◌<◌, Option, Some, None, IsSome, IsSomeAnd, refl, sym, ap, ◌∙◌, subst, arith}
use Rattle.work_item.specs.declared.ids.FrameId.{FrameId}
use Rattle.work_item.specs.Store.{Store, Frame, frame_at, parent_or, above}
use Rattle.work_item.specs.Conditions.{Lives, HasLevel}

here : (o : Option Frame) → IsSomeAnd o (λ x. IsSome x.parent) → IsSome o
here None h = absurd h
here (Some x) h = refl

pub lives_here : (s : Store) (f : FrameId) (level : ℕ) → HasLevel s f level → Lives s f
lives_here s f zero h = h
lives_here s f (suc level) h = here (frame_at s f) h.0

one_up : (level n : ℕ) → n < level → level - n ≡ suc (level - (n + 1))
one_up level n h = omega arith

level_up : (s : Store) (f : FrameId) (level n : ℕ) → n < level → HasLevel s f (level - n) → HasLevel s (parent_or f (frame_at s f)) (level - (n + 1))
level_up s f level n h l = (subst (HasLevel s f) (one_up level n h) l).1

above_up : (s : Store) (f : FrameId) (level n : ℕ) → n < level → above s f (level - n) ≡ above s (parent_or f (frame_at s f)) (level - (n + 1))
above_up s f level n h = ap (above s f) (one_up level n h)

pub goes_up : (s : Store) (f g first : FrameId) (level n : ℕ) → n < level → HasLevel s f (level - n) → above s f (level - n) ≡ above s first level → g ≡ parent_or f (frame_at s f)
    → HasLevel s g (level - (n + 1)) × (above s g (level - (n + 1)) ≡ above s first level)
goes_up s f g first level n h l a is =
    (subst (λ x. HasLevel s x (level - (n + 1))) (sym is) (level_up s f level n h l), ap (λ x. above s x (level - (n + 1))) is ∙ sym (above_up s f level n h) ∙ a)

pub at_top : (s : Store) (f first : FrameId) (level n : ℕ) → n ≡ level → above s f (level - n) ≡ above s first level → f ≡ above s first level
at_top s f first level n e a = let z : zero ≡ level - n = omega arith in ap (above s f) z ∙ a

-- Going up from frame to frame.
-- For the loop of `above`: one step up leaves one level less, and the same frame at the top.
use Rattle.std.proofs.Common.{◌≡◌, ℕ, suc, ◌+◌, ◌-◌, ◌<◌, sym, ap, ◌∙◌, arith}
use Rattle.work_item.specs.declared.ids.FrameId.{FrameId}
use Rattle.work_item.specs.Store.{Store, frame_at, parent_or, above}

pub one_up : (s : Store) (f g first : FrameId) (level n : ℕ) → n < level → above s f (level - n) ≡ above s first level → g ≡ parent_or f (frame_at s f)
    → above s g (level - (n + 1)) ≡ above s first level
one_up s f g first level n lt h is =
    let more : level - n ≡ suc (level - (n + 1)) = omega arith in
    ap (λ x. above s x (level - (n + 1))) is ∙ sym (ap (above s f) more) ∙ h

-- Counting the words of all frames.
-- For the loop of `words`, whose sum stops at the greatest number of 64 bits: at the end all frames are counted, and the two minima are the
-- same.
use Rattle.std.proofs.Common.{◌≡◌, ℕ, ◌+◌, ◌-◌, ◌^◌, ◌≤◌, ◌<◌, List, length, drop, min, ap, arith, subst, Option}
use Rattle.std.proofs.Math.ListN.{drop_of_length-le}
use Rattle.work_item.specs.Store.{Store, Frame, all_words, live_words}

pub all_counted : (s : Store) (items : List (Option Frame)) (words n : ℕ) → items ≡ s.frames → length items ≤ n → words < 2 ^ 64
    → min (words + all_words (drop n s.frames)) (2 ^ 64 - 1) ≡ min (length s.globals + all_words s.frames) (2 ^ 64 - 1) → words ≡ min (live_words s) (2 ^ 64 - 1)
all_counted s items words n is le fits h =
    let none = ap all_words (drop_of_length-le s.frames (subst (λ (xs : List (Option Frame)). length xs ≤ n) is le)) in
    omega (arith, none, h, fits)

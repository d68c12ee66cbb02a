-- Which offers are known once one more is.
use Rattle.std.specs.Prelude.{◌≡◌, ℕ, ◌<◌, ◌≤◌, List, true, false}
use Rattle.channel_ends.specs.declared.marks.Mark.{Mark}
use Rattle.channel_ends.specs.inner.Noted.{is_known, mark_at}

-- the marks of the offers from `from` to `end` say that they are known, and that of `end` does not
pub record IsKnownFrom (marks : List Mark) (from offered end : ℕ) : Type 0 where
  pub above : from ≤ end
  pub below : end ≤ offered
  pub known : (k : ℕ) → from ≤ k → k < end → is_known (mark_at marks k) ≡ true
  pub first : end < offered → is_known (mark_at marks end) ≡ false

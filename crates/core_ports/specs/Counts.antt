-- Counts of calls, one for each link.
use Rattle.std.specs.Prelude.{ℕ, ◌==◌, if◌then◌else◌}
use Rattle.core_channels.specs.Counts.{counted}

-- the counts of all links once one more call is counted on this link
abbrev pub with_one_more : (ℕ → ℕ) → ℕ → ℕ → ℕ
with_one_more counts l k = if l == k then counted (counts k) else counts k

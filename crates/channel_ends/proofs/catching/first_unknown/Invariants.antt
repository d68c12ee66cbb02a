use Rattle.std.proofs.Common.{◌-◌, ◌≡◌, ℕ, ◌<◌, ◌≤◌, true}
use Rattle.channel_ends.specs.inner.Noted.{is_known, mark_at}
use Rattle.channel_ends.proofs.catching.first_unknown.Given as goal

abbrev pub invariant-loop-n : goal.invariant-loop-n
invariant-loop-n l = (l.from ≤ l.n) × (l.n ≤ l.offered) × ((k : ℕ) → l.from ≤ k → k < l.n → is_known (mark_at l.marks k) ≡ true)

abbrev pub decreases-loop-n : goal.decreases-loop-n
decreases-loop-n l = l.offered - l.n

use Rattle.std.proofs.Common.{◌-◌, ◌+◌, ◌*◌, ◌^◌, ◌≤◌}
use Rattle.merge_run.specs.inner.Parties.{clock_of, IsLater}
use Rattle.merge_run.proofs.party.MergeParty.keep_on.Given as goal

abbrev pub invariant-loop-in_vain : goal.invariant-loop-in_vain
invariant-loop-in_vain g l = record { later : IsLater l.fn.self l.self; rises : clock_of l.fn.self ≤ clock_of l.self; few : l.in_vain ≤ 10000 }

-- each call uses up a stamp, or is one more in vain
abbrev pub decreases-loop-in_vain : goal.decreases-loop-in_vain
decreases-loop-in_vain g l = 10001 * (2 ^ 60 - clock_of l.self) + (10000 - l.in_vain)

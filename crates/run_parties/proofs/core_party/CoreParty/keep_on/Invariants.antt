use Rattle.std.proofs.Common.{◌-◌, ◌+◌, ◌*◌, ◌^◌}
use Rattle.ac_links.specs.Journals.{last_of}
use Rattle.run_parties.specs.inner.Working.{IsTrying}
use Rattle.run_parties.proofs.core_party.CoreParty.keep_on.Given as goal

abbrev pub invariant-loop-over : goal.invariant-loop-over
invariant-loop-over g l = IsTrying l.in_vain l.over l.fn.self l.self

-- each call uses up a stamp, or is one more in vain
abbrev pub decreases-loop-over : goal.decreases-loop-over
decreases-loop-over g l = 10001 * (2 ^ 60 - last_of 0 l.self.driven.machine.journal) + (10000 - l.in_vain)

use Rattle.std.proofs.Common.{◌≡◌, ◌-◌, ◌+◌, ◌*◌, ◌^◌}
use Rattle.ac_links.specs.Journals.{last_of}
use Rattle.file_worker.specs.Workers.{desk_of, loan_of, seen_of}
use Rattle.run_parties.specs.inner.Working.{IsLooking}
use Rattle.run_parties.proofs.working.keep_on.Given as goal

abbrev pub invariant-loop-in_vain : goal.invariant-loop-in_vain
invariant-loop-in_vain g l =
    IsLooking l.in_vain (seen_of g.D.Disk.told l.fn.worker) (seen_of g.D.Disk.told l.worker) × (loan_of l.worker ≡ loan_of l.fn.worker)

-- each round uses up a stamp, or is one more in vain
abbrev pub decreases-loop-in_vain : goal.decreases-loop-in_vain
decreases-loop-in_vain g l = 10001 * (2 ^ 60 - last_of 0 (desk_of l.worker).entries) + (10000 - l.in_vain)

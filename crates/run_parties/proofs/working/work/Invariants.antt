use Rattle.std.proofs.Common.{◌≡◌, ◌-◌, ◌^◌}
use Rattle.ac_links.specs.Journals.{last_of}
use Rattle.file_worker.specs.Workers.{desk_of, loan_of, seen_of}
use Rattle.run_parties.specs.inner.Working.{HasWorked}
use Rattle.run_parties.proofs.working.work.Given as goal

abbrev pub invariant-loop : goal.invariant-loop
invariant-loop g l = HasWorked (seen_of g.D.Disk.told l.fn.worker) (seen_of g.D.Disk.told l.worker) × (loan_of l.worker ≡ loan_of l.fn.worker)

-- each round after which there is another has used up a stamp
abbrev pub decreases-loop : goal.decreases-loop
decreases-loop g l = 2 ^ 60 - last_of 0 (desk_of l.worker).entries

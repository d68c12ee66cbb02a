-- The cores before this one have had their turn.
use Rattle.file_worker.specs.inner.Rounds.{seen, HaveTurned}
use Rattle.file_worker.proofs.desk.Desk.round.Given as goal

abbrev pub invariant-loop-core : goal.invariant-loop-core
invariant-loop-core g l = HaveTurned l.core (seen l.fn.self (g.D.Disk.told l.fn.disk)) (seen l.self (g.D.Disk.told l.disk)) l.found

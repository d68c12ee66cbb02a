use Rattle.core_machine.specs.Machine.{IsOnItsWay, IsSameCore}
use Rattle.core_machine.specs.Points.{work_left}
use Rattle.core_replay.proofs.search.run_on.Given as goal

abbrev pub invariant-running : goal.invariant-running
invariant-running l = record {
  same : IsSameCore l.fn.machine l.machine;
  run : IsOnItsWay l.machine;
}

abbrev pub decreases-running : goal.decreases-running
decreases-running l = work_left l.ranks l.machine

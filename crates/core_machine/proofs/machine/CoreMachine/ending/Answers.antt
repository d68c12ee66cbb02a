use Rattle.std.proofs.Common.{subst}
use Rattle.core_machine.specs.Machine.{ComesToEnd}
use Rattle.core_machine.specs.Points.{KeepsOperations}
use Rattle.core_machine.proofs.Stopping.{comes_to_end, keeps_own_ends}
use Rattle.core_machine.proofs.machine.CoreMachine.ending.Goals as goal

pub returns-clause-comes : goal.returns-clause-comes
returns-clause-comes c = subst ComesToEnd c.self.view_is (comes_to_end c.self.inside.running c.self.invariant c.ranks-ranks.result.now c.ranks-ranks.ensures)

pub returns-clause-ends : goal.returns-clause-ends
returns-clause-ends c = subst KeepsOperations c.self.view_is (keeps_own_ends c.self.inside.running c.self.invariant c.ranks-ranks.result.now c.ranks-ranks.ensures)

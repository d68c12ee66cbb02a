use Rattle.std.proofs.Common.{subst}
use Rattle.core_machine.specs.Machine.{Machine}
use Rattle.core_machine.specs.Points.{IsOfTurn}
use Rattle.core_machine.proofs.Passing.{of_turn}
use Rattle.core_machine.proofs.machine.CoreMachine.turns.Goals as goal

pub returns : goal.returns
returns c = subst (λ (n : Machine). IsOfTurn n c.self.inside.running.turn) c.self.view_is (of_turn c.self.inside.running)

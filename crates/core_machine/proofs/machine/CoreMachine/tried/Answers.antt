use Rattle.std.proofs.Common.{ap, ◌∙◌}
use Rattle.core_machine.specs.Machine.{Machine}
use Rattle.core_machine.specs.Tried.{tried_of}
use Rattle.core_machine.proofs.Points.{tracks_of}
use Rattle.core_machine.proofs.machine.CoreMachine.tried.Goals as goal

pub returns-clause-tried : goal.returns-clause-tried
returns-clause-tried c = c.tried.ensures ∙ ap (λ (n : Machine). tried_of n.code n.state) c.self.view_is

pub returns-clause-tracks : goal.returns-clause-tracks
returns-clause-tracks c = tracks_of c.self.inside.running c.args.self.now c.self.view_is c.self.invariant

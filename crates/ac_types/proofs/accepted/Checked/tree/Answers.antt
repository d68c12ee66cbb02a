use Rattle.std.proofs.Common.{subst}
use Rattle.ac_tree.specs.declared.item.Program.{Program}
use Rattle.ac_tree.specs.Shape.{HasShape}
use Rattle.ac_types.specs.Reached.{BreaksNone}
use Rattle.ac_types.proofs.accepted.Checked.tree.Goals as goal

pub returns-clause-clean : goal.returns-clause-clean
returns-clause-clean c = subst (λ (p : Program). BreaksNone p.items) c.self.view_is c.self.invariant.0.0

pub returns-clause-shaped : goal.returns-clause-shaped
returns-clause-shaped c = subst HasShape c.self.view_is c.self.invariant.0.2

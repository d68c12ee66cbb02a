use Rattle.std.proofs.Common.{◌≡◌, ◌++◌, length}
use Rattle.ac_semantics.specs.Work.{closes}
use Rattle.interpreter_steps.proofs.work.Agenda.closes.Given as goal

abbrev pub invariant-items : goal.invariant-items
invariant-items l = l.blocks.items ++ closes l.left ≡ closes l.self

abbrev pub decreases-items : goal.decreases-items
decreases-items l = length l.left

use Rattle.std.proofs.Common.{◌≡◌, length}
use Rattle.ac_semantics.specs.Work.{at_turn}
use Rattle.interpreter_steps.proofs.work.Agenda.turn_loop.Given as goal

abbrev pub invariant-items : goal.invariant-items
invariant-items l = at_turn l.self ≡ at_turn l.fn.self

abbrev pub decreases-items : goal.decreases-items
decreases-items l = length l.self

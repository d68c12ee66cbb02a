use Rattle.std.proofs.Common.{◌≡◌, length}
use Rattle.ac_semantics.specs.Work.{past_loop}
use Rattle.interpreter_steps.proofs.work.Agenda.leave_loop.Given as goal

abbrev pub invariant-items : goal.invariant-items
invariant-items l = past_loop l.self ≡ past_loop l.fn.self

abbrev pub decreases-items : goal.decreases-items
decreases-items l = length l.self

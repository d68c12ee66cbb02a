use Rattle.std.proofs.Common.{◌≡◌, ◌++◌, drop, map}
use Rattle.interpreter_steps.specs.Works.{work_of}
use Rattle.interpreter_steps.proofs.work.Agenda.copy.Given as goal

abbrev pub invariant-loop-work : goal.invariant-loop-work
invariant-loop-work l = map work_of l.items.items ++ map work_of (drop l.work-index l.work-items) ≡ map work_of l.work-items

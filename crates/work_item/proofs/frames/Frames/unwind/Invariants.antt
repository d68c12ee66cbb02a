use Rattle.std.proofs.Common.{◌≡◌}
use Rattle.work_item.proofs.Unwinding.{Unwinds}
use Rattle.work_item.proofs.frames.Frames.unwind.Given as goal

abbrev pub invariant-loop-current : goal.invariant-loop-current
invariant-loop-current l =
    Unwinds l.initial.self-inside.table l.self-inside.table l.current.number × (l.self-inside.globals.items ≡ l.initial.self-inside.globals.items)

abbrev pub decreases-loop-current : goal.decreases-loop-current
decreases-loop-current l = l.current.number

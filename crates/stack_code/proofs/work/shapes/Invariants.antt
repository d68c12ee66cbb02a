use Rattle.std.proofs.Common.{◌≡◌, None, replicate, length, ◌-◌}
use Rattle.stack_code.specs.inner.Work.{IsBegun}
use Rattle.stack_code.proofs.work.shapes.Given as goal

abbrev pub invariant-loop : goal.invariant-loop
invariant-loop l = l.table.items ≡ replicate l.counter None

abbrev pub invariant-loop-work : goal.invariant-loop-work
invariant-loop-work l = IsBegun l.code l.work.table.items l.work.found.items l.work.next

abbrev pub decreases-loop-work : goal.decreases-loop-work
decreases-loop-work l = length l.code.instrs - l.work.next

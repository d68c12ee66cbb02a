use Rattle.std.proofs.Common.{length, ◌-◌}
use Rattle.request_ends.specs.inner.Marks.{SkipsSome}
use Rattle.request_ends.proofs.marks.Marks.skip.Given as goal

abbrev pub invariant-loop-self : goal.invariant-loop-self
invariant-loop-self l = SkipsSome l.fn.self
    (record { list = l.self-inside.list.items; places = l.self-inside.list.cap - length l.self-inside.list.items })

abbrev pub decreases-loop-self : goal.decreases-loop-self
decreases-loop-self l = length l.self-inside.list.items

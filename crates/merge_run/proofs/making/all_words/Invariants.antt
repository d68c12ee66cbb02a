use Rattle.std.proofs.Common.{◌-◌, ◌≤◌}
use Rattle.merge_run.specs.inner.Making.{AreUnused}
use Rattle.merge_run.proofs.making.all_words.Given as goal

abbrev pub invariant-loop-done : goal.invariant-loop-done
invariant-loop-done l = record { unused : AreUnused l.done l.words.items l.seats.items; most : l.done ≤ l.count }

abbrev pub decreases-loop-done : goal.decreases-loop-done
decreases-loop-done l = l.count - l.done

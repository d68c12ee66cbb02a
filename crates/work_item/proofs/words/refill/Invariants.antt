use Rattle.std.proofs.Common.{◌≡◌}
use Rattle.work_item.proofs.Laying.{laid}
use Rattle.work_item.proofs.words.refill.Given as goal

abbrev pub invariant-loop-index : goal.invariant-loop-index
invariant-loop-index l = l.words ≡ laid l.index l.first l.fn.words

use Rattle.std.proofs.Common.{◌≡◌}
use Rattle.stack_code.specs.inner.Work.{IsWork, HasEntries}
use Rattle.stack_code.proofs.work.Work.begin.Given as goal

abbrev pub invariant-loop-number : goal.invariant-loop-number
invariant-loop-number l = record {
  work : IsWork l.code l.self.table.items l.self.found.items 0;
  entries : HasEntries l.code l.self.table.items l.number-index;
  next : l.self.next ≡ 0;
}

use Rattle.graph_ranks.specs.inner.Search.{IsSearch, Keeps, left}
use Rattle.graph_ranks.proofs.search.Search.finish.Given as goal

abbrev pub invariant-loop-a : goal.invariant-loop-a
invariant-loop-a l = record {
  search : IsSearch l.fn.ways l.self.marks.items l.self.path.items l.self.count;
  keeps : Keeps l.fn.self.marks.items l.self.marks.items;
}

abbrev pub decreases-loop-a : goal.decreases-loop-a
decreases-loop-a l = left l.self.marks.items

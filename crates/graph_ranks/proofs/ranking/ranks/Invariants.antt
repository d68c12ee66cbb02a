use Rattle.std.proofs.Common.{◌≡◌, ℕ, ◌<◌, [], Some, replicate}
use Rattle.std.specs.Prelude.{slice_get}
use Rattle.graph_ranks.specs.declared.search.Mark.TheVariants.{New}
use Rattle.graph_ranks.specs.inner.Search.{IsSearch}
use Rattle.graph_ranks.proofs.ranking.ranks.Given as goal

abbrev pub invariant-loop : goal.invariant-loop
invariant-loop l = l.marks.items ≡ replicate l.counter New

abbrev pub invariant-loop-root : goal.invariant-loop-root
invariant-loop-root l = record {
  search : IsSearch l.ways l.search.marks.items l.search.path.items l.search.count;
  empty : l.search.path.items ≡ [];
  none : (k : ℕ) → k < l.root → slice_get l.search.marks.items k ≡ Some New → ⊥;
}

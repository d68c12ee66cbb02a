-- Ways through a graph.
use Rattle.std.specs.Prelude.{◌≡◌, ℕ, zero, suc, ◌<◌, ◌⊎◌, List, length, Some, slice_get, slice_index}
use Rattle.graph_ranks.specs.declared.graph.Ways.{Ways}

-- a way leads from the one point to the other
abbrev pub Goes : List Ways → ℕ → ℕ → Type 0
Goes graph from to = (ways : Ways) × (slice_get graph from ≡ Some ways) × ((ways.one ≡ Some to) ⊎ (ways.other ≡ Some to))

-- so many ways, one after the other, lead from the one to the other
abbrev pub Way : List Ways → ℕ → ℕ → ℕ → Type 0
Way graph zero from to = from ≡ to
Way graph (suc count) from to = (next : ℕ) × (Goes graph from next × Way graph count next to)

-- from some point at least one way leads back to it
abbrev pub HasCycle : List Ways → Type 0
HasCycle graph = (point : ℕ) × ((count : ℕ) × Way graph (suc count) point point)

-- every way leads to a point of the graph
abbrev pub IsInside : List Ways → Type 0
IsInside graph = (from to : ℕ) → Goes graph from to → to < length graph

-- a rank for each point, which falls along every way
pub record IsRanking (graph : List Ways) (ranks : List ℕ) : Type 0 where
  pub long : length ranks ≡ length graph
  pub falls : (from to : ℕ) → Goes graph from to → slice_index ranks to < slice_index ranks from

-- A graph that has a ranking has no cycle: along so many ways a rank falls by as many at least, by induction on their number, so a way back to
-- where it began would have a rank below itself.
use Rattle.std.proofs.Common.{◌≡◌, ℕ, zero, suc, ◌+◌, ◌<◌, ◌≤◌, List, subst, arith}
use Rattle.std.specs.Prelude.{slice_index}
use Rattle.graph_ranks.specs.declared.graph.Ways.{Ways}
use Rattle.graph_ranks.specs.Graph.{Way, HasCycle, IsRanking}

-- along so many ways a rank falls by as much or more
pub falls_along : {g : List Ways} {ranks : List ℕ} → IsRanking g ranks → (count from to : ℕ) → Way g count from to → slice_index ranks to + count ≤ slice_index ranks from
falls_along {ranks} r zero from to way = let e : from ≡ to = way in subst (λ (k : ℕ). slice_index ranks k + 0 ≤ slice_index ranks from) e (omega arith)
falls_along {ranks} r (suc count) from to way =
    let next : ℕ = way.0 in
    let one : slice_index ranks next < slice_index ranks from = r.falls from next way.1.0 in
    let rest : slice_index ranks to + count ≤ slice_index ranks next = falls_along r count next to way.1.1 in
    omega arith

pub no_cycle : {g : List Ways} {ranks : List ℕ} → IsRanking g ranks → HasCycle g → ⊥
no_cycle {ranks} r c = let h : slice_index ranks c.0 + suc c.1.0 ≤ slice_index ranks c.0 = falls_along r (suc c.1.0) c.0 c.0 c.1.1 in omega arith

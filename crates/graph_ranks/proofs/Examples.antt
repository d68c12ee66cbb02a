-- What the definitions of Graph say of graphs of two and three points. A way is shown by the points on it, and that there is none by the two ways
-- that its point has (`goes_so`); that there is no cycle, by a ranking.
use Rattle.std.proofs.Common.{◌≡◌, ◌⊎◌, inl, inr, refl, sym, ◌∙◌, subst, ℕ, zero, suc, ◌<◌, List, [], ◌∷◌, Option, None, Some, arith}
use Rattle.std.specs.Prelude.{slice_get, slice_index}
use Rattle.graph_ranks.specs.declared.graph.Ways.{Ways}
use Rattle.graph_ranks.specs.Graph.{Goes, Way, HasCycle, IsInside, IsRanking}
use Rattle.graph_ranks.proofs.Apart.{no_cycle}

abbrev pub ways : Option ℕ → Option ℕ → Ways
ways one other = record { one = one; other = other }

-- 0 leads to 1 and to 2, and 1 leads to 2, by its second way
abbrev pub graph : List Ways
graph = ways (Some 1) (Some 2) ∷ ways None (Some 2) ∷ ways None None ∷ []

-- ---- what the examples go by: the ways of a point that is known

same_ways : {x y : Ways} → Some x ≡ Some y → x ≡ y
same_ways e = cc

same_point : {m n : ℕ} → Some m ≡ Some n → m ≡ n
same_point e = cc

goes_so : (g : List Ways) (from : ℕ) {to : ℕ} (w : Ways) → slice_get g from ≡ Some w → Goes g from to → (w.one ≡ Some to) ⊎ (w.other ≡ Some to)
goes_so g from {to} w here (v, is, way) = subst (λ (w : Ways). (w.one ≡ Some to) ⊎ (w.other ≡ Some to)) (same_ways (sym is ∙ here)) way

-- ---- ways

pub by_the_first : Goes graph 0 1
by_the_first = (ways (Some 1) (Some 2), refl, inl refl)

pub by_the_second : Goes graph 0 2
by_the_second = (ways (Some 1) (Some 2), refl, inr refl)

pub not_back : Goes graph 1 0 → ⊥
not_back h = elim (goes_so graph 1 (ways None (Some 2)) refl h) [ inl e ↦ cc | inr e ↦ no (same_point e) ] where
  no : ◌≡◌ {A = ℕ} 2 0 → ⊥
  no e = omega (arith, e)

-- two ways, one after the other; and by no way a point leads to itself
pub two_ways : Way graph 2 0 2
two_ways = (1, (by_the_first, (2, ((ways None (Some 2), refl, inr refl), refl))))

pub no_way : Way graph 0 1 1
no_way = refl

pub no_way_leads_nowhere_else : Way graph 0 1 2 → ⊥
no_way_leads_nowhere_else e = omega (arith, e)

-- ---- ranks

pub inside : IsInside graph
inside zero to h = elim (goes_so graph 0 (ways (Some 1) (Some 2)) refl h) [ inl e ↦ let k : 1 ≡ to = same_point e in omega arith | inr e ↦ let k : 2 ≡ to = same_point e in omega arith ]
inside (suc zero) to h = elim (goes_so graph 1 (ways None (Some 2)) refl h) [ inl e ↦ cc | inr e ↦ let k : 2 ≡ to = same_point e in omega arith ]
inside (suc (suc zero)) to h = elim (goes_so graph 2 (ways None None) refl h) [ inl e ↦ cc | inr e ↦ cc ]
inside (suc (suc (suc from))) to (w, is, way) = cc

-- a way to a point at the length of the graph
pub not_inside : IsInside (ways (Some 1) None ∷ []) → ⊥
not_inside h = let lt : 1 < 1 = h 0 1 (ways (Some 1) None, refl, inl refl) in omega arith

pub ranked : IsRanking graph (2 ∷ 1 ∷ 0 ∷ [])
ranked = record { long = refl; falls = falls } where
  at : {to : ℕ} (k n : ℕ) → k ≡ to → slice_index (2 ∷ 1 ∷ 0 ∷ []) k < n → slice_index (2 ∷ 1 ∷ 0 ∷ []) to < n
  at k n e lt = subst (λ (k : ℕ). slice_index (2 ∷ 1 ∷ 0 ∷ []) k < n) e lt

  falls : (from to : ℕ) → Goes graph from to → slice_index (2 ∷ 1 ∷ 0 ∷ []) to < slice_index (2 ∷ 1 ∷ 0 ∷ []) from
  falls zero to h = elim (goes_so graph 0 (ways (Some 1) (Some 2)) refl h) [ inl e ↦ at 1 2 (same_point e) (omega arith) | inr e ↦ at 2 2 (same_point e) (omega arith) ]
  falls (suc zero) to h = elim (goes_so graph 1 (ways None (Some 2)) refl h) [ inl e ↦ cc | inr e ↦ at 2 1 (same_point e) (omega arith) ]
  falls (suc (suc zero)) to h = elim (goes_so graph 2 (ways None None) refl h) [ inl e ↦ cc | inr e ↦ cc ]
  falls (suc (suc (suc from))) to (w, is, way) = cc

-- a rank that stands still along a way
pub ranks_that_stand_still : IsRanking graph (1 ∷ 0 ∷ 0 ∷ []) → ⊥
ranks_that_stand_still r = let lt : 0 < 0 = r.falls 1 2 (ways None (Some 2), refl, inr refl) in omega arith

-- a rank for a point that there is not
pub a_rank_too_many : IsRanking graph (2 ∷ 1 ∷ 0 ∷ 0 ∷ []) → ⊥
a_rank_too_many r = let e = r.long in omega (arith, e)

-- ---- cycles

pub no_way_back : HasCycle graph → ⊥
no_way_back = no_cycle ranked

-- a point that leads to itself, and two that lead to each other
pub to_itself : HasCycle (ways None (Some 0) ∷ [])
to_itself = (0, (0, (0, ((ways None (Some 0), refl, inr refl), refl))))

pub round_and_back : HasCycle (ways (Some 1) None ∷ ways (Some 0) None ∷ [])
round_and_back = (1, (1, (0, ((ways (Some 0) None, refl, inl refl), (1, ((ways (Some 1) None, refl, inl refl), refl))))))

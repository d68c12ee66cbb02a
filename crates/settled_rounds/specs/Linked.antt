-- Parties in a list, and the links between them.
use Rattle.std.specs.Prelude.{◌≡◌, ◌≢◌, ℕ, ◌<◌, List, [], ◌∷◌, Some, slice_get}
use Rattle.settled_rounds.specs.declared.party.Way.{Way}

-- each link goes from one of so many parties to another
abbrev pub AreWays : ℕ → List Way → Type 0
AreWays parties ways = (l : ℕ) (w : Way) → slice_get ways l ≡ Some w → (w.from < parties) × (w.to < parties) × (w.from ≢ w.to)

module _ {P : Type 0} where
  -- each party of the first list stands in this relation to the one at its place in the second
  abbrev pub Pointwise : (P → P → Type 0) → List P → List P → Type 0
  Pointwise R [] [] = Unit {0}
  Pointwise R [] (q ∷ qs) = ⊥
  Pointwise R (p ∷ ps) [] = ⊥
  Pointwise R (p ∷ ps) (q ∷ qs) = R p q × Pointwise R ps qs

  -- the owner and the peer of each link stand in this relation
  abbrev pub OnLinks : (ℕ → P → P → Type 0) → List Way → List P → Type 0
  OnLinks R ways parties = (l : ℕ) (w : Way) (a b : P) → slice_get ways l ≡ Some w → slice_get parties w.from ≡ Some a
      → slice_get parties w.to ≡ Some b → R l a b
